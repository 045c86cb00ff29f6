use Rattle.std.proofs.Common.{◌≡◌, ap, not, Err}
use Rattle.std.proofs.lemmas.Result.{err_from_is_err_and}
use Rattle.c_runner.proofs.AdvanceLemmas.{fetch_failed}
use Rattle.c_runner.proofs.reading.next_item.Goals as goal

pub returns-in_err-next-clause-fetches : goal.returns-in_err-next-clause-fetches
returns-in_err-next-clause-fetches g c =
    let p = err_from_is_err_and c.from_residual-in_err-next.result c.from_residual-in_err-next.ensures.1 in
    let after = c.is_ready-will_read.ensures.after in
    rw (p.1, p.2) (fetch_failed c.args.reader.now c.next.new.self c.args.output.now c.hand_on_if.new.self g.O.Sink.tells (g.O.Sink.taken c.args.out.now) (g.O.Sink.taken c.hand_on_if.new.out) (c.hand_on_if.new.out ≡ c.args.out.now)
    g.I.Source.tells (g.I.Source.left c.args.input.now) (g.I.Source.left c.next.new.input) (not c.is_ready-will_read.result) c.in_err-next.field-0.0
    c.in_ok-hand_on_if.ensures.taken (ap not c.is_ready-will_read.ensures.ready) c.in_ok-hand_on_if.ensures.emptied
    (rw after at c.in_err-next.ensures.takes) (λ e. rw after at (c.in_err-next.ensures.reads (ap Err e))))

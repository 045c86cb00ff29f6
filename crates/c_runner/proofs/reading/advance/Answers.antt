use Rattle.std.proofs.Common.{◌≡◌, refl}
use Rattle.std.proofs.lemmas.Result.{err_from_is_err_and}
use Rattle.c_core.specs.Step.{step}
use Rattle.c_runner.proofs.AdvanceLemmas.{asks_of, moves_at_once, stalls_at_once, moves_on, advance_failed, receive_refused}
use Rattle.c_runner_deeds.specs.States.{seen}
use Rattle.c_runner.proofs.reading.advance.Goals as goal

pub returns-in-Ok-clause-advances : goal.returns-in-Ok-clause-advances
returns-in-Ok-clause-advances g c =
    moves_at_once (step c.args.code.now) (seen c.args.state.now) (seen c.step.new.state) c.args.reader.now g.O.Sink.tells (g.O.Sink.taken c.args.out.now) (c.args.out.now ≡ c.args.out.now)
    g.I.Source.tells (g.I.Source.left c.args.input.now) c.in-Ok.ending refl c.in-Ok.ensures

pub returns-in_err-item-in-Err-Waits-clause-advances :
    goal.returns-in_err-item-in-Err-Waits-clause-advances
returns-in_err-item-in-Err-Waits-clause-advances g c =
    let p = err_from_is_err_and c.from_residual.result c.from_residual.ensures.1 in
    rw (p.1, p.2) (advance_failed (step c.args.code.now) (seen c.args.state.now) (seen c.step.new.state) (seen c.args.state.now) c.in-Err-Waits.target c.args.reader.now c.next_item.new.reader c.next_item.new.output
    g.O.Sink.tells (g.O.Sink.taken c.args.out.now) (g.O.Sink.taken c.next_item.new.out) (c.next_item.new.out ≡ c.args.out.now)
    g.I.Source.tells (g.I.Source.left c.args.input.now) (g.I.Source.left c.next_item.new.input) c.in_err-item-in-Err-Waits.field-0.0
    (asks_of (step c.args.code.now) (seen c.args.state.now) (seen c.step.new.state) c.in-Err-Waits.field-0 c.in-Err-Waits.target c.in-Err-Waits.field-0-is c.in-Err-Waits.ensures) c.in_err-item-in-Err-Waits.ensures.fetches)

pub returns-in_err-receive-in-Err-Waits-clause-advances :
    goal.returns-in_err-receive-in-Err-Waits-clause-advances
returns-in_err-receive-in-Err-Waits-clause-advances g c =
    let p = err_from_is_err_and c.from_residual-in_err-receive-in-Err-Waits.result c.from_residual-in_err-receive-in-Err-Waits.ensures.1 in
    rw (p.1, p.2) (receive_refused (step c.args.code.now) (seen c.args.state.now) (seen c.step.new.state) (seen c.args.state.now) c.in-Err-Waits.target c.in_ok-item-in-Err-Waits.item c.args.reader.now c.next_item.new.reader c.next_item.new.output
    g.O.Sink.tells (g.O.Sink.taken c.args.out.now) (g.O.Sink.taken c.next_item.new.out) (c.next_item.new.out ≡ c.args.out.now)
    g.I.Source.tells (g.I.Source.left c.args.input.now) (g.I.Source.left c.next_item.new.input)
    (asks_of (step c.args.code.now) (seen c.args.state.now) (seen c.step.new.state) c.in-Err-Waits.field-0 c.in-Err-Waits.target c.in-Err-Waits.field-0-is c.in-Err-Waits.ensures) c.in_ok-item-in-Err-Waits.ensures.fetches.0 c.in_ok-item-in-Err-Waits.ensures.fetches.1 c.in_ok-item-in-Err-Waits.ensures.fetches.3)

pub returns-in_ok-receive-in-Err-Waits-clause-advances :
    goal.returns-in_ok-receive-in-Err-Waits-clause-advances
returns-in_ok-receive-in-Err-Waits-clause-advances g c =
    moves_on (step c.args.code.now) (seen c.args.state.now) (seen c.step.new.state) (seen c.receive.new.state) c.in-Err-Waits.target c.in_ok-item-in-Err-Waits.item c.args.reader.now c.next_item.new.reader
    g.O.Sink.tells (g.O.Sink.taken c.args.out.now) (g.O.Sink.taken c.next_item.new.out) (c.next_item.new.out ≡ c.args.out.now)
    g.I.Source.tells (g.I.Source.left c.args.input.now) (g.I.Source.left c.next_item.new.input) c.next_item.new.output c.in_ok-receive-in-Err-Waits.field-0
    (asks_of (step c.args.code.now) (seen c.args.state.now) (seen c.step.new.state) c.in-Err-Waits.field-0 c.in-Err-Waits.target c.in-Err-Waits.field-0-is c.in-Err-Waits.ensures) c.in_ok-item-in-Err-Waits.ensures.fetches.0 c.in_ok-item-in-Err-Waits.ensures.fetches.1 c.in_ok-item-in-Err-Waits.ensures.fetches.2 c.in_ok-item-in-Err-Waits.ensures.fetches.3
    c.in_ok-receive-in-Err-Waits.ensures

pub returns-in-Err-Memory-clause-advances : goal.returns-in-Err-Memory-clause-advances
returns-in-Err-Memory-clause-advances g c =
    stalls_at_once (step c.args.code.now) (seen c.args.state.now) c.args.reader.now g.O.Sink.tells (g.O.Sink.taken c.args.out.now) (c.args.out.now ≡ c.args.out.now)
    g.I.Source.tells (g.I.Source.left c.args.input.now) refl

use Rattle.std.proofs.Common.{◌≡◌, sym, ◌∙◌}
use Rattle.std.proofs.lemmas.Result.{err_from_is_err_and}
use Rattle.c_runner_lines.specs.Reading.{Refuses}
use Rattle.c_runner_lines.specs.Steps.{HoldsMore, Loses}
use Rattle.c_runner_lines.proofs.TakeLemmas.{not_false, takes_more, refused, HoldsMore-then, never_ready, not_ready}
use Rattle.c_runner_lines.proofs.reader.LineReader.gather.Goals as goal

pub reading-preserved : goal.reading-preserved
reading-preserved g c =
    let wait = not_false _ (sym c.wants_more.ensures ∙ c.reading-test.true) in
    let after = c.line_end-end-in-reading.ensures.after in
    let counted : g.I.Source.faults c.fill.new.input ≡ g.I.Source.faults c.reading.input = c.in_ok-fill.ensures.counted in
    record {
      calm = counted ∙ c.reading.invariant.calm;
      searched = rw after c.line_end-end-in-reading.ensures.searched;
      takes = rw after (takes_more c.args.self.now c.reading.self g.I.Source.tells (g.I.Source.left c.args.input.now) (g.I.Source.left c.reading.input) (g.I.Source.left c.fill.new.input)
          c.reading.invariant.takes wait (λ r. (c.reading.invariant.quiet r).0)
          (HoldsMore c.reading.self c.fill.new.self) (HoldsMore c.args.self.now c.fill.new.self)
          c.in_ok-fill.ensures.takes (HoldsMore-then c.args.self.now c.reading.self c.fill.new.self));
      quiet = λ r. absurd (never_ready c.args.self.now c.reading.self wait (c.reading.invariant.quiet r).0 r);
      end = λ t s. rw after (c.in_ok-fill.ensures.end t);
    }

pub returns-in_err-fill-clause-takes : goal.returns-in_err-fill-clause-takes
returns-in_err-fill-clause-takes g c =
    let p = err_from_is_err_and c.from_residual.result c.from_residual.ensures.1 in
    let wait = not_false _ (sym c.wants_more.ensures ∙ c.reading-test.true) in
    rw (p.1, p.2) (takes_more c.args.self.now c.reading.self g.I.Source.tells (g.I.Source.left c.args.input.now) (g.I.Source.left c.reading.input) (g.I.Source.left c.fill.new.input)
    c.reading.invariant.takes wait (λ r. (c.reading.invariant.quiet r).0)
    (Loses c.in_err-fill.field-0.0) (Refuses c.in_err-fill.field-0.0 c.args.self.now)
    c.in_err-fill.ensures.takes (λ taken more. refused c.args.self.now c.reading.self c.in_err-fill.field-0.0 taken more wait))

pub returns-in_err-fill-clause-reads : goal.returns-in_err-fill-clause-reads
returns-in_err-fill-clause-reads g c =
    let p = err_from_is_err_and c.from_residual.result c.from_residual.ensures.1 in
    let wait = not_false _ (sym c.wants_more.ensures ∙ c.reading-test.true) in
    rw (p.1) (not_ready c.args.self.now c.reading.self wait (λ r. (c.reading.invariant.quiet r).0))

use Rattle.std.proofs.Common.{◌≡◌, refl, sym, ap, subst, ◌∙◌, ◌+◌, arith, length, Some}
use Rattle.std.proofs.lemmas.Option.{slice_get_read}
use Rattle.std.specs.Prelude.{slice_get}
use Rattle.c_core.specs.Laws.{Reaches, Here}
use Rattle.c_runner_deeds.specs.States.{state_of, seen}
use Rattle.c_runner.proofs.StepLemmas.{reaches_on}
use Rattle.c_runner.proofs.lines.do_lines.Goals as goal

pub returns-in_default-clause-reaches : goal.returns-in_default-clause-reaches
returns-in_default-clause-reaches c = λ rest. Here (state_of rest (seen c.args.state.now))

pub lines-init : goal.lines-init
lines-init c = record {
  reaches = λ rest. Here (state_of rest (seen c.args.state.now));
  output = refl;
  func = refl;
  most = omega arith;
}

pub do_line-more-requires-clause-line : goal.do_line-more-requires-clause-line
do_line-more-requires-clause-line c =
    ap (λ ls. slice_get ls c.lines.state.top.place) (sym c.as_slice-lines.ensures)
    ∙ slice_get_read c.as_slice-lines.result.now (length c.as_slice-lines.result.now) c.lines.state.top.place c.in-Some-get.line.now refl c.in-Some-get.ensures.lookup.3.0 c.in-Some-get.ensures.lookup.1

pub returns-then-more-eq0-clause-reaches : goal.returns-then-more-eq0-clause-reaches
returns-then-more-eq0-clause-reaches c = λ rest.
    let same : c.lines.done + c.do_line-more.result ≡ c.lines.done = omega (arith, c.if-more-eq0.true) in
    subst (λ k. Reaches c.args.code.now k (state_of rest (seen c.args.state.now)) (state_of rest (seen c.do_line-more.new.state))) same
    (reaches_on c.args.code.now c.lines.done c.do_line-more.result (state_of rest (seen c.args.state.now)) (state_of rest (seen c.lines.state)) (state_of rest (seen c.do_line-more.new.state)) (c.lines.invariant.reaches rest) (c.do_line-more.ensures.did.0 rest))

pub lines-preserved : goal.lines-preserved
lines-preserved c = record {
  reaches = λ rest.
      reaches_on c.args.code.now c.lines.done c.do_line-more.result (state_of rest (seen c.args.state.now)) (state_of rest (seen c.lines.state)) (state_of rest (seen c.do_line-more.new.state)) (c.lines.invariant.reaches rest) (c.do_line-more.ensures.did.0 rest);
  output = c.do_line-more.ensures.did.2 ∙ c.lines.invariant.output;
  func = c.do_line-more.ensures.did.1 ∙ c.lines.invariant.func;
  most = omega (arith, c.do_line-more.ensures.most, c.lines-test.true);
}

use Rattle.std.proofs.Common.{◌∙◌, ◌+◌, arith}
use Rattle.c_runner_deeds.specs.States.{state_of, seen}
use Rattle.c_runner.proofs.FrameLemmas.{one_passed, too_many, word_more}
use Rattle.c_runner_deeds.proofs.OursLemmas.{words_more}
use Rattle.c_runner.proofs.frames.pass.Goals as goal

pub returns-in-Err-clause-passed : goal.returns-in-Err-clause-passed
returns-in-Err-clause-passed c =
    λ rest go.
    c.loop-i.invariant.passed rest go
    ∙ one_passed (state_of rest (seen c.args.state.now)) c.args.parameters.now c.args.args.now c.loop-i.i c.index-parameters-i.result c.in-Some.argument.now _ (omega arith) c.index-parameters-i.is c.in-Some.ensures.lookup.3.0 c.in-Some.ensures.lookup.1
    ∙ c.in-Err.ensures.passed rest _

pub loop-i-preserved : goal.loop-i-preserved
loop-i-preserved c = record {
  passed = λ rest go.
      c.loop-i.invariant.passed rest go
      ∙ one_passed (state_of rest (seen c.args.state.now)) c.args.parameters.now c.args.args.now c.loop-i.i c.index-parameters-i.result c.in-Some.argument.now _ (omega arith) c.index-parameters-i.is c.in-Some.ensures.lookup.3.0 c.in-Some.ensures.lookup.1
      ∙ c.in-Ok.ensures.passed rest _
      ∙ word_more (state_of rest (seen c.args.state.now)) c.args.parameters.now c.args.args.now (c.loop-i.i + 1) c.loop-i.words _ c.in-Ok.word go c.in_ok-push-in-Ok.ensures.ok;
  ours = words_more c.args.state.now.cells c.loop-i.words c.in-Ok.word _ c.loop-i.invariant.ours c.in-Ok.ensures.ours c.in_ok-push-in-Ok.ensures.ok;
}

pub returns-then-args-parameters-clause-passed : goal.returns-then-args-parameters-clause-passed
returns-then-args-parameters-clause-passed c =
    λ rest go.
    c.loop-i.invariant.passed rest go
    ∙ too_many (state_of rest (seen c.args.state.now)) c.args.parameters.now c.args.args.now c.loop-i.i _ (omega arith) (omega arith)

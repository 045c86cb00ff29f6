use Rattle.std.proofs.Common.{◌∙◌, ◌+◌, ◌∷◌, sym, arith}
use Rattle.c_runner_deeds.specs.States.{state_of, seen}
use Rattle.c_runner.proofs.FrameLemmas.{word_more}
use Rattle.c_runner.proofs.MethodLemmas.{passing, passed_one, none_passed, more_passed, every_passed}
use Rattle.c_runner_deeds.proofs.OursLemmas.{words_more}
use Rattle.c_runner.proofs.methods.pass_variables.Goals as goal

pub returns-in_default-clause-passed : goal.returns-in_default-clause-passed
returns-in_default-clause-passed c =
    λ rest go.
    c.loop-i.invariant.passed rest go
    ∙ none_passed (state_of rest (seen c.args.state.now)) c.args.parameters.now (c.args.object ∷ c.args.args.now) c.loop-i.i _ (omega arith) (sym c.in_default.ensures)

pub returns-in-Err-clause-passed : goal.returns-in-Err-clause-passed
returns-in-Err-clause-passed c =
    λ rest go.
    c.loop-i.invariant.passed rest go
    ∙ passed_one (state_of rest (seen c.args.state.now)) c.args.parameters.now (c.args.object ∷ c.args.args.now) c.loop-i.i c.index-parameters-i.result c.in-Some.x _ (omega arith) c.index-parameters-i.is (sym c.in-Some.ensures)
    ∙ c.in-Err.ensures.passed rest _

pub loop-i-preserved : goal.loop-i-preserved
loop-i-preserved c = record {
  passed = λ rest go.
      c.loop-i.invariant.passed rest go
      ∙ passed_one (state_of rest (seen c.args.state.now)) c.args.parameters.now (c.args.object ∷ c.args.args.now) c.loop-i.i c.index-parameters-i.result c.in-Some.x _ (omega arith) c.index-parameters-i.is (sym c.in-Some.ensures)
      ∙ c.in-Ok.ensures.passed rest _
      ∙ word_more (state_of rest (seen c.args.state.now)) c.args.parameters.now (passing (c.args.object ∷ c.args.args.now)) (c.loop-i.i + 1) c.loop-i.words _ c.in-Ok.word go c.in_ok-push-in-Ok.ensures.ok;
  ours = words_more c.args.state.now.cells c.loop-i.words c.in-Ok.word _ c.loop-i.invariant.ours c.in-Ok.ensures.ours c.in_ok-push-in-Ok.ensures.ok;
}

pub returns-then-args-parameters-clause-passed : goal.returns-then-args-parameters-clause-passed
returns-then-args-parameters-clause-passed c =
    λ rest go.
    c.loop-i.invariant.passed rest go
    ∙ more_passed (state_of rest (seen c.args.state.now)) c.args.parameters.now (c.args.object ∷ c.args.args.now) c.loop-i.i _ (omega arith) (omega arith)

pub returns-clause-passed : goal.returns-clause-passed
returns-clause-passed c =
    λ rest go.
    c.loop-i.invariant.passed rest go
    ∙ every_passed (state_of rest (seen c.args.state.now)) c.args.parameters.now (c.args.object ∷ c.args.args.now) c.loop-i.i c.loop-i.words go (omega arith) (omega arith)

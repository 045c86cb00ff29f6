use Rattle.std.proofs.Common.{sym, ap, ◌∙◌}
use Rattle.value_core.specs.Exceptions.{class_named}
use Rattle.c_core.specs.Step.{pending_exception, truth_word}
use Rattle.c_runner_deeds.specs.States.{state_of, seen}
use Rattle.c_runner_deeds.proofs.ExceptionLemmas.{none_matches, matches_is}
use Rattle.c_runner_deeds.proofs.state.State.match_pending.Goals as goal

pub returns-in_default-pending_class : goal.returns-in_default-pending_class
returns-in_default-pending_class c =
    λ rest. none_matches (state_of rest (seen c.args.self.now)) c.args.target (class_named c.args.class.now) (pending_exception (state_of rest (seen c.args.self.now))) (sym c.in_default-pending_class.is ∙ c.pending_class.ensures rest)

pub returns : goal.returns
returns c =
    λ rest. matches_is (state_of rest (seen c.args.self.now)) c.args.target c.in-Some.class c.in-Some-pending_class.raised (class_named c.args.class.now) (pending_exception (state_of rest (seen c.args.self.now))) _ _
    (sym c.in-Some.is ∙ c.named.ensures) (sym c.in-Some-pending_class.is ∙ c.pending_class.ensures rest) (c.truth.ensures ∙ ap truth_word c.is_under.ensures) (c.answer.ensures rest)

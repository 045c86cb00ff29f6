use Rattle.std.proofs.Common.{sym, ap, ◌∙◌, true, ◌∷◌}
use Rattle.c_core.specs.Functions.{trait_method_at}
use Rattle.c_core.specs.Step.{method_called}
use Rattle.c_runner.specs.Methods.{method_begins, class_calls}
use Rattle.c_runner_deeds.specs.States.{state_of, seen}
use Rattle.c_runner_deeds.proofs.ExceptionLemmas.{follows_on}
use Rattle.c_runner.proofs.methods.call_trait_method.Goals as goal

pub returns-in-Err : goal.returns-in-Err
returns-in-Err c =
    λ rest.
    c.receiver.ensures rest c.args.code.now c.args.target c.args.args.now (trait_method_at c.args.name.now c.args.number)
    ∙ ap (λ r. class_calls c.args.code.now c.args.target (c.args.object ∷ c.args.args.now) (trait_method_at c.args.name.now c.args.number) r (state_of rest (seen c.args.state.now))) c.in-Err.is

pub returns-in-Ok : goal.returns-in-Ok
returns-in-Ok c =
    follows_on
    (method_begins c.args.code.now c.args.target (c.args.object ∷ c.args.args.now) c.trait_method-func.result)
    (λ s. method_called true s c.args.code.now c.args.target c.args.object c.args.args.now (trait_method_at c.args.name.now c.args.number))
    (seen c.args.state.now) (seen c.call_method.new.state) c.call_method.result
    (λ rest.
    let s = state_of rest (seen c.args.state.now) in
    c.receiver.ensures rest c.args.code.now c.args.target c.args.args.now (trait_method_at c.args.name.now c.args.number)
    ∙ ap (λ r. class_calls c.args.code.now c.args.target (c.args.object ∷ c.args.args.now) (trait_method_at c.args.name.now c.args.number) r s) c.in-Ok.is
    ∙ ap (λ f. method_begins c.args.code.now c.args.target (c.args.object ∷ c.args.args.now) f s) (sym c.trait_method-func.ensures))
    c.call_method.ensures

use Rattle.std.proofs.Common.{sym, ap, ◌∙◌, true, Some}
use Rattle.c_core.specs.declared.code.Line.TheVariants.{Virtual, TraitCall}
use Rattle.c_core.specs.Functions.{method_at, trait_method_at}
use Rattle.c_core.specs.Step.{method_called, step_at}
use Rattle.c_runner.specs.Parts.{plain_step}
use Rattle.c_runner_deeds.specs.States.{state_of, seen}
use Rattle.c_runner.proofs.StateLemmas.{quiet, is_plain, calls_nothing, calls, line_calls}
use Rattle.c_runner.proofs.step.line_step.Goals as goal

pub returns-in-None : goal.returns-in-None
returns-in-None c =
    λ rest. (rest.made, calls_nothing c.args.code.now c.args.function.now c.args.line.now c.in-Call.x c.in-Call.field-1 c.in-Call.args c.args.target c.in-Call.is c.requires.target rest (seen c.args.state.now) c.in-None.is)

pub returns-in-Some : goal.returns-in-Some
returns-in-Some c =
    calls c.args.code.now c.args.function.now c.args.line.now c.in-Call.x c.in-Call.field-1 c.in-Call.args c.args.target c.in-Call.is c.requires.target (seen c.args.state.now) (seen c.call.new.state) c.as_slice.result.now c.in-Some.callee c.call.result c.in-Some.is c.as_slice.ensures c.call.ensures

pub returns-in_ok-call_own_method-in-Virtual : goal.returns-in_ok-call_own_method-in-Virtual
returns-in_ok-call_own_method-in-Virtual c =
    line_calls c.args.code.now c.args.line.now (Virtual c.in-Virtual.x c.in-Virtual.object c.in-Virtual.number c.in-Virtual.args)
    (λ s. method_called true s c.args.code.now c.in-Virtual.x c.in-Virtual.object c.as_slice-in-Virtual.result.now (method_at c.in-Virtual.number))
    c.in_ok-call_own_method-in-Virtual.field-0 (seen c.args.state.now) (seen c.call_own_method.new.state) c.in-Virtual.is
    (λ rest. ap (λ args. method_called true (state_of rest (seen c.args.state.now)) c.args.code.now c.in-Virtual.x c.in-Virtual.object args (method_at c.in-Virtual.number)) (sym c.as_slice-in-Virtual.ensures))
    c.in_ok-call_own_method-in-Virtual.ensures

pub returns-in_ok-call_trait_method-in-TraitCall : goal.returns-in_ok-call_trait_method-in-TraitCall
returns-in_ok-call_trait_method-in-TraitCall c =
    line_calls c.args.code.now c.args.line.now (TraitCall c.in-TraitCall.x c.in-TraitCall.object c.in-TraitCall.name c.in-TraitCall.number c.in-TraitCall.args)
    (λ s. method_called true s c.args.code.now c.in-TraitCall.x c.in-TraitCall.object c.as_slice-in-TraitCall.result.now (trait_method_at c.as_str.result.now c.in-TraitCall.number))
    c.in_ok-call_trait_method-in-TraitCall.field-0 (seen c.args.state.now) (seen c.call_trait_method.new.state) c.in-TraitCall.is
    (λ rest.
    ap (λ args. method_called true (state_of rest (seen c.args.state.now)) c.args.code.now c.in-TraitCall.x c.in-TraitCall.object args (trait_method_at c.in-TraitCall.name c.in-TraitCall.number)) (sym c.as_slice-in-TraitCall.ensures)
    ∙ ap (λ name. method_called true (state_of rest (seen c.args.state.now)) c.args.code.now c.in-TraitCall.x c.in-TraitCall.object c.as_slice-in-TraitCall.result.now (trait_method_at name c.in-TraitCall.number)) (sym c.as_str.ensures))
    c.in_ok-call_trait_method-in-TraitCall.ensures

pub returns-in_ok-plain_line-in_default : goal.returns-in_ok-plain_line-in_default
returns-in_ok-plain_line-in_default c =
    quiet (λ s. plain_step c.args.code.now s c.args.line.now) (λ s. step_at true c.args.code.now s (Some c.args.line.now)) c.in_ok-plain_line-in_default.field-0 (seen c.args.state.now) (seen c.plain_line.new.state)
    (λ rest. is_plain c.args.code.now (state_of rest (seen c.args.state.now)) c.args.line.now c.in_default.not-Call c.in_default.not-Virtual c.in_default.not-TraitCall)
    c.in_ok-plain_line-in_default.ensures

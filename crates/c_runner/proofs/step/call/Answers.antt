use Rattle.std.proofs.Common.{ap, true, Some}
use Rattle.c_core.specs.Step.{called, function_called}
use Rattle.c_runner.specs.Parts.{callee_called}
use Rattle.c_runner_deeds.specs.States.{state_of, seen}
use Rattle.c_runner.proofs.StateLemmas.{quiet, steps_as}
use Rattle.c_runner.proofs.step.call.Goals as goal

pub returns-in-Primitive : goal.returns-in-Primitive
returns-in-Primitive c =
    steps_as (λ s. called true s c.args.code.now c.args.target c.args.args.now c.in-Primitive.primitive) (callee_called c.args.code.now c.args.target c.args.args.now c.args.callee) (seen c.args.state.now) (seen c.call_primitive.new.state) c.call_primitive.result
    (λ rest. ap (λ k. callee_called c.args.code.now c.args.target c.args.args.now k (state_of rest (seen c.args.state.now))) c.in-Primitive.is)
    c.call_primitive.ensures

pub returns-in_ok-enter-in-Function : goal.returns-in_ok-enter-in-Function
returns-in_ok-enter-in-Function c =
    quiet (λ s. function_called true s c.args.code.now c.args.target c.args.args.now (Some c.in-Function.func)) (callee_called c.args.code.now c.args.target c.args.args.now c.args.callee) c.in_ok-enter-in-Function.field-0 (seen c.args.state.now) (seen c.enter.new.state)
    (λ rest. ap (λ k. callee_called c.args.code.now c.args.target c.args.args.now k (state_of rest (seen c.args.state.now))) c.in-Function.is)
    c.in_ok-enter-in-Function.ensures

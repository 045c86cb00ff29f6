use Rattle.std.proofs.Common.{ap, ◌∙◌, true}
use Rattle.c_core.specs.declared.primitive.Primitive.TheVariants.{Dict, List, Instance, Io}
use Rattle.c_core.specs.Step.{primitive_step}
use Rattle.c_runner.specs.Parts.{quiet_step}
use Rattle.c_runner_deeds.specs.States.{state_of, seen}
use Rattle.c_runner_table.specs.Targets.{class_in}
use Rattle.c_runner.proofs.StateLemmas.{quiet, leads_as, steps_as, is_quiet}
use Rattle.c_runner.proofs.CallLemmas.{class_is}
use Rattle.c_runner.proofs.calls.perform.Goals as goal

pub returns-in_ok-call_dict-in-Dict : goal.returns-in_ok-call_dict-in-Dict
returns-in_ok-call_dict-in-Dict c =
    leads_as (λ s. primitive_step true s c.args.code.now c.args.target c.args.args.now (Dict c.in-Dict.operation)) (λ s. primitive_step true s c.args.code.now c.args.target c.args.args.now c.args.primitive) c.in_ok-call_dict-in-Dict.field-0 (seen c.args.state.now) (seen c.call_dict.new.state)
    (λ rest. ap (primitive_step true (state_of rest (seen c.args.state.now)) c.args.code.now c.args.target c.args.args.now) c.in-Dict.is)
    (c.in_ok-call_dict-in-Dict.ensures c.args.code.now)

pub returns-in_ok-call_list-in-List : goal.returns-in_ok-call_list-in-List
returns-in_ok-call_list-in-List c =
    leads_as (λ s. primitive_step true s c.args.code.now c.args.target c.args.args.now (List c.in-List.operation)) (λ s. primitive_step true s c.args.code.now c.args.target c.args.args.now c.args.primitive) c.in_ok-call_list-in-List.field-0 (seen c.args.state.now) (seen c.call_list.new.state)
    (λ rest. ap (primitive_step true (state_of rest (seen c.args.state.now)) c.args.code.now c.args.target c.args.args.now) c.in-List.is)
    (c.in_ok-call_list-in-List.ensures c.args.code.now)

pub returns-in_ok-call_instance-in-Instance : goal.returns-in_ok-call_instance-in-Instance
returns-in_ok-call_instance-in-Instance c =
    leads_as (λ s. primitive_step true s c.args.code.now c.args.target c.args.args.now (Instance c.in-Instance.operation)) (λ s. primitive_step true s c.args.code.now c.args.target c.args.args.now c.args.primitive) c.in_ok-call_instance-in-Instance.field-0 (seen c.args.state.now) (seen c.call_instance.new.state)
    (λ rest. ap (primitive_step true (state_of rest (seen c.args.state.now)) c.args.code.now c.args.target c.args.args.now) c.in-Instance.is)
    c.in_ok-call_instance-in-Instance.ensures

pub call_instance-requires-clause-class : goal.call_instance-requires-clause-class
call_instance-requires-clause-class c = c.class.ensures ∙ ap class_in c.requires.named ∙ class_is c.args.code.now c.args.args.now

pub returns-in-Io : goal.returns-in-Io
returns-in-Io c =
    steps_as (λ s. primitive_step true s c.args.code.now c.args.target c.args.args.now (Io c.in-Io.operation)) (λ s. primitive_step true s c.args.code.now c.args.target c.args.args.now c.args.primitive) (seen c.args.state.now) (seen c.call_io.new.state) c.call_io.result
    (λ rest. ap (primitive_step true (state_of rest (seen c.args.state.now)) c.args.code.now c.args.target c.args.args.now) c.in-Io.is)
    (c.call_io.ensures c.args.code.now)

pub returns-in_ok-perform_quietly-in_default : goal.returns-in_ok-perform_quietly-in_default
returns-in_ok-perform_quietly-in_default c =
    quiet (quiet_step c.args.code.now c.args.target c.args.args.now c.args.primitive) (λ s. primitive_step true s c.args.code.now c.args.target c.args.args.now c.args.primitive) c.in_ok-perform_quietly-in_default.field-0 (seen c.args.state.now) (seen c.perform_quietly.new.state)
    (λ rest. is_quiet c.args.code.now (state_of rest (seen c.args.state.now)) c.args.target c.args.args.now c.args.primitive c.in_default.not-Dict c.in_default.not-List c.in_default.not-Instance c.in_default.not-Io)
    c.in_ok-perform_quietly-in_default.ensures

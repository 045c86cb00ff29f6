use Rattle.std.proofs.Common.{ap, true}
use Rattle.c_core.specs.declared.primitive.Primitive.TheVariants as prim
use Rattle.c_core.specs.declared.primitive.InstancePrim.TheVariants as instance
use Rattle.c_core.specs.Step.{primitive_step}
use Rattle.c_runner_deeds.specs.States.{state_of, seen}
use Rattle.c_runner_objects.proofs.InstanceLemmas.{leads_on, only_new}
use Rattle.c_runner_objects.proofs.instances.call_instance.Goals as goal

pub returns : goal.returns
returns c =
    leads_on
    (λ s. primitive_step true s c.args.code.now c.args.target c.args.args.now (prim.Instance instance.New))
    (λ s. primitive_step true s c.args.code.now c.args.target c.args.args.now (prim.Instance c.args.operation))
    (seen c.args.state.now) (seen c.new_instance.new.state) c.new_instance.result
    (λ rest. ap (λ p. primitive_step true (state_of rest (seen c.args.state.now)) c.args.code.now c.args.target c.args.args.now (prim.Instance p)) (only_new c.args.operation))
    c.new_instance.ensures

use Rattle.c_core.specs.declared.primitive.Primitive.TheVariants.{Object}
use Rattle.c_runner_deeds.specs.States.{state_of, seen}
use Rattle.c_runner_deeds.proofs.DeedLemmas.{does_deed, object_called}
use Rattle.c_runner_deeds.proofs.state.State.call_object.Goals as goal

pub returns : goal.returns
returns c =
    does_deed (Object c.args.primitive) c.args.target c.args.args.now (seen c.args.self.now) (seen c.perform_deed.new.self) c.perform_deed.result c.object_deed-deed.result _
    (λ code rest. object_called (state_of rest (seen c.args.self.now)) c.args.target code c.args.args.now c.args.primitive) c.object_deed-deed.ensures c.perform_deed.ensures

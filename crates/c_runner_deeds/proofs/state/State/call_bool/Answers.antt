use Rattle.c_core.specs.declared.primitive.Primitive.TheVariants.{Bool}
use Rattle.c_runner_deeds.specs.States.{state_of, seen}
use Rattle.c_runner_deeds.proofs.DeedLemmas.{does_deed, bool_called}
use Rattle.c_runner_deeds.proofs.state.State.call_bool.Goals as goal

pub returns : goal.returns
returns c =
    does_deed (Bool c.args.primitive) c.args.target c.args.args.now (seen c.args.self.now) (seen c.perform_deed.new.self) c.perform_deed.result c.in_ok-deed.deed _
    (λ code rest. bool_called (state_of rest (seen c.args.self.now)) c.args.target code c.args.args.now c.args.primitive) c.in_ok-deed.ensures c.perform_deed.ensures

use Rattle.std.proofs.Common.{sym, subst}
use Rattle.c_core.specs.declared.primitive.Primitive.TheVariants.{Tuple}
use Rattle.c_runner_deeds.specs.Deeds.{Calls}
use Rattle.c_runner_deeds.specs.States.{state_of, seen}
use Rattle.c_runner_deeds.proofs.DeedLemmas.{does_deed, tuple_called}
use Rattle.c_runner_objects.proofs.tuples.call_tuple.Goals as goal

pub returns-in-Pack : goal.returns-in-Pack
returns-in-Pack c =
    subst (λ o. Calls (Tuple o) c.args.target c.args.args.now (seen c.args.state.now) (seen c.pack.new.state) c.pack.result) (sym c.in-Pack.is) c.pack.ensures

pub returns-in_default : goal.returns-in_default
returns-in_default c =
    does_deed (Tuple c.args.operation) c.args.target c.args.args.now (seen c.args.state.now) (seen c.perform_deed.new.self) c.perform_deed.result c.tuple_deed-deed.result _
    (λ code rest. tuple_called (state_of rest (seen c.args.state.now)) c.args.target code c.args.args.now c.args.operation c.in_default.not-Pack) c.tuple_deed-deed.ensures.done c.perform_deed.ensures

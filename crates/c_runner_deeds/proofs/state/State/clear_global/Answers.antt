use Rattle.c_runner_deeds.proofs.OursLemmas.{global_own}
use Rattle.c_runner_deeds.proofs.state.State.clear_global.Goals as goal

pub store-requires-clause-held : goal.store-requires-clause-held
store-requires-clause-held c = global_own c.args.self.now c.in-Some.number c.in-Some-get.held.now c.in-Some-get.ensures.value

use Rattle.c_runner_deeds.proofs.OursLemmas.{pending_own}
use Rattle.c_runner_deeds.proofs.state.State.pending_class.Goals as goal

pub content-requires : goal.content-requires
content-requires c = pending_own c.args.self.now c.in-Some.key c.in-Some.is

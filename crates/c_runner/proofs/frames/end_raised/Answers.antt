use Rattle.c_runner_deeds.proofs.OursLemmas.{pending_own}
use Rattle.c_runner.proofs.frames.end_raised.Goals as goal

pub content-requires : goal.content-requires
content-requires c = pending_own c.args.state.now c.args.key c.requires.pending

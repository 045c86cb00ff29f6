use Rattle.c_runner.proofs.OwnLemmas.{counted_own}
use Rattle.c_runner.proofs.counts.increment.Goals as goal

pub take-requires-clause-ours : goal.take-requires-clause-ours
take-requires-clause-ours c = counted_own c.args.state.now c.args.x c.in-Some.word.now c.in-Big.key c.in-Some.ensures.value c.in-Big.is

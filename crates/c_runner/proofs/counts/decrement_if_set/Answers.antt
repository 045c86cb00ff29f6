use Rattle.c_runner_deeds.proofs.OursLemmas.{variable_own}
use Rattle.c_runner.proofs.counts.decrement_if_set.Goals as goal

pub give_word_up-requires-clause-ours : goal.give_word_up-requires-clause-ours
give_word_up-requires-clause-ours c = variable_own c.args.state.now c.args.x c.in-Some.word.now c.in-Some.ensures.value

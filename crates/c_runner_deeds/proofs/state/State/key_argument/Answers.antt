use Rattle.c_runner_deeds.proofs.OursLemmas.{variable_own, same_own}
use Rattle.c_runner_deeds.proofs.state.State.key_argument.Goals as goal

pub key_word-requires : goal.key_word-requires
key_word-requires c = variable_own c.args.self.now c.in-Some-Var.x c.in-Some.word.now c.in-Some.ensures.value

pub returns-in-Some-clause-ours : goal.returns-in-Some-clause-ours
returns-in-Some-clause-ours c = same_own c.args.self.now.cells c.in-Some.word.now c.key_word.result c.key_word.ensures.same (variable_own c.args.self.now c.in-Some-Var.x c.in-Some.word.now c.in-Some.ensures.value)

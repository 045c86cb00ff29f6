use Rattle.c_runner_deeds.proofs.OursLemmas.{variable_own}
use Rattle.c_runner_deeds.proofs.state.State.passed_variable.Goals as goal

pub is_there-requires : goal.is_there-requires
is_there-requires c = record { ours = variable_own c.args.self.now c.args.x c.in-Some.word.now c.in-Some.ensures.value }

pub returns-clause-ours : goal.returns-clause-ours
returns-clause-ours c = variable_own c.args.self.now c.args.x c.in-Some.word.now c.in-Some.ensures.value

use Rattle.c_runner_deeds.proofs.OursLemmas.{variable_own}
use Rattle.c_runner.proofs.lines.word_there.Goals as goal

pub is_there-requires : goal.is_there-requires
is_there-requires c = record { ours = variable_own c.args.state.now c.args.x c.in-Some.word.now c.in-Some.ensures.value }

pub returns-then-is_there-clause-ours : goal.returns-then-is_there-clause-ours
returns-then-is_there-clause-ours c = variable_own c.args.state.now c.args.x c.in-Some.word.now c.in-Some.ensures.value

use Rattle.c_runner_ledger.proofs.FewLemmas.{inserted_at, inserted_last}
use Rattle.c_runner_ledger.proofs.few.place_for.Goals as goal

pub returns-in-Some-clause-place : goal.returns-in-Some-clause-place
returns-in-Some-clause-place c = inserted_at c.args.c c.in-Some.place c.args.numbers.now c.in-Some.ensures

pub returns-in-None-clause-place : goal.returns-in-None-clause-place
returns-in-None-clause-place c = inserted_last c.args.c c.args.numbers.now c.in-None.ensures

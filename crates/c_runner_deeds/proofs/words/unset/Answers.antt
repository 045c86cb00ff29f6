use Rattle.c_runner_deeds.proofs.OursLemmas.{none_refs}
use Rattle.c_runner_deeds.proofs.words.unset.Goals as goal

pub returns-clause-none : goal.returns-clause-none
returns-clause-none c = none_refs c.loop-global.places _ c.loop-global.invariant

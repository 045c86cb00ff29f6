use Rattle.c_runner.proofs.OwnLemmas.{first_own}
use Rattle.c_runner.proofs.start.start.Goals as goal

pub invariant_of-result : goal.invariant_of-result
invariant_of-result c = record { ours = first_own _ c.in_ok-vars.vars _ _ c.in_ok-vars.ensures.plain c.new-3.ensures c.in_ok-unset.ensures.none }

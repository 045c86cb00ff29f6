use Rattle.c_runner_ledger.proofs.FewLemmas.{sole, not_sole}
use Rattle.c_runner_ledger.proofs.few.Few.owns_only.Goals as goal

pub returns-then-numbers-eq1 : goal.returns-then-numbers-eq1
returns-then-numbers-eq1 c =
    rw (← c.self.view_is, ← c.as_slice-numbers.ensures.value) (sole c.args.c c.as_slice-numbers.result.now c.if-numbers-eq1.true)

pub returns-else-numbers-eq1 : goal.returns-else-numbers-eq1
returns-else-numbers-eq1 c =
    rw (← c.self.view_is, ← c.as_slice-numbers.ensures.value) (not_sole c.args.c c.as_slice-numbers.result.now c.if-numbers-eq1.false)

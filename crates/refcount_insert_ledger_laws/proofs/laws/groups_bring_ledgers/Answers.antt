use Rattle.refcount_insert_ledger_laws.proofs.Whole as proof
use Rattle.refcount_insert_ledger_laws.proofs.laws.groups_bring_ledgers.Goals as goal

pub returns : goal.returns
returns c = proof.groups_bring_ledgers

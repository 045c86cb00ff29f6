use Rattle.refcount_insert_rule.proofs.Balance as proof
use Rattle.refcount_insert_rule.proofs.laws.counts_balance.Goals as goal

pub returns : goal.returns
returns c = proof.counts_balance

use Rattle.c_core.proofs.LedgerLemmas.{ledgers_ascend}
use Rattle.c_core.proofs.laws.ledgers_ascend.Goals as goal

pub returns : goal.returns
returns c = ledgers_ascend

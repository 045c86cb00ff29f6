use Rattle.c_runner_ledger.proofs.LedgerLemmas.{none_there}
use Rattle.c_runner_ledger.proofs.numbers.Numbers.is_empty.Goals as goal

pub returns : goal.returns
returns c =
    let both = none_there c.self.inside.further.entries in
    rw (← c.self.view_is) (λ t. both.0 (c.is_empty.ensures.0 t), λ e. c.is_empty.ensures.1 (both.1 e))

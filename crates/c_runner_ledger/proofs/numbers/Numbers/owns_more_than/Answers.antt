use Rattle.std.proofs.Common.{sym}
use Rattle.c_runner_ledger.proofs.LedgerLemmas.{none_beyond, owned_beyond}
use Rattle.c_runner_ledger.proofs.numbers.Numbers.owns_more_than.Goals as goal

pub returns-in-None : goal.returns-in-None
returns-in-None c =
    rw (← c.self.view_is) (none_beyond c.args.c c.args.n c.self.inside.further.entries (sym c.in-None.ensures.value))

pub returns-in-Some : goal.returns-in-Some
returns-in-Some c =
    rw (← c.self.view_is) (owned_beyond c.args.c c.args.n c.in-Some.further.now c.self.inside.further.entries c.len-entries.ensures.ordered (sym c.in-Some.ensures.value))

use Rattle.std.proofs.Common.{sym, ap, ◌∙◌}
use Rattle.c_runner_ledger.specs.Held.{held_numbers}
use Rattle.c_runner_ledger.proofs.LedgerLemmas.{only_once}
use Rattle.c_runner_ledger.proofs.ledger.Ledger.owns_only.Goals as goal

pub returns-in-Once : goal.returns-in-Once
returns-in-Once c =
    only_once c.number.result c.in-Once.first c.args.c c.args.self.now c.number.ensures (sym c.self.view_is ∙ ap held_numbers c.in-Once.is)

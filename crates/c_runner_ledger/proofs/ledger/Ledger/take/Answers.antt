use Rattle.std.proofs.Common.{sym, ap, ◌∙◌, arith}
use Rattle.std.proofs.lemmas.Bool.Decides.{nat_tests}
use Rattle.c_runner_ledger.specs.Held.{held_numbers}
use Rattle.c_runner_ledger.proofs.LedgerLemmas.{owned_once}
use Rattle.c_runner_ledger.proofs.ledger.Ledger.take.Goals as goal

pub returns-then-number-c-clause-owned : goal.returns-then-number-c-clause-owned
returns-then-number-c-clause-owned c =
    let owned = owned_once c.number.result c.in-Once.first c.args.c c.args.self.now c.number.ensures (sym c.self.view_is ∙ ap held_numbers c.in-Once.is) in
    grind (arith, nat_tests, c.if-number-c.true, owned)

pub returns-else-number-c-clause-owned : goal.returns-else-number-c-clause-owned
returns-else-number-c-clause-owned c =
    let owned = owned_once c.number.result c.in-Once.first c.args.c c.args.self.now c.number.ensures (sym c.self.view_is ∙ ap held_numbers c.in-Once.is) in
    grind (arith, nat_tests, c.if-number-c.false, owned)

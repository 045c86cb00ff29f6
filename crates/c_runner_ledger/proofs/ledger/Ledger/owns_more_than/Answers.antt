use Rattle.std.proofs.Common.{sym, ap, ◌∙◌, arith}
use Rattle.c_runner_ledger.specs.Held.{held_numbers}
use Rattle.c_runner_ledger.proofs.LedgerLemmas.{few_once, beyond_once}
use Rattle.c_runner_ledger.proofs.ledger.Ledger.owns_more_than.Goals as goal

pub returns-then-n-eq0 : goal.returns-then-n-eq0
returns-then-n-eq0 c =
    beyond_once c.args.n c.number.result c.in-Once.first c.args.c c.args.self.now c.number.ensures (sym c.self.view_is ∙ ap held_numbers c.in-Once.is) c.if-n-eq0.true

pub returns-else-n-eq0 : goal.returns-else-n-eq0
returns-else-n-eq0 c =
    few_once c.args.n c.in-Once.first c.args.c c.args.self.now (sym c.self.view_is ∙ ap held_numbers c.in-Once.is) (omega (arith, c.if-n-eq0.false))

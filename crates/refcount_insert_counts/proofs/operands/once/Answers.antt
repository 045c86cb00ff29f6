use Rattle.std.proofs.Common.{◌∙◌, sym, ap}
use Rattle.c_core.specs.Cells.{same}
use Rattle.c_core.proofs.CountLemmas.{same_self}
use Rattle.refcount_insert_counts.proofs.Times.{same_differs}
use Rattle.refcount_insert_counts.proofs.operands.once.Goals as goal

pub returns-then-s-r-clause-value : goal.returns-then-s-r-clause-value
returns-then-s-r-clause-value c = sym (ap (same c.args.s) (sym c.if-s-r.true) ∙ same_self c.args.s)

pub returns-else-s-r-clause-value : goal.returns-else-s-r-clause-value
returns-else-s-r-clause-value c = sym (same_differs c.args.s c.args.r c.if-s-r.false)

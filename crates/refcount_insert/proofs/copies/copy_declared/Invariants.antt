use Rattle.std.proofs.Common.{◌≡◌, take}
use Rattle.refcount_insert.proofs.copies.copy_declared.Given as goal

abbrev pub invariant-loop-entry : goal.invariant-loop-entry
invariant-loop-entry l = l.copy.items ≡ take l.entry-index l.declared

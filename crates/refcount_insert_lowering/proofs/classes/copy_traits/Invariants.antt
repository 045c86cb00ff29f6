use Rattle.std.proofs.Common.{◌≡◌, take}
use Rattle.refcount_insert_lowering.proofs.classes.copy_traits.Given as goal

abbrev pub invariant-loop-entry : goal.invariant-loop-entry
invariant-loop-entry l = l.copy.items ≡ take l.entry-index l.traits

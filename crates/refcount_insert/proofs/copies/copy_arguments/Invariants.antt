use Rattle.std.proofs.Common.{◌≡◌, take}
use Rattle.refcount_insert.proofs.copies.copy_arguments.Given as goal

abbrev pub invariant-loop-argument : goal.invariant-loop-argument
invariant-loop-argument l = l.copy.items ≡ take l.argument-index l.arguments

use Rattle.std.proofs.Common.{◌≡◌, false, take}
use Rattle.liveness.specs.Paths.{is_among}
use Rattle.refcount_insert_counts.proofs.operands.stands_in.Given as goal

abbrev pub invariant-loop-s : goal.invariant-loop-s
invariant-loop-s l = is_among (take l.s-index l.registers) l.r ≡ false

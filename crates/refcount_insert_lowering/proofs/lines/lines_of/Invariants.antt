use Rattle.std.proofs.Common.{◌≡◌, ◌++◌, drop}
use Rattle.ir_core.specs.Lower.{lines_from}
use Rattle.refcount_insert_lowering.proofs.lines.lines_of.Given as goal

abbrev pub invariant-loop-number : goal.invariant-loop-number
invariant-loop-number l = l.lines ++ lines_from l.p l.number (drop l.number l.blocks) ≡ lines_from l.p 0 l.blocks

use Rattle.std.proofs.Common.{◌≡◌, ◌++◌, drop}
use Rattle.ir_core.specs.Lower.{lowered_from}
use Rattle.refcount_insert_lowering.proofs.functions.functions_of.Given as goal

abbrev pub invariant-loop-number : goal.invariant-loop-number
invariant-loop-number l = l.all ++ lowered_from l.p l.number (drop l.number l.p.funcs) ≡ lowered_from l.p 0 l.p.funcs

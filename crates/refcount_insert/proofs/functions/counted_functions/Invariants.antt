use Rattle.std.proofs.Common.{take, map}
use Rattle.ir_core.specs.Bare.{bare}
use Rattle.refcount_insert_rule.specs.Counted.{AreCounted}
use Rattle.refcount_insert.proofs.functions.counted_functions.Given as goal

abbrev pub invariant-loop-f : goal.invariant-loop-f
invariant-loop-f l = AreCounted (map bare (take l.f-index l.funcs)) l.all.items

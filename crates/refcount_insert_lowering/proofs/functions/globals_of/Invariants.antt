use Rattle.std.proofs.Common.{◌≡◌, map, take}
use Rattle.ir_core.specs.Lower.{global_of}
use Rattle.refcount_insert_lowering.proofs.functions.globals_of.Given as goal

abbrev pub invariant-loop-global : goal.invariant-loop-global
invariant-loop-global l = l.all.items ≡ map global_of (take l.global-index l.globals)

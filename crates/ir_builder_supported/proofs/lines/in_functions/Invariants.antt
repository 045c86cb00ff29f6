use Rattle.ir_builder_supported.proofs.Common.{◌≡◌, map, drop, typed_func, least, functions_forms}
use Rattle.ir_builder_supported.proofs.lines.in_functions.Given as goal

abbrev pub invariant-loop-n : goal.invariant-loop-n
invariant-loop-n l =
    least l.found (functions_forms l.lines l.n (map typed_func (drop l.n l.functions))) ≡ least l.fn.found (functions_forms l.lines 0 (map typed_func l.functions))

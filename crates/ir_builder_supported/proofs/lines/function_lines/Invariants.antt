use Rattle.ir_builder_supported.proofs.Common.{◌≡◌, ◌++◌, drop, trees, function_lines}
use Rattle.ir_builder_supported.proofs.lines.function_lines.Given as goal

abbrev pub invariant-loop-s : goal.invariant-loop-s
invariant-loop-s l = l.lines.items ++ function_lines (trees (drop l.s-index l.definitions)) ≡ function_lines (trees l.definitions)

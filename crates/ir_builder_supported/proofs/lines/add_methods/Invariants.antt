use Rattle.ir_builder_supported.proofs.Common.{◌≡◌, ◌++◌, drop, body_tree, def_lines}
use Rattle.ir_builder_supported.proofs.lines.add_methods.Given as goal

abbrev pub invariant-loop-s : goal.invariant-loop-s
invariant-loop-s l = l.lines.items ++ def_lines (body_tree (drop l.s-index l.body)) ≡ l.fn.lines.items ++ def_lines (body_tree l.body)

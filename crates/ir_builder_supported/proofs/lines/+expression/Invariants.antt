use Rattle.ir_builder_supported.proofs.Common.{◌≡◌, map, drop, typed_expr, exprs_of, comparisons_of, typed_comparison, least, row_forms, chain_forms}
use Rattle.ir_builder_supported.proofs.lines.+expression.Given as goal

abbrev pub invariant-in_row-loop-item : goal.invariant-in_row-loop-item
invariant-in_row-loop-item l =
    least l.found (row_forms (exprs_of (map typed_expr (drop l.item-index l.items)))) ≡ least l.fn.found (row_forms (exprs_of (map typed_expr l.items)))

abbrev pub invariant-in_chain-loop-operand : goal.invariant-in_chain-loop-operand
invariant-in_chain-loop-operand l =
    least l.found (chain_forms (comparisons_of (map typed_comparison (drop l.operand-index l.more)))) ≡ least l.fn.found (chain_forms (comparisons_of (map typed_comparison l.more)))

use Rattle.ir_builder_supported.proofs.Common.{◌≡◌, map, drop, sort, comparisons_of, typed_comparison}
use Rattle.ir_builder_supported.specs.Expressions as form
use Rattle.ir_builder_supported.proofs.forms.are_pairs.Given as goal

abbrev pub invariant-loop-op : goal.invariant-loop-op
invariant-loop-op l =
    form.are_pairs (sort l.left) (comparisons_of (map typed_comparison (drop l.op-index l.more))) ≡ form.are_pairs (sort l.first) (comparisons_of (map typed_comparison l.more))

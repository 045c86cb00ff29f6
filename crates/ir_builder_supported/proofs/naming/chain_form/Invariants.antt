use Rattle.ir_builder_supported.proofs.Common.{◌≡◌, map, drop, comparisons_of, typed_comparison}
use Rattle.ir_builder_supported.specs.Forms as spec
use Rattle.ir_builder_supported.proofs.naming.chain_form.Given as goal

abbrev pub invariant-loop-op : goal.invariant-loop-op
invariant-loop-op l =
    spec.chain_form l.other (comparisons_of (map typed_comparison (drop l.op-index l.more))) ≡ spec.chain_form l.other (comparisons_of (map typed_comparison l.more))

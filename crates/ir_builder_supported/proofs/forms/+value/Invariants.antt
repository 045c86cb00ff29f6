use Rattle.ir_builder_supported.proofs.Common.{sort, sorts_of, drop, map, ◌≡◌}
use Rattle.ir_builder_supported.specs.Forms as spec
use Rattle.ir_builder_supported.proofs.forms.+value.Given as goal

abbrev pub invariant-all_values-loop-t : goal.invariant-all_values-loop-t
invariant-all_values-loop-t l = spec.all_values (sorts_of (map sort (drop l.t-index l.ts))) ≡ spec.all_values (sorts_of (map sort l.ts))

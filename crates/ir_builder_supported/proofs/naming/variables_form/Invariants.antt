use Rattle.ir_builder_supported.proofs.Common.{◌≡◌, map, drop, variable}
use Rattle.ir_builder_supported.specs.Forms as spec
use Rattle.ir_builder_supported.proofs.naming.variables_form.Given as goal

abbrev pub invariant-loop-v : goal.invariant-loop-v
invariant-loop-v l =
    spec.variables_form l.left (map variable (drop l.v-index l.variables)) l.other ≡ spec.variables_form l.parameters (map variable l.variables) l.other

use Rattle.ir_builder_supported.proofs.Common.{◌≡◌, map, drop, variable}
use Rattle.ir_builder_supported.specs.Statements as statement
use Rattle.ir_builder_supported.proofs.forms.hold_values.Given as goal

abbrev pub invariant-loop-v : goal.invariant-loop-v
invariant-loop-v l = statement.hold_values (map variable (drop l.v-index l.variables)) ≡ statement.hold_values (map variable l.variables)

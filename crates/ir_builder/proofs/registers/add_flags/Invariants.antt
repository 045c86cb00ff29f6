use Rattle.ir_builder.proofs.Common.{◌-◌, AddsFlags}
use Rattle.ir_builder.proofs.registers.add_flags.Given as goal

abbrev pub invariant-loop-variable : goal.invariant-loop-variable
invariant-loop-variable l = AddsFlags (l.variable - l.params) l.initial.b l.b

use Rattle.std.proofs.Common.{◌≡◌, drop, length}
use Rattle.std.specs.Prelude.{map}
use Rattle.c_core.specs.WellFormed.{Declared, passes}
use Rattle.c_core.proofs.well_formed.passes.Given as goal

abbrev pub invariant-loop-i : goal.invariant-loop-i
invariant-loop-i l = record {
  same_length : length l.parameters ≡ length l.args;
  same : passes l.vars (map (λ (var : Declared). var.1) (drop l.i l.parameters)) (drop l.i l.args) ≡ passes l.vars (map (λ (var : Declared). var.1) l.parameters) l.args;
}

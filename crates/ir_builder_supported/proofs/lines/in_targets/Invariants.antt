use Rattle.ir_builder_supported.proofs.Common.{◌≡◌, map, drop, typed_target, least, targets_forms}
use Rattle.ir_builder_supported.proofs.lines.in_targets.Given as goal

abbrev pub invariant-loop-target : goal.invariant-loop-target
invariant-loop-target l =
    least l.found (targets_forms l.line (map typed_target (drop l.target-index l.targets))) ≡ least l.fn.found (targets_forms l.line (map typed_target l.targets))

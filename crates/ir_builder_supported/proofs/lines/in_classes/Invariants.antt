use Rattle.ir_builder_supported.proofs.Common.{◌≡◌, drop, flat_map, trees, least, class_form}
use Rattle.ir_builder_supported.proofs.lines.in_classes.Given as goal

abbrev pub invariant-loop-s : goal.invariant-loop-s
invariant-loop-s l = least l.found (flat_map class_form (trees (drop l.s-index l.definitions))) ≡ least l.fn.found (flat_map class_form (trees l.definitions))

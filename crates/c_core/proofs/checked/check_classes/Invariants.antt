use Rattle.std.proofs.Common.{◌≡◌, drop}
use Rattle.std.specs.List.{list_all}
use Rattle.c_core.specs.WellFormed.{class_fits}
use Rattle.c_core.proofs.checked.check_classes.Given as goal

abbrev pub invariant-loop-class : goal.invariant-loop-class
invariant-loop-class l =
    list_all (class_fits l.code) (drop l.class-index l.classes) ≡ list_all (class_fits l.code) l.classes

use Rattle.std.proofs.Common.{◌≡◌, take}
use Rattle.py_check_classes.specs.Names.{class_counts}
use Rattle.py_check_classes.proofs.names.class_counts.Given as goal

abbrev pub invariant-loop-meaning : goal.invariant-loop-meaning
invariant-loop-meaning l = l.count ≡ class_counts (take l.meaning-index l.said)

use Rattle.std.proofs.Common.{◌≡◌, ◌++◌, drop, length}
use Rattle.std.specs.List.{flat_map}
use Rattle.py_check_names.specs.Walked.{trees, func_trees}
use Rattle.py_check_names.specs.Outline.{said_from, held_by}
use Rattle.py_check_names.proofs.outline.outline_of.Given as goal

abbrev pub invariant-loop-s : goal.invariant-loop-s
invariant-loop-s l =
    (l.said.items ++ said_from (length l.functions.items) (trees (drop l.s-index l.definitions)) ≡ said_from 0 (trees l.definitions))
    × (func_trees l.functions.items ++ flat_map held_by (trees (drop l.s-index l.definitions)) ≡ flat_map held_by (trees l.definitions))

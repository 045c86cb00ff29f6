use Rattle.std.proofs.Common.{◌≡◌, ◌+◌, length, map, drop, []}
use Rattle.std.specs.List.{flat_map}
use Rattle.py_check_names.specs.Walked.{trees}
use Rattle.py_check_names.specs.Outline.{held_by}
use Rattle.py_check_members.specs.Members.{class_texts}
use Rattle.py_check_members.specs.Tables.{owns_from, AreLinked}
use Rattle.py_check_members.specs.Views.{own_of}
use Rattle.py_check_members.proofs.tables.all_members.Given as goal

abbrev pub invariant-loop-s : goal.invariant-loop-s
invariant-loop-s l =
    record {
      own : owns_from l.known (map own_of l.members) (class_texts l.first (trees (drop l.s-index l.definitions))) ≡ owns_from l.known [] (class_texts 0 (trees l.definitions));
      linked : AreLinked l.known.classes.now.headers l.members;
      count : l.first + length (flat_map held_by (trees (drop l.s-index l.definitions))) ≡ length (flat_map held_by (trees l.definitions));
    }

use Rattle.std.proofs.Common.{◌≡◌, ℕ, List, drop}
use Rattle.std.specs.Str.{bytes_eq}
use Rattle.indexmap.specs.IndexMap.{get}
use Rattle.py_check_members.specs.Members.{annotated_from}
use Rattle.py_check_members.specs.Tables.{span_or}
use Rattle.py_check_members.specs.Views.{events_of}
use Rattle.py_check_members.proofs.declaring.add_places.Given as goal

abbrev pub invariant-loop-i : goal.invariant-loop-i
invariant-loop-i l =
    (name : List ℕ) → span_or (get bytes_eq l.places name) (annotated_from (events_of l.events) name l.i (events_of (drop l.i l.events)))
    ≡ span_or (get bytes_eq l.fn.places name) (annotated_from (events_of l.events) name 0 (events_of l.events))

use Rattle.std.proofs.Common.{◌≡◌, ℕ, List, take}
use Rattle.py_check_members.specs.Members.{places}
use Rattle.py_check_members.specs.Tables.{places_by}
use Rattle.py_check_members.specs.Views.{events_of}
use Rattle.py_check_members.proofs.places.first_places.Given as goal

abbrev pub invariant-loop-i : goal.invariant-loop-i
invariant-loop-i l = (name : List ℕ) → places_by l.table name ≡ places (events_of (take l.i l.events)) name

use Rattle.std.proofs.Common.{◌≡◌, drop}
use Rattle.py_typed.specs.Order.{first_there}
use Rattle.py_check_context.specs.Members.{own_of, own_asked}
use Rattle.py_check_context.proofs.members.first_in_row.Given as goal

abbrev pub invariant-loop-c : goal.invariant-loop-c
invariant-loop-c l =
    first_there (own_of (own_asked l.asked l.name) l.classes) (drop l.c-index l.row) ≡ first_there (own_of (own_asked l.asked l.name) l.classes) l.row

use Rattle.std.proofs.Common.{◌≡◌, ◌-◌}
use Rattle.py_check_context.specs.Members.{along, own_asked}
use Rattle.py_check_context.proofs.members.first_in.Given as goal

abbrev pub invariant-loop-level : goal.invariant-loop-level
invariant-loop-level l =
    along (own_asked l.asked l.name) l.classes (l.fn.c - l.level) l.at ≡ along (own_asked l.asked l.name) l.classes l.fn.c l.fn.c

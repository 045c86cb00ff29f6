use Rattle.std.proofs.Common.{◌≡◌, ◌-◌}
use Rattle.py_check_context.specs.Members.{along, own_init}
use Rattle.py_check_context.proofs.members.init_in.Given as goal

abbrev pub invariant-loop-level : goal.invariant-loop-level
invariant-loop-level l =
    along own_init l.classes (l.fn.c - l.level) l.at ≡ along own_init l.classes l.fn.c l.fn.c

use Rattle.std.proofs.Common.{◌≡◌, take}
use Rattle.std.specs.List.{filter_map}
use Rattle.py_check_members.specs.Members.{own_method}
use Rattle.py_check_members.specs.Views.{entries_of}
use Rattle.py_check_members.proofs.entries.own_methods.Given as goal

abbrev pub invariant-loop-i : goal.invariant-loop-i
invariant-loop-i l = l.methods ≡ filter_map own_method (take l.i (entries_of l.own))

use Rattle.std.proofs.Common.{◌≡◌, map, take}
use Rattle.std.specs.List.{filter_map}
use Rattle.py_typed.specs.Classes.{with_sort}
use Rattle.py_check_members.specs.Members.{typed_attribute}
use Rattle.py_check_members.specs.Views.{entries_of}
use Rattle.py_check_members.proofs.entries.typed_attributes.Given as goal

abbrev pub invariant-loop-i : goal.invariant-loop-i
invariant-loop-i l = map with_sort l.attrs ≡ filter_map typed_attribute (take l.i (entries_of l.own))

use Rattle.std.proofs.Common.{◌≡◌, ◌++◌, map, drop}
use Rattle.class_layout_members.specs.Views.{member}
use Rattle.py_check_overrides.specs.Overrides.{defined}
use Rattle.py_check_overrides.specs.Views.{own}
use Rattle.py_check_overrides.proofs.member.add_defined_row.Given as goal

abbrev pub invariant-loop-member : goal.invariant-loop-member
invariant-loop-member l = map member l.all ++ defined (map own (drop l.member-index l.own)) ≡ map member l.fn.all ++ defined (map own l.own)

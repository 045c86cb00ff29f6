use Rattle.std.proofs.Common.{◌≡◌, ◌++◌, map, drop}
use Rattle.py_check_overrides.specs.Views.{own}
use Rattle.py_check_overrides.proofs.member.add_row.Given as goal

abbrev pub invariant-loop-member : goal.invariant-loop-member
invariant-loop-member l = map own l.all ++ map own (drop l.member-index l.own) ≡ map own l.fn.all ++ map own l.own

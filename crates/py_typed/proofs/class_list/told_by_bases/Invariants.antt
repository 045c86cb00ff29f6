use Rattle.std.proofs.Common.{◌≡◌, drop}
use Rattle.py_typed.specs.Above as table
use Rattle.py_typed.proofs.class_list.told_by_bases.Given as goal

abbrev pub invariant-loop-b : goal.invariant-loop-b
invariant-loop-b l = table.told_by_bases l.rows l.bases l.c l.d ≡ table.told_by_bases l.rows (drop l.b-index l.bases) l.c l.d

-- How far a level is above the atoms.
use Rattle.std.proofs.Common.{ℕ}
use Rattle.py_parser_cursor.specs.declared.operator.Level.{Level}
use Rattle.py_parser_cursor.specs.declared.operator.Level.TheVariants as level

abbrev pub rank_of : Level → ℕ
rank_of level.Or = 18
rank_of level.And = 16
rank_of level.Bar = 12
rank_of level.Shift = 10
rank_of level.Sum = 8
rank_of level.Term = 6
rank_of level.Primary = 2

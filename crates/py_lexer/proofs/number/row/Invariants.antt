use Rattle.std.proofs.Common.{◌≡◌, length}
use Rattle.py_lexer.specs.Places.{characters}
use Rattle.py_lexer.proofs.NumberLemmas.{row_behind}
use Rattle.py_lexer.proofs.number.row.Given as goal

abbrev pub invariant-loop-rest : goal.invariant-loop-rest
invariant-loop-rest l = row_behind l.base l.value (characters l.rest) ≡ row_behind l.base 0 (characters l.all)

abbrev pub decreases-loop-rest : goal.decreases-loop-rest
decreases-loop-rest l = length l.rest

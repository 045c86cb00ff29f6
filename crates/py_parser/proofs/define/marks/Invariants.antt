use Rattle.std.proofs.Common.{◌≡◌, ◌-◌, length, [], ◌∷◌, map}
use Rattle.py_syntax.specs.Expressions.{expr_tree}
use Rattle.py_parser.specs.Definitions.{reads_marks}
use Rattle.py_parser_cursor.specs.Moves.{MovesUpTo}
use Rattle.py_parser.proofs.define.marks.Given as goal

abbrev pub invariant-marks : goal.invariant-marks
invariant-marks l = record {
  so_far : reads_marks l.tokens (expr_tree l.fn.first.value ∷ []) l.fn.place ≡ reads_marks l.tokens (map expr_tree l.found) l.place;
  moves : MovesUpTo l.tokens l.fn.place l.place;
}

abbrev pub decreases-marks : goal.decreases-marks
decreases-marks l = length l.tokens - l.place.at

-- The first parts of conditions: their values, with their tests.
use Rattle.std.specs.Prelude.{List, [], ◌∷◌}
use Rattle.py_parser_grammar.specs.declared.place.Place.{Place}
use Rattle.py_parser_grammar.specs.Levels.{Piece}
use Rattle.py_parser_expressions.specs.declared.parsed.Parsed.{Parsed}
use Rattle.py_parser_expressions.specs.Parsed.{piece_of, IsFinished}

abbrev pub head_of : Parsed × Parsed → Piece × Piece
head_of h = (piece_of h.0, piece_of h.1)

-- both are finished
pub record IsHead (h : Parsed × Parsed) : Type 0 where
  pub value : IsFinished h.0
  pub test : IsFinished h.1

abbrev pub AreHeads : List (Parsed × Parsed) → Type 0
AreHeads [] = Unit {0}
AreHeads (h ∷ hs) = IsHead h × AreHeads hs

-- a test with the operand behind its `else`, and the place behind both
abbrev pub alternative_seen : Parsed × Parsed → (Piece × Piece) × Place
alternative_seen h = (head_of h, h.1.place)

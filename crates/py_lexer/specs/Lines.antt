-- Brackets and logical lines (Python Language Reference, "Logical lines", "Explicit line joining", "Implicit line joining").
use Rattle.std.specs.Prelude.{ℕ, Bool, true, false, ◌&&◌, nat_lt, nat_le, if◌then◌else◌, List, [], ◌∷◌, length, drop, Option, Some, None}
use Rattle.py_syntax.specs.declared.token.TokenKind.TheVariants as token
use Rattle.py_syntax.specs.declared.sign.Sign.TheVariants.{LeftParen, RightParen, LeftSquare, RightSquare, LeftBrace, RightBrace}
use Rattle.py_lexer.specs.declared.fault.LexKind.TheVariants.{TooDeep}
use Rattle.py_lexer.specs.declared.gap.Gap.TheVariants.{Join, LineEnd}
use Rattle.py_lexer.specs.Places.{start}
use Rattle.py_lexer.specs.Pieces.{Kind, Between, Lexeme, Wrong, Over, Piece}

-- how many brackets, and how many levels of indentation, may be open at once
abbrev pub most_levels : ℕ
most_levels = 100

abbrev pub is_opening : Kind → Bool
is_opening (Lexeme (token.Sign LeftParen)) = true
is_opening (Lexeme (token.Sign LeftSquare)) = true
is_opening (Lexeme (token.Sign LeftBrace)) = true
is_opening _ = false

abbrev pub is_closing : Kind → Bool
is_closing (Lexeme (token.Sign RightParen)) = true
is_closing (Lexeme (token.Sign RightSquare)) = true
is_closing (Lexeme (token.Sign RightBrace)) = true
is_closing _ = false

abbrev pub is_line_end : Kind → Bool
is_line_end (Between LineEnd) = true
is_line_end _ = false

abbrev pub is_join : Kind → Bool
is_join (Between Join) = true
is_join _ = false

-- The lines of the brackets that are open behind a piece, innermost first: a closing bracket closes the innermost open one,
-- of whichever kind, and none where none is open.
abbrev pub open_behind : List ℕ → Piece → List ℕ
open_behind opened p =
    if is_opening p.kind then p.from.line ∷ opened else (if is_closing p.kind then drop 1 opened else opened)

-- the line of the join that a piece is
abbrev pub joined_by : Piece → Option ℕ
joined_by p = if is_join p.kind then Some p.from.line else None

abbrev pub too_deep : Piece → Piece
too_deep p = record { kind = Wrong (p.from.line, TooDeep); text = []; from = p.from; to = p.to }

abbrev pub over : ℕ → Piece
over line = record { kind = Over line; text = []; from = start; to = start }

-- at the end of the text: the innermost bracket that is open, or else the join directly before
abbrev pub unclosed : Option ℕ → List ℕ → List Piece
unclosed None [] = []
unclosed (Some line) [] = over line ∷ []
unclosed joined (line ∷ opened) = over line ∷ []

-- The pieces outside and inside brackets: inside, a line's end is left out. One bracket too many is a fault.
abbrev pub nested : Option ℕ → List ℕ → List Piece → List Piece
nested joined opened [] = unclosed joined opened
nested joined opened (p ∷ ps) =
    if is_opening p.kind && nat_le most_levels (length opened) then too_deep p ∷ []
    else (if is_line_end p.kind && nat_lt 0 (length opened) then nested None opened ps
    else p ∷ nested (joined_by p) (open_behind opened p) ps)

-- a logical line: the line where it begins, and its pieces without the line's end
pub record LogicalLine : Type 0 where
  pub line : ℕ
  pub pieces : List Piece

-- a piece before the others of a line that begins at `line`
abbrev pub onto : ℕ → Piece → List LogicalLine → List LogicalLine
onto line p [] = record { line = line; pieces = p ∷ [] } ∷ []
onto line p (l ∷ ls) = record { line = line; pieces = p ∷ l.pieces } ∷ ls

-- the logical lines, the first of which begins at `line`
abbrev pub logical_lines : ℕ → List Piece → List LogicalLine
logical_lines line [] = []
logical_lines line (p ∷ ps) =
    if is_line_end p.kind then record { line = line; pieces = [] } ∷ logical_lines p.to.line ps
    else onto line p (logical_lines line ps)

-- The tokens of a text, or its first fault (Python Language Reference, "Lexical analysis").
use Rattle.std.specs.Prelude.{ℕ, List, [], ◌∷◌, ◌++◌, length, map, replicate, Result, Ok, Err, None}
use Rattle.py_syntax.specs.declared.token.Span.{Span}
use Rattle.py_syntax.specs.declared.token.Token.{Token}
use Rattle.py_syntax.specs.declared.token.TokenKind.{TokenKind}
use Rattle.py_syntax.specs.declared.token.TokenKind.TheVariants.{Newline, Dedent, End}
use Rattle.py_lexer.specs.declared.fault.LexKind.TheVariants.{Unended}
use Rattle.py_lexer.specs.declared.indent.Column.{Column}
use Rattle.py_lexer.specs.Places.{plain, start, placed, end_of}
use Rattle.py_lexer.specs.Reading.{Fault}
use Rattle.py_lexer.specs.Pieces.{Between, Lexeme, Wrong, Over, Piece, pieces}
use Rattle.py_lexer.specs.Lines.{nested, LogicalLine, logical_lines}
use Rattle.py_lexer.specs.Indents.{margin, column, moved, Moved}

-- a token, or a fault in its place: the first fault of a text is the first one among its items
abbrev pub Item : Type 0
Item = Result Token Fault

abbrev pub token : Span → TokenKind → Item
token at kind = Ok (record { kind = kind; span = at })

-- the tokens of a line from some piece on, with Newline directly behind the last one, which ends at `last`
abbrev pub line_items : Span → List Piece → List Item
line_items last [] = token last Newline ∷ []
line_items last (p ∷ ps) = elim p.kind [
  | Between g ↦ line_items last ps
  | Lexeme k ↦ token p.from k ∷ line_items p.to ps
  | Wrong f ↦ Err f ∷ []
  | Over line ↦ Err (line, Unended) ∷ []
]

-- a line from its first token on
abbrev pub from_first : List Piece → List Piece
from_first [] = []
from_first (p ∷ ps) = elim p.kind [ Between g ↦ from_first ps | _ ↦ p ∷ ps ]

-- the levels that a line opens or closes stand before its first token, at its place; a fault in them is at the line's beginning
abbrev pub after_move : ℕ → Span → Moved → List Item → (List Column → List Item) → List Item
after_move line at (Err kind) items more = Err (line, kind) ∷ []
after_move line at (Ok m) items more = map (token at) m.0 ++ items ++ more m.1

-- A line that begins at `line`, from its first token on, at its column, and the lines after it. A line without a token changes
-- nothing.
abbrev pub laid_line : ℕ → Column → List Column → List Piece → (List Column → List Item) → List Item
laid_line line at levels [] more = more levels
laid_line line at levels (p ∷ ps) more = elim p.kind [
  | Over open_line ↦ Err (open_line, Unended) ∷ []
  | _ ↦ after_move line p.from (moved at levels) (line_items p.from (p ∷ ps)) more
]

-- behind the last line all levels close
abbrev pub ending : Span → List Column → List Item
ending end levels = replicate (length levels) (token end Dedent) ++ token end End ∷ []

abbrev pub laid : Span → List Column → List LogicalLine → List Item
laid end levels [] = ending end levels
laid end levels (l ∷ ls) =
    laid_line l.line (column margin l.pieces) levels (from_first l.pieces) (λ new. laid end new ls)

-- all of the tokens, or the first fault
abbrev pub put : Token → Result (List Token) Fault → Result (List Token) Fault
put t (Ok ts) = Ok (t ∷ ts)
put t (Err f) = Err f

abbrev pub settled : List Item → Result (List Token) Fault
settled [] = Ok []
settled (Ok t ∷ items) = put t (settled items)
settled (Err f ∷ items) = Err f

-- the pieces of the characters that are read; there are no more pieces than characters
abbrev pub pieces_of : List ℕ → List Piece
pieces_of text = pieces (end_of start text) (length text) (placed start text)

abbrev pub items_of : List ℕ → List Item
items_of text = laid (end_of start text) [] (logical_lines start.line (nested None [] (pieces_of text)))

-- a text's tokens, or where its first fault is and which
unfoldable pub tokens_of : List ℕ → Result (List Token) Fault
tokens_of text = settled (items_of (plain text))

-- What is still to come of a text's tokens, seen from the middle of it: the words in which the reader's steps are stated.
use Rattle.std.specs.Prelude.{◌≡◌, ℕ, Bool, true, false, List, [], ◌∷◌, ◌++◌, map, reverse, Option, Some, None, Result, Ok, Err, if◌then◌else◌}
use Rattle.std.specs.Borrow.{Bor}
use Rattle.py_syntax.specs.declared.token.Span.{Span}
use Rattle.py_syntax.specs.declared.token.Token.{Token}
use Rattle.py_syntax.specs.declared.token.TokenKind.{TokenKind}
use Rattle.py_syntax.specs.declared.token.TokenKind.TheVariants.{Dedent}
use Rattle.py_lexer.specs.declared.fault.LexError.{LexError}
use Rattle.py_lexer.specs.declared.gap.Gap.{Gap}
use Rattle.py_lexer.specs.declared.indent.Column.{Column}
use Rattle.py_lexer.specs.declared.placed.Placed.{Placed}
use Rattle.py_lexer.specs.declared.reader.Reader.{Reader}
use Rattle.py_lexer.specs.declared.reader.Bracket.{Bracket}
use Rattle.py_lexer.specs.declared.reader.Bracket.TheVariants as bracket
use Rattle.py_lexer.specs.Reading.{Fault, Fails, Read}
use Rattle.py_lexer.specs.Pieces.{Kind, Between, Lexeme, Wrong, Piece}
use Rattle.py_lexer.specs.Lines.{LogicalLine, logical_lines, nested, over, is_opening, is_closing}
use Rattle.py_lexer.specs.Indents.{column}
use Rattle.py_lexer.specs.Places.{start}
use Rattle.py_lexer.specs.Tokens.{Item, token, laid, laid_line, line_items, from_first, settled}

-- the pieces of the line that is being read, and the lines after it
abbrev pub head_pieces : List LogicalLine → List Piece
head_pieces [] = []
head_pieces (l ∷ ls) = l.pieces

abbrev pub other_lines : List LogicalLine → List LogicalLine
other_lines [] = []
other_lines (l ∷ ls) = ls

-- the column of a line of which the leading space so far ends at a column
abbrev pub full_column : Bool → Column → List Piece → Column
full_column true at ps = column at ps
full_column false at ps = at

-- the items of the line that is being read and of the lines after it: before its first token, or behind its last one so far
abbrev pub items_from : Span → List Column → ℕ → Column → Bool → Option Span → List LogicalLine → List Item
items_from end levels line at is_leading None ls =
    laid_line line (full_column is_leading at (head_pieces ls)) levels (from_first (head_pieces ls)) (λ new. laid end new (other_lines ls))
items_from end levels line at is_leading (Some last) ls = line_items last (head_pieces ls) ++ laid end levels (other_lines ls)

-- the tokens so far, and what is to come
abbrev pub behind : List Token → List Item → Result (List Token) Fault
behind done items = settled (map (λ t. Ok t) done ++ items)

-- the tokens of the text, where these lines follow what was read
abbrev pub with_lines : Span → Reader → List LogicalLine → Result (List Token) Fault
with_lines end r ls =
    behind r.tokens.items (items_from end (reverse r.levels.items) r.line r.column r.is_leading r.last ls)

-- the tokens of the text, where these pieces follow what was read
abbrev pub remaining : Span → Reader → List Piece → Result (List Token) Fault
remaining end r ps = with_lines end r (logical_lines r.line (nested r.joined (reverse r.brackets.items) ps))

-- the tokens of a text of these pieces
abbrev pub whole : Span → List Piece → Result (List Token) Fault
whole end ps = settled (laid end [] (logical_lines start.line (nested None [] ps)))

-- What a step that succeeds leaves to come is what was to come before it. Where it fails, that was to come.
abbrev pub Keeps : {A : Type 0} → Result A LexError → Result (List Token) Fault → Result (List Token) Fault → Type 0
Keeps (Ok x) before after = before ≡ after
Keeps (Err e) before after = Fails e before

-- a gap and a token as pieces
abbrev pub between : Gap → List ℕ → Span → Span → Piece
between g text from to = record { kind = Between g; text = text; from = from; to = to }

abbrev pub token_piece : TokenKind → List ℕ → Span → Span → Piece
token_piece k text from to = record { kind = Lexeme k; text = text; from = from; to = to }

-- a token, or a fault in its place
abbrev pub IsToken : Kind → Type 0
IsToken (Lexeme k) = Unit {0}
IsToken (Wrong f) = Unit {0}
IsToken _ = ⊥

abbrev pub bracket_of : TokenKind → Bracket
bracket_of k =
    if is_opening (Lexeme k) then bracket.Opening
    else (if is_closing (Lexeme k) then bracket.Closing else bracket.Neither)

abbrev pub over_of : Option ℕ → List Piece
over_of None = []
over_of (Some line) = over line ∷ []

abbrev pub dedent : Span → Item
dedent place = token place Dedent

-- the rest of the text, where it was not refused
abbrev pub rest_of : Result (Bor (List Placed)) LexError → List Placed
rest_of (Ok rest) = rest.now
rest_of (Err e) = []

-- what was read of a string stands behind the characters so far
abbrev pub Adds : List ℕ → List ℕ → Result (Bor (List Placed)) LexError → Read (List ℕ) → Type 0
Adds old new (Ok rest) read = (more : List ℕ) × (read ≡ Ok (more, rest.now)) × (new ≡ old ++ more)
Adds old new (Err e) read = Fails e read

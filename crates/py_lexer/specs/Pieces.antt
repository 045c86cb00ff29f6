-- The pieces of a text: tokens, and what stands between them (Python Language Reference, "Other tokens").
use Rattle.std.specs.Prelude.{ℕ, zero, suc, not, ◌&&◌, ◌==◌, if◌then◌else◌, List, [], ◌∷◌, drop, Option, Some, None, Ok, Err}
use Rattle.std.specs.Str.{byte}
use Rattle.std.specs.List.{prefix_len}
use Rattle.py_syntax.specs.declared.token.Span.{Span}
use Rattle.py_syntax.specs.declared.token.TokenKind.{TokenKind}
use Rattle.py_lexer.specs.declared.placed.Placed.{Placed}
use Rattle.py_lexer.specs.declared.gap.Gap.{Gap}
use Rattle.py_lexer.specs.declared.gap.Gap.TheVariants.{Space, Tab, FormFeed, Comment, Join, LineEnd}
use Rattle.py_lexer.specs.Places.{character_at, line_feed_character, place_of, front_of}
use Rattle.py_lexer.specs.Reading.{Fault, Read}
use Rattle.py_lexer_words.specs.Words.{begins_name}
use Rattle.py_lexer.specs.Words.{word}
use Rattle.py_lexer.specs.Numbers.{begins_number, number}
use Rattle.py_lexer.specs.Signs.{sign_at}
use Rattle.py_lexer.specs.Strings.{begins_string, string_at, backslash}

-- a comment ends before the end of its line
abbrev pub past_comment : List Placed → List Placed
past_comment cs = drop (prefix_len (λ c. not (c.character == line_feed_character)) cs) cs

-- what is no token, and the rest: a space, a tab, a form feed, a comment, a backslash with the line's end behind it, a line's end
unfoldable pub gap : List Placed → Option (Gap × List Placed)
gap cs =
    let c = character_at 0 cs in
    if c == byte " " then Some (Space, drop 1 cs)
    else (if c == 9 then Some (Tab, drop 1 cs)
    else (if c == 12 then Some (FormFeed, drop 1 cs)
    else (if c == line_feed_character then Some (LineEnd, drop 1 cs)
    else (if c == byte "#" then Some (Comment, past_comment (drop 1 cs))
    else (if c == backslash && character_at 1 cs == line_feed_character then Some (Join, drop 2 cs)
    else None)))))

-- a token without its place, and the rest
unfoldable pub lexeme : List Placed → Read TokenKind
lexeme cs =
    if begins_number cs then number cs
    else (if begins_string cs then string_at cs
    else (if begins_name (character_at 0 cs) then word cs
    else sign_at cs))

pub data Kind : Type 0 where
  Between : Gap → Kind
  Lexeme : TokenKind → Kind
  Wrong : Fault → Kind
  -- the text ends, and a bracket or a join that began on this line is open
  Over : ℕ → Kind

-- a piece, its characters, where it begins, and the place behind it
pub record Piece : Type 0 where
  pub kind : Kind
  pub text : List ℕ
  pub from : Span
  pub to : Span

abbrev pub piece : Span → Kind → List Placed → List Placed → Piece
piece end kind cs rest = record { kind = kind; text = front_of cs rest; from = place_of end cs; to = place_of end rest }

abbrev pub after_lexeme : Span → List Placed → (List Placed → List Piece) → Read TokenKind → List Piece
after_lexeme end cs more (Ok x) = piece end (Lexeme x.0) cs x.1 ∷ more x.1
after_lexeme end cs more (Err f) = piece end (Wrong f) cs cs ∷ []

abbrev pub after_gap : Span → List Placed → (List Placed → List Piece) → Option (Gap × List Placed) → List Piece
after_gap end cs more (Some x) = piece end (Between x.0) cs x.1 ∷ more x.1
after_gap end cs more None = after_lexeme end cs more (lexeme cs)

-- the pieces of a text that ends at `end`, up to the first fault; at most n of them
unfoldable pub pieces : Span → ℕ → List Placed → List Piece
pieces end n [] = []
pieces end zero (c ∷ cs) = []
pieces end (suc n) (c ∷ cs) = after_gap end (c ∷ cs) (pieces end n) (gap (c ∷ cs))

-- What a program reads: the bytes of its input, line by line, as `input()` meets them. Only LF ends a line.
use Rattle.std.specs.Prelude.{ℕ, ◌+◌, Bool, true, cond, ◌==◌, nat_lt, List, [], ◌∷◌, length}
use Rattle.std.specs.List.{list_any, before_first}
use Rattle.std.specs.Str.{is_utf8}

-- how the bytes end: where the input ends, or where reading it failed
pub data InputEnd : Type 0 where
  AtEof : InputEnd
  AtFailure : InputEnd

-- the lines that are left, and what follows the last one: the end of the input, a failed read, or a line too far along.
-- A line has its text, without its LF; one that is not UTF-8 has none
pub data Items : Type 0 where
  Eof : Items
  Broken : Items
  Over : Items
  Line : (text : List ℕ) (next : Items) → Items
  Bad : (next : Items) → Items

-- how many bytes of input a program may read
abbrev pub most_input : ℕ
most_input = 16777216

abbrev pub line_feed : ℕ
line_feed = 10

abbrev pub is_line_feed : ℕ → Bool
is_line_feed b = b == line_feed

-- a byte before the pieces of what follows it: a line feed ends its piece
abbrev pub before_pieces : ℕ → List (List ℕ) → List (List ℕ)
before_pieces b [] = (b ∷ []) ∷ []
before_pieces b (p ∷ ps) = cond (is_line_feed b) ((b ∷ []) ∷ p ∷ ps) ((b ∷ p) ∷ ps)

-- the bytes cut after each line feed: each piece but the last ends with one, no piece is empty, and joined they are the bytes
abbrev pub pieces : List ℕ → List (List ℕ)
pieces [] = []
pieces (b ∷ bs) = before_pieces b (pieces bs)

-- whether a piece has its line feed, and the piece without it
abbrev pub is_ended : List ℕ → Bool
is_ended p = list_any is_line_feed p

abbrev pub unended : List ℕ → List ℕ
unended p = before_first is_line_feed p

-- a line of this text, or a bad one
abbrev pub line_before : List ℕ → Items → Items
line_before text next = cond (is_utf8 text) (Line text next) (Bad next)

abbrev pub end_of_input : InputEnd → Items
end_of_input AtEof = Eof
end_of_input AtFailure = Broken

-- whether a piece is a line: the last one, without its line feed, is one only where the input ends after it
abbrev pub is_whole : InputEnd → List ℕ → Bool
is_whole AtEof p = true
is_whole AtFailure p = is_ended p

-- the lines of these pieces, `before` bytes of the input standing before them
abbrev pub lines_from : ℕ → InputEnd → List (List ℕ) → Items
lines_from before e [] = end_of_input e
lines_from before e (p ∷ ps) =
    cond (nat_lt most_input (before + length p)) Over (cond (is_whole e p) (line_before (unended p) (lines_from (before + length p) e ps)) (end_of_input e))

-- the lines of input bytes that end so
abbrev pub input_items : List ℕ → InputEnd → Items
input_items bytes e = lines_from 0 e (pieces bytes)

-- All that is told of a file, by its bytes, where it is known what is told of a tree. The rules go in this order, and the
-- first that is broken ends the search: the file is a text; its characters are tokens; its tokens are a module. A file that
-- breaks one of them has one entry. What is told of a module is what is told of its tree.
use Rattle.std.specs.Prelude.{◌≡◌, ℕ, ◌+◌, ◌==◌, Bool, true, false, List, [], ◌∷◌, take, count_by, Option, Some, None, option_to_list, slice_get, Result, Ok, Err}
use Rattle.std.specs.Option.{option_map, option_and_then, option_map_or}
use Rattle.std.specs.Str.{chars, is_utf8}
use Rattle.std.specs.Str.Lossy.{utf8_valid_len}
use Rattle.py_syntax.specs.declared.key.Key.{Key}
use Rattle.py_syntax.specs.declared.token.Token.{Token}
use Rattle.py_syntax.specs.declared.token.TokenKind.{TokenKind}
use Rattle.py_syntax.specs.declared.token.TokenKind.TheVariants as tokens
use Rattle.py_lexer.specs.Places.{line_feed_character, plain_ends}
use Rattle.py_lexer.specs.Reading.{Fault}
use Rattle.py_lexer.specs.Tokens.{tokens_of}
use Rattle.py_parser_grammar.specs.Faults.{Came, tree, syntax, profile, too_deep, Says}
use Rattle.py_parser_source.specs.declared.fault.FaultKind.{FaultKind}
use Rattle.py_parser_source.specs.declared.fault.FaultKind.TheVariants.{NoText, NoToken, NoTree, LeftOut, TooDeep}
use Rattle.py_parser_source.specs.Entries.{Entry, Telling}
use Rattle.py_parser_source.specs.Texts.{kind_text, kind_code}

abbrev pub at_line : ℕ → FaultKind → Entry
at_line line kind = record { line = line; text = kind_text kind; code = kind_code kind; note = None }

-- ---- lines

-- how many lines end in some bytes, each at LF, CR LF or CR
abbrev pub line_ends : List ℕ → ℕ
line_ends bytes = count_by (λ b. b == line_feed_character) (plain_ends bytes)

-- the line of the first byte that belongs to no character
abbrev pub bad_line : List ℕ → ℕ
bad_line bytes = 1 + line_ends (take (utf8_valid_len bytes) bytes)

-- the line of a token, and the keyword that it is
abbrev pub line_at : List Token → ℕ → ℕ
line_at ts i = option_map_or (λ t. t.span.line) (slice_get ts i) 0

abbrev pub key_of : TokenKind → Option Key
key_of (tokens.Key k) = Some k
key_of _ = None

abbrev pub key_at : List Token → ℕ → Option Key
key_at ts i = option_and_then (λ t. key_of t.kind) (slice_get ts i)

-- ---- a file

-- what is told by what came of its tokens
abbrev pub found_in : Telling → List Token → Came → List Entry
found_in told ts (tree suite) = told suite
found_in told ts (syntax i) = at_line (line_at ts i) NoTree ∷ []
found_in told ts (profile i) = option_to_list (option_map (λ k. at_line (line_at ts i) (LeftOut k)) (key_at ts i))
found_in told ts (too_deep j) = at_line (line_at ts j) TooDeep ∷ []

-- what is told of a text that has these tokens, or this first fault
abbrev pub AreOfTokens : Telling → Result (List Token) Fault → List Entry → Type 0
AreOfTokens told (Err f) es = es ≡ at_line f.0 (NoToken f.1) ∷ []
AreOfTokens told (Ok ts) es = (came : Came) × Says ts came × (es ≡ found_in told ts came)

-- what is told of bytes that are a text, or are none
abbrev pub AreOfBytes : Telling → Bool → List ℕ → List Entry → Type 0
AreOfBytes told false bytes es = es ≡ at_line (bad_line bytes) NoText ∷ []
AreOfBytes told true bytes es = AreOfTokens told (tokens_of (chars bytes)) es

-- THE FAULTS of a file, where this is told of a tree
abbrev pub AreFaults : Telling → List ℕ → List Entry → Type 0
AreFaults told bytes es = AreOfBytes told (is_utf8 bytes) bytes es

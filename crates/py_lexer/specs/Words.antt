-- Keywords and names (Python Language Reference, "Identifiers and keywords").
use Rattle.std.specs.Prelude.{ℕ, Bool, true, false, ◌&&◌, ◌||◌, ◌==◌, if◌then◌else◌, List, [], ◌∷◌, take, drop, encode_utf8_all, chars, Option, Some, None, Result, Ok, Err}
use Rattle.std.specs.Str.{byte}
use Rattle.std.specs.List.{list_all, prefix_len}
use Rattle.unicode_ident.specs.Ident.{is_xid_start, is_xid_continue}
use Rattle.unicode_normalization.specs.Forms.{nfkc}
use Rattle.py_syntax.specs.declared.key.Key.{Key}
use Rattle.py_syntax.specs.declared.token.TokenKind.{TokenKind}
use Rattle.py_syntax.specs.declared.token.TokenKind.TheVariants as token
use Rattle.py_syntax.specs.Texts.{key_of}
use Rattle.py_lexer.specs.declared.fault.LexKind.TheVariants.{BadCharacter}
use Rattle.py_lexer.specs.declared.placed.Placed.{Placed}
use Rattle.py_lexer_words.specs.Words.{is_python_identifier}
use Rattle.py_lexer.specs.Places.{characters, line_of}
use Rattle.py_lexer.specs.Reading.{Fault, Read, ◌>>=◌}

-- the longest front of a rest whose characters continue an identifier, and what follows it
abbrev pub word_len : List Placed → ℕ
word_len cs = prefix_len (λ c. is_xid_continue c.character) cs

abbrev pub word_at : List Placed → List ℕ
word_at cs = characters (take (word_len cs) cs)

abbrev pub past_word : List Placed → List Placed
past_word cs = drop (word_len cs) cs

-- a name by its normal form, which has to be an identifier itself
abbrev pub name_or_fault : List ℕ → Fault → Result TokenKind Fault
name_or_fault normal f = if is_python_identifier normal then Ok (token.Name (encode_utf8_all normal)) else Err f

-- a word is a keyword as it is written, and else a name
abbrev pub keyword_or_name : Option Key → List ℕ → Fault → Result TokenKind Fault
keyword_or_name (Some k) written f = Ok (token.Key k)
keyword_or_name None written f = name_or_fault (nfkc written) f

unfoldable pub word : List Placed → Read TokenKind
word cs =
    keyword_or_name (key_of (word_at cs)) (word_at cs) (line_of cs, BadCharacter) >>= λ k. Ok (k, past_word cs)

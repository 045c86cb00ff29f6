-- What an identifier is, and the name that a text in quotes stands for (Python Language Reference, "Identifiers and keywords").
use Rattle.std.specs.Prelude.{ℕ, Bool, true, false, ◌&&◌, ◌||◌, ◌==◌, if◌then◌else◌, List, [], ◌∷◌, encode_utf8_all, chars, Option, Some, None, is_none}
use Rattle.std.specs.Str.{byte}
use Rattle.std.specs.List.{list_all}
use Rattle.unicode_ident.specs.Ident.{is_xid_start, is_xid_continue}
use Rattle.unicode_normalization.specs.Forms.{nfkc}
use Rattle.py_syntax.specs.Texts.{key_of}

-- an identifier begins with `_` or XID_Start, and goes on with XID_Continue
abbrev pub begins_name : ℕ → Bool
begins_name c = c == byte "_" || is_xid_start c

abbrev pub is_python_identifier : List ℕ → Bool
is_python_identifier [] = false
is_python_identifier (c ∷ cs) = begins_name c && list_all is_xid_continue cs

-- ---- a text in quotes that stands for a name

-- characters that are an identifier as they are written, and no keyword
abbrev pub may_be_name : List ℕ → Bool
may_be_name written = is_python_identifier written && is_none (key_of written)

-- the name that a normal form is, if it is an identifier
abbrev pub name_if : Bool → List ℕ → Option (List ℕ)
name_if false normal = None
name_if true normal = if is_python_identifier normal then Some (encode_utf8_all normal) else None

-- The name that a text stands for, in UTF-8, where the whole text is one: what a source text with these characters would
-- have as its only word, if that word is a name.
abbrev pub name_in_quotes : List ℕ → Option (List ℕ)
name_in_quotes text = name_if (may_be_name (chars text)) (nfkc (chars text))

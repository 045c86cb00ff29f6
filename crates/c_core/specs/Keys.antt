-- The keys of dicts, as they are compared (Python Language Reference, "Dictionaries", but that a truth is no number): a number, a text
-- or a truth.
use Rattle.std.specs.Prelude.{ℕ, ℤ, Bool, true, false, not, List, codes, Option, Some, None}
use Rattle.std.specs.Fmt.{signed_decimal}
use Rattle.std.specs.List.{position}
use Rattle.std.specs.Option.{option_and_then}
use Rattle.std.specs.Ordering.{int_eq}
use Rattle.std.specs.Str.{bytes_eq}
use Rattle.c_core.specs.Cells.{Cells, content_at}
use Rattle.c_core.specs.Machine.{Word, ObjectCell, TrueObject, FalseObject, Content, IntCell, StrCell}

pub data Key : Type 0 where
  NumberKey : (n : ℤ) → Key
  TextKey : (text : List ℕ) → Key
  TruthKey : (b : Bool) → Key

abbrev pub same_key : Key → Key → Bool
same_key (NumberKey a) (NumberKey b) = int_eq a b
same_key (TextKey a) (TextKey b) = bytes_eq a b
same_key (TruthKey true) (TruthKey b) = b
same_key (TruthKey false) (TruthKey b) = not b
same_key _ _ = false

-- the key that a cell is, if it is one
abbrev pub key_in : Content → Option Key
key_in (IntCell n) = Some (NumberKey n)
key_in (StrCell text) = Some (TextKey text)
key_in _ = None

-- the key that a word is, none where its cell is gone
abbrev pub key_of : Cells Content → Word → Option Key
key_of cells (ObjectCell c) = option_and_then key_in (content_at cells c)
key_of cells TrueObject = Some (TruthKey true)
key_of cells FalseObject = Some (TruthKey false)
key_of cells _ = None

abbrev pub is_key : Key → Option Key → Bool
is_key k None = false
is_key k (Some l) = same_key k l

-- the place of the first pair of a dict whose key is this one
abbrev pub key_place : Cells Content → Key → List (Word × Word) → Option ℕ
key_place cells k pairs = position (λ p. is_key k (key_of cells p.0)) pairs

-- a key as it is printed
abbrev pub key_text : Key → List ℕ
key_text (NumberKey n) = signed_decimal n
key_text (TextKey text) = text
key_text (TruthKey true) = codes "True"
key_text (TruthKey false) = codes "False"

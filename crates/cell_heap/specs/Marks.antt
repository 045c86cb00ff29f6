-- The marks of the keys of dicts, by which keys are found: equal keys have one mark. No clause of a public function cites this module.
use Rattle.std.specs.Prelude.{◌≡◌, ℕ, ◌+◌, ◌*◌, ◌%◌, ◌^◌, ◌<◌, ℤ, Bool, true, false, if◌then◌else◌, List, [], ◌∷◌, ◌++◌, length, map, take, drop, remove, unsigned_abs, Option, Some, None, IfSome}
use Rattle.std.specs.Int.{is_negative}
use Rattle.std.specs.Option.{option_map}
use Rattle.c_core.specs.Cells.{Cells}
use Rattle.c_core.specs.Keys.{Key, NumberKey, TextKey, TruthKey, is_key}
use Rattle.c_core.specs.Machine as machine
use Rattle.slot_arena.specs.Contents.{Entry, Contents}
use Rattle.cell_heap.specs.declared.cells.CountedCell.{CountedCell}
use Rattle.cell_heap.specs.declared.content.Content.{Content}
use Rattle.cell_heap.specs.declared.content.Content.TheVariants.{Dict}
use Rattle.cell_heap.specs.declared.pairs.Pairs.{Pairs}
use Rattle.cell_heap.specs.declared.word.Word.{Word}
use Rattle.cell_heap.specs.Contents.{serial_in, word_named}
use Rattle.cell_heap.specs.Placed.{Placed, key_under}
use Rattle.cell_heap.specs.Held.{cells_of, leaves, to_take_off, IsLeft}

-- ---- the mark of a key
abbrev pub number_mark : ℤ → ℕ
number_mark n = 2 * (unsigned_abs n % 2 ^ 63) + (if is_negative n then 1 else 0)

-- that of a text, of which a part had this mark
abbrev pub text_mark : ℕ → List ℕ → ℕ
text_mark mark [] = mark
text_mark mark (byte ∷ bytes) = text_mark ((mark * 1099511628211 + byte) % 2 ^ 64) bytes

abbrev pub mark_of : Key → ℕ
mark_of (NumberKey n) = number_mark n
mark_of (TextKey text) = text_mark 1 text
mark_of (TruthKey true) = 1
mark_of (TruthKey false) = 0

-- ---- the marks of a dict
abbrev pub marks_in : Pairs → Option (List ℕ)
marks_in dict = option_map (λ marks. marks.value.keys) dict.marks

-- the keys of pairs
abbrev pub first_words : List (Word × Word) → List machine.Word
first_words = map (λ pair. word_named pair.0)

abbrev pub marks_of : Content → Option (List ℕ)
marks_of (Dict dict) = marks_in dict
marks_of _ = None

abbrev pub keys_in : Content → List machine.Word
keys_in (Dict dict) = first_words dict.pairs
keys_in _ = []

-- a cell of the serial that a word names as an object was made, where there are so many
abbrev pub IsMade : ℕ → machine.Word → Type 0
IsMade made (machine.ObjectCell name) = serial_in name < made
IsMade made _ = Unit {0}

-- a word has this mark as a key, if it is one
pub record IsMarked (cells : Cells Placed) (word : machine.Word) (mark : ℕ) : Type 0 where
  pub made : IsMade (length cells) word
  pub has : (key : Key) → key_under cells word ≡ Some key → mark_of key ≡ mark

abbrev pub AreMarked : Cells Placed → List machine.Word → List ℕ → Type 0
AreMarked cells [] [] = Unit {0}
AreMarked cells [] (mark ∷ marks) = ⊥
AreMarked cells (word ∷ words) [] = ⊥
AreMarked cells (word ∷ words) (mark ∷ marks) = IsMarked cells word mark × AreMarked cells words marks

-- the keys of a content have its marks, if it is a dict with marks
abbrev pub HasMarks : Cells Placed → Content → Type 0
HasMarks cells content = IfSome (marks_of content) (AreMarked cells (keys_in content))

abbrev pub EachHasMarks : Cells Placed → List (Option (Entry CountedCell)) → Type 0
EachHasMarks cells [] = Unit {0}
EachHasMarks cells (None ∷ entries) = EachHasMarks cells entries
EachHasMarks cells (Some entry ∷ entries) = HasMarks cells entry.value.content × EachHasMarks cells entries

abbrev pub AreAllMarked : Contents CountedCell → Type 0
AreAllMarked a = EachHasMarks (cells_of a.entries) a.entries

-- nothing waits to be taken off, there is a serial for each cell, and each mark is right
pub record IsKept (a : Contents CountedCell) : Type 0 where
  pub idle : a.condemned ≡ []
  pub few : length a.entries < 2 ^ 128
  pub marked : AreAllMarked a

-- whether a pair that may be missing has this key
abbrev pub has_key : Cells Placed → Key → Option (Word × Word) → Bool
has_key cells key None = false
has_key cells key (Some pair) = is_key key (key_under cells (word_named pair.0))

-- ---- what becomes of them
-- there are no marks, or a mark more
abbrev pub IsMore : Option ℕ → Option (List ℕ) → Option (List ℕ) → Type 0
IsMore mark old None = Unit {0}
IsMore mark old (Some new) = (m : ℕ) × (marks : List ℕ) × (mark ≡ Some m) × (old ≡ Some marks) × (new ≡ marks ++ m ∷ [])

pub record KeepsKeys (old new : Content) : Type 0 where
  pub keys : keys_in new ≡ keys_in old
  pub marks : marks_of new ≡ marks_of old

-- a pair was put at the end of a dict, or what is no dict stays
pub record IsPut (pair : Word × Word) (mark : Option ℕ) (old new : Content) : Type 0 where
  pub keys : IfSome (marks_of new) (λ _. keys_in new ≡ keys_in old ++ word_named pair.0 ∷ [])
  pub marks : IsMore mark (marks_of old) (marks_of new)

-- the pair at a place was taken out of a dict, or what is no dict stays
pub record IsTakenOut (place : ℕ) (old new : Content) : Type 0 where
  pub keys : keys_in new ≡ take place (keys_in old) ++ drop (place + 1) (keys_in old)
  pub marks : marks_of new ≡ option_map (λ marks. remove marks place) (marks_of old)

-- these references were given up, so that some cells may be condemned
pub record Gives (refs : List ℕ) (old new : Contents CountedCell) : Type 0 where
  pub released : (first : Cells Placed) (more : List ℕ) → IsLeft first (cells_of old.entries) → leaves first more new ≡ leaves first (refs ++ more) old
  pub rest : IsLeft (cells_of old.entries) (cells_of new.entries)
  pub left : to_take_off new ≡ to_take_off old
  pub marked : AreAllMarked old → AreAllMarked new

-- The heap's words and contents as the machine's. A cell that a word refers to is called by a number: by the name of its key,
-- which tells the key's slot and serial, or by the key's serial alone, which is how many cells were made before it.
use Rattle.std.specs.Prelude.{ℕ, ◌+◌, ◌*◌, ◌/◌, ◌%◌, ◌^◌, List, Option, map}
use Rattle.std.specs.Option.{option_map}
use Rattle.value_core.specs.Exceptions.{thrown}
use Rattle.c_core.specs.Machine as machine
use Rattle.slot_arena.specs.declared.key.Key.{Key}
use Rattle.slot_arena.specs.Serials.{serial_of}
use Rattle.cell_heap.specs.declared.word.Word.{Word}
use Rattle.cell_heap.specs.declared.word.Word.TheVariants.{Short, Big, TagError, I64, Char, PyNone, PyTrue, PyFalse, Cell, Null}
use Rattle.cell_heap.specs.declared.content.Content.{Content}
use Rattle.cell_heap.specs.declared.content.Content.TheVariants.{Int, Str, List as ListItems, Dict, Tuple, Inst, Exc}

-- the name of a key, and the slot and the serial that a name tells; a serial is below 2 ^ 128, so no two keys have one name
abbrev pub name_of : Key → ℕ
name_of key = key.slot * 2 ^ 128 + serial_of key

abbrev pub slot_in : ℕ → ℕ
slot_in name = name / 2 ^ 128

abbrev pub serial_in : ℕ → ℕ
serial_in name = name % 2 ^ 128

-- the number of a key: its serial
abbrev pub number_of : Key → ℕ
number_of key = serial_in (name_of key)

-- ---- words and contents, where each key is called so
abbrev pub word_by : (Key → ℕ) → Word → machine.Word
word_by called (Short n) = machine.ShortInt n
word_by called (Big key) = machine.BigInt (called key)
word_by called TagError = machine.TaggedError
word_by called (I64 n) = machine.Native n
word_by called (Char n) = machine.CharWord n
word_by called PyNone = machine.NoneObject
word_by called PyTrue = machine.TrueObject
word_by called PyFalse = machine.FalseObject
word_by called (Cell key) = machine.ObjectCell (called key)
word_by called Null = machine.NoObject

abbrev pub pair_by : (Key → ℕ) → Word × Word → machine.Word × machine.Word
pair_by called p = (word_by called p.0, word_by called p.1)

abbrev pub content_by : (Key → ℕ) → Content → machine.Content
content_by called (Int n) = machine.IntCell n
content_by called (Str text) = machine.StrCell text
content_by called (ListItems items) = machine.ListCell (map (word_by called) items)
content_by called (Dict dict) = machine.DictCell (map (pair_by called) dict.pairs)
content_by called (Tuple items) = machine.TupleCell (map (word_by called) items)
content_by called (Inst class attributes) = machine.InstCell class (map (option_map (word_by called)) attributes)
content_by called (Exc class text) = machine.ExcCell (thrown class text)

-- ---- by names
abbrev pub word_named : Word → machine.Word
word_named = word_by name_of

abbrev pub pair_named : Word × Word → machine.Word × machine.Word
pair_named = pair_by name_of

abbrev pub content_named : Content → machine.Content
content_named = content_by name_of

-- ---- by numbers
abbrev pub word_of : Word → machine.Word
word_of = word_by number_of

abbrev pub pair_of : Word × Word → machine.Word × machine.Word
pair_of = pair_by number_of

abbrev pub content_of : Content → machine.Content
content_of = content_by number_of

-- ---- the names of the cells that words, pairs and attributes refer to
abbrev pub words_refs : List Word → List ℕ
words_refs words = machine.refs (map word_named words)

abbrev pub pairs_refs : List (Word × Word) → List ℕ
pairs_refs pairs = machine.pair_refs (map pair_named pairs)

abbrev pub optional_refs : List (Option Word) → List ℕ
optional_refs attributes = machine.set_refs (map (option_map word_named) attributes)

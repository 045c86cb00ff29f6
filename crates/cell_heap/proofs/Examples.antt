-- The definitions at small values.
use Rattle.std.proofs.Common.{◌≡◌, ℕ, ◌+◌, ◌*◌, ◌^◌, false, [], ◌∷◌, Some, None, refl}
use Rattle.c_core.specs.Cells.{Cells, content_at, count_at, make, take_one}
use Rattle.c_core.specs.Machine.{Content, StrCell, ListCell, TupleCell, DictCell, InstCell, ObjectCell, NoneObject, TrueObject, FalseObject, refs_in}
use Rattle.c_core.specs.Release.{release}
use Rattle.slot_arena.specs.declared.key.Key.{Key}
use Rattle.slot_arena.specs.Serials.{key_with}
use Rattle.cell_heap.specs.declared.word.Word.TheVariants.{Cell as CellWord, PyNone}
use Rattle.cell_heap.specs.declared.content.Content.TheVariants.{Dict, Inst}
use Rattle.cell_heap.specs.Contents.{name_of, slot_in, number_of, content_named, content_of}
use Rattle.cell_heap.specs.Numbered.{numbered}
use Rattle.cell_heap.specs.Numbers.{numbers_of}
use Rattle.cell_heap.specs.Pairs.{place_at, with_pair, without_pair, pair_at}
use Rattle.cell_heap.specs.Placed.{Placed, number_in, held_at, refs_under, refill_held, is_there, place_under}
use Rattle.cell_heap.specs.Words.{with_word, with_last, without_last, refill_by, word_at, last_at}

abbrev key : ℕ → Key
key n = key_with 7 n

-- a text, and a tuple that holds it twice and was taken once more
abbrev text : Content
text = StrCell (97 ∷ [])

abbrev pair : Content
pair = TupleCell (ObjectCell 0 ∷ ObjectCell 0 ∷ [])

abbrev two : Cells Content
two = take_one 0 (take_one 1 (make pair (make text [])))

counted : (count_at two 0 ≡ 2) × (count_at two 1 ≡ 2) × (content_at two 1 ≡ Some pair) × (content_at two 2 ≡ None)
counted = (refl, refl, refl, refl)

-- the second reference to the tuple ends it, and with it both references to the text
first_given : numbers_of (release refs_in two (1 ∷ [])) ≡ 0 ∷ 1 ∷ []
first_given = refl

both_given : release refs_in (release refs_in two (1 ∷ [])) (1 ∷ []) ≡ None ∷ None ∷ []
both_given = refl

-- a cell that is made after that has a new number
made_after : numbers_of (make text (None ∷ None ∷ [])) ≡ 2 ∷ []
made_after = refl

-- keys are the machine's numbers in every place of a content, by their serials or by their names
called : (content_of (Dict (record { pairs = (CellWord (key 3), CellWord (key 4)) ∷ []; marks = None })) ≡ DictCell ((ObjectCell 3, ObjectCell 4) ∷ [])) × (content_of (Inst 5 (None ∷ Some PyNone ∷ [])) ≡ InstCell 5 (None ∷ Some NoneObject ∷ [])) × (content_named (Dict (record { pairs = (CellWord (key 3), PyNone) ∷ []; marks = None })) ≡ DictCell ((ObjectCell (7 * 2 ^ 128 + 3), NoneObject) ∷ [])) × (slot_in (name_of (key 3)) ≡ 7) × (number_of (key 3) ≡ 3)
called = (refl, refl, refl, refl, refl)

-- a list with two items: one is written over, one is put behind them, and the last one is taken off
abbrev items : Content
items = ListCell (NoneObject ∷ ObjectCell 0 ∷ [])

abbrev list : Cells Content
list = make items (make text [])

written : (refill_by (with_word 0 (Some (ObjectCell 0))) 1 list ≡ make (ListCell (ObjectCell 0 ∷ ObjectCell 0 ∷ [])) (make text [])) × (word_at list 1 0 ≡ Some NoneObject)
written = (refl, refl)

pushed : refill_by (with_last TrueObject) 1 list ≡ make (ListCell (NoneObject ∷ ObjectCell 0 ∷ TrueObject ∷ [])) (make text [])
pushed = refl

popped : (refill_by without_last 1 list ≡ make (ListCell (NoneObject ∷ [])) (make text [])) × (last_at list 1 ≡ Some (ObjectCell 0)) × (last_at (make (ListCell []) []) 0 ≡ None)
popped = (refl, refl, refl)

-- nothing is written past the last place, in a list nothing is unset, and a cell that is gone stays so
not_written : (refill_by (with_word 2 (Some NoneObject)) 1 list ≡ list) × (refill_by (with_word 0 None) 1 list ≡ list) × (refill_by without_last 0 (None ∷ []) ≡ None ∷ [])
not_written = (refl, refl, refl)

-- the value of a pair is written and its key stays, and an attribute is unset
written_elsewhere : (with_word 0 (Some NoneObject) (DictCell ((TrueObject, ObjectCell 0) ∷ [])) ≡ DictCell ((TrueObject, NoneObject) ∷ [])) × (with_word 1 None (InstCell 5 (None ∷ Some NoneObject ∷ [])) ≡ InstCell 5 (None ∷ None ∷ []))
written_elsewhere = (refl, refl)

-- a dict with two pairs, under a text and under a truth: keys are found by what they are, and a key whose cell is gone is no key
abbrev entries : Content
entries = DictCell ((ObjectCell 0, NoneObject) ∷ (TrueObject, ObjectCell 0) ∷ [])

abbrev dict : Cells Content
dict = make text (make entries (make text []))

found : (place_at dict 1 (ObjectCell 2) ≡ Some 0) × (place_at dict 1 TrueObject ≡ Some 1) × (place_at dict 1 FalseObject ≡ None) × (place_at dict 1 NoneObject ≡ None) × (place_at (None ∷ Some (record { count = 1; content = entries }) ∷ Some (record { count = 1; content = text }) ∷ []) 1 (ObjectCell 2) ≡ None)
found = (refl, refl, refl, refl, refl)

paired : (refill_by (with_pair (FalseObject, TrueObject)) 1 dict ≡ make text (make (DictCell ((ObjectCell 0, NoneObject) ∷ (TrueObject, ObjectCell 0) ∷ (FalseObject, TrueObject) ∷ [])) (make text []))) × (refill_by (without_pair 0) 1 dict ≡ make text (make (DictCell ((TrueObject, ObjectCell 0) ∷ [])) (make text [])))
paired = (refl, refl)

-- where there is no such pair, or no dict, nothing is taken out
not_taken : (refill_by (without_pair 2) 1 dict ≡ dict) × (pair_at dict 1 2 ≡ None) × (refill_by (without_pair 0) 1 list ≡ list)
not_taken = (refl, refl, refl)

-- ---- a heap: a text in slot 4, and a tuple in slot 2 that holds it, and that holds the text's serial with another slot
abbrev name : ℕ → ℕ → ℕ
name slot serial = slot * 2 ^ 128 + serial

abbrev mixed : Content
mixed = TupleCell (ObjectCell (name 4 0) ∷ ObjectCell (name 3 0) ∷ [])

abbrev heap : Cells Placed
heap = make (record { slot = 2; holds = mixed }) (take_one 0 (make (record { slot = 4; holds = text }) []))

-- a key is in the map where its slot and its serial are the cell's
in_map : (held_at heap (name 4 0) ≡ Some text) × (held_at heap (name 3 0) ≡ None) × (held_at heap (name 2 1) ≡ Some mixed) × (held_at heap (name 4 1) ≡ None) × (held_at heap (name 4 2) ≡ None)
in_map = (refl, refl, refl, refl, refl)

-- what another slot names is passed over as the tuple goes, so the text loses one reference of two
passed_over : release (refs_under heap) heap (number_in heap (name 2 1) ∷ []) ≡ Some (record { count = 1; content = record { slot = 4; holds = text } }) ∷ None ∷ []
passed_over = refl

-- it equals no key of a dict, nor is it one
abbrev keyed : Cells Placed
keyed = make (record { slot = 2; holds = DictCell ((ObjectCell (name 3 0), NoneObject) ∷ (ObjectCell (name 4 0), TrueObject) ∷ []) }) (make (record { slot = 4; holds = text }) [])

no_key : (place_under keyed (name 2 1) (ObjectCell (name 4 0)) ≡ Some 1) × (place_under keyed (name 2 1) (ObjectCell (name 3 0)) ≡ None) × (is_there keyed (ObjectCell (name 3 0)) ≡ false) × (place_under keyed (name 3 1) (ObjectCell (name 4 0)) ≡ None)
no_key = (refl, refl, refl, refl)

-- nothing is written through it
not_there : (refill_held (with_word 0 (Some NoneObject)) (name 3 1) heap ≡ heap) × (take_one (number_in heap (name 3 0)) heap ≡ heap)
not_there = (refl, refl)

-- by numbers the slots are not seen
by_number : numbered heap ≡ make (TupleCell (ObjectCell 0 ∷ ObjectCell 0 ∷ [])) (take_one 0 (make text []))
by_number = refl

-- The words in what a cell holds: which one stands at a place, and what is left as one is written, put at the end or
-- taken off there. A place is that of an item, of a pair, whose word is its value, or of an attribute.
use Rattle.std.specs.Prelude.{◌-◌, ℕ, zero, suc, Bool, true, false, List, [], ◌∷◌, ◌++◌, length, take, Option, Some, None, slice_get, slice_set, Result, Ok, Err}
use Rattle.std.specs.Option.{option_map, option_and_then, option_flatten, unwrap_or}
use Rattle.c_core.specs.Cells.{Cells, content_at, refill}
use Rattle.c_core.specs.Machine.{Word, Content, ListCell, DictCell, TupleCell, InstCell}
use Rattle.cell_heap.specs.declared.heap.HeapError.{HeapError}
use Rattle.cell_heap.specs.declared.heap.HeapError.TheVariants.{Dead, Memory}

-- the word at a place, None where there is no such place or an attribute is unset
abbrev pub word_in : ℕ → Content → Option Word
word_in i (ListCell items) = slice_get items i
word_in i (DictCell pairs) = option_map (λ p. p.1) (slice_get pairs i)
word_in i (TupleCell items) = slice_get items i
word_in i (InstCell class attributes) = option_flatten (slice_get attributes i)
word_in i content = None

-- items with a word written at a place
abbrev pub set_item : List Word → ℕ → Option Word → List Word
set_item items i None = items
set_item items i (Some w) = slice_set items i w

-- pairs with another value at a place; the key stays
abbrev pub set_value : List (Word × Word) → ℕ → Option Word → List (Word × Word)
set_value [] i o = []
set_value (p ∷ pairs) zero o = (p.0, unwrap_or o p.1) ∷ pairs
set_value (p ∷ pairs) (suc i) o = p ∷ set_value pairs i o

-- with a word written at a place, or nothing, which only an attribute can hold; without such a place all stays
abbrev pub with_word : ℕ → Option Word → Content → Content
with_word i o (ListCell items) = ListCell (set_item items i o)
with_word i o (DictCell pairs) = DictCell (set_value pairs i o)
with_word i o (TupleCell items) = TupleCell (set_item items i o)
with_word i o (InstCell class attributes) = InstCell class (slice_set attributes i o)
with_word i o content = content

abbrev pub is_list : Content → Bool
is_list (ListCell items) = true
is_list content = false

-- a list with one word more at its end
abbrev pub with_last : Word → Content → Content
with_last w (ListCell items) = ListCell (items ++ w ∷ [])
with_last w content = content

-- the last word of a list, None where it is empty, and the list without it
abbrev pub last_in : Content → Option Word
last_in (ListCell items) = slice_get items (length items - 1)
last_in content = None

abbrev pub without_last : Content → Content
without_last (ListCell items) = ListCell (take (length items - 1) items)
without_last content = content

-- the cells with what a cell holds replaced by a function of it; where the cell is gone they stay
module _ {X : Type 0} where
  abbrev pub refill_from : (X → X) → Option X → ℕ → Cells X → Cells X
  refill_from f None c cells = cells
  refill_from f (Some content) c cells = refill (f content) c cells

  abbrev pub refill_by : (X → X) → ℕ → Cells X → Cells X
  refill_by f c cells = refill_from f (content_at cells c) c cells

-- the word at a place of a cell, and the last one of the list that a cell holds
abbrev pub word_at : Cells Content → ℕ → ℕ → Option Word
word_at cells c i = option_and_then (word_in i) (content_at cells c)

abbrev pub last_at : Cells Content → ℕ → Option Word
last_at cells c = option_and_then last_in (content_at cells c)

-- whether a call was refused since the cell is gone
abbrev pub is_dead : Result (Unit {0}) HeapError → Bool
is_dead (Ok x) = false
is_dead (Err Dead) = true
is_dead (Err Memory) = false

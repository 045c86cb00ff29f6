-- What contracts see of a heap: a map from keys to counted cells. The cells stand by serial, None where one is gone, and each
-- has the slot in which it lies, so a key is in the map where the cell of its serial is there and lies in the slot of the key.
-- What a cell holds refers to others by the names of their keys. A name that is not in the map, since its cell is gone or it is
-- another heap's, refers to nothing.
use Rattle.std.specs.Prelude.{ℕ, ◌==◌, if◌then◌else◌, Bool, true, false, List, length, map, Option, Some, None, is_some}
use Rattle.std.specs.List.{position}
use Rattle.std.specs.Option.{option_map, option_and_then}
use Rattle.c_core.specs.Cells.{Cells, content_at}
use Rattle.c_core.specs.Keys.{Key, TruthKey, key_in, is_key}
use Rattle.c_core.specs.Machine.{Word, BigInt, ObjectCell, TrueObject, FalseObject, Content, refs_in}
use Rattle.slot_arena.specs.declared.key.Key.{Key as ArenaKey}
use Rattle.cell_heap.specs.Contents.{slot_in, serial_in}
use Rattle.cell_heap.specs.Pairs.{pairs_held}
use Rattle.cell_heap.specs.Words.{refill_by}

-- what a cell holds, with the names of the keys in it, and the slot in which the cell lies
pub record Placed : Type 0 where
  pub slot : ℕ
  pub holds : Content

abbrev pub placed_under : ArenaKey → Content → Placed
placed_under key content = record { slot = key.slot; holds = content }

-- ---- the map
abbrev pub lies_in : ℕ → Option Placed → Bool
lies_in slot None = false
lies_in slot (Some placed) = placed.slot == slot

-- the number of the cell that a name refers to; where it is not in the map, how many cells were made, a number of none
abbrev pub number_in : Cells Placed → ℕ → ℕ
number_in cells name = if lies_in (slot_in name) (content_at cells (serial_in name)) then serial_in name else length cells

-- what the cell of a name holds, None where it is not in the map
abbrev pub held_at : Cells Placed → ℕ → Option Content
held_at cells name = option_map (λ placed. placed.holds) (content_at cells (number_in cells name))

-- ---- what is in a cell
-- the numbers of the cells to which what a cell holds refers
abbrev pub refs_under : Cells Placed → Placed → List ℕ
refs_under cells placed = map (number_in cells) (refs_in placed.holds)

-- what a cell holds is replaced by a function of it, and the cell stays in its slot
abbrev pub in_place : (Content → Content) → Placed → Placed
in_place f placed = record { slot = placed.slot; holds = f placed.holds }

-- the cells with what the cell of a name holds replaced by a function of it; where it is not in the map they stay
abbrev pub refill_held : (Content → Content) → ℕ → Cells Placed → Cells Placed
refill_held f name cells = refill_by (in_place f) (number_in cells name) cells

-- ---- dicts
-- the key that a word is, None where it is none or its cell is not in the map
abbrev pub key_under : Cells Placed → Word → Option Key
key_under cells (ObjectCell name) = option_and_then key_in (held_at cells name)
key_under cells TrueObject = Some (TruthKey true)
key_under cells FalseObject = Some (TruthKey false)
key_under cells _ = None

-- whether the cell of a word is in the map, if it has one
abbrev pub is_there : Cells Placed → Word → Bool
is_there cells (BigInt name) = is_some (held_at cells name)
is_there cells (ObjectCell name) = is_some (held_at cells name)
is_there cells w = true

-- the place of the first of pairs whose key is this one, None where no key is asked for
abbrev pub place_among : Cells Placed → Option Key → List (Word × Word) → Option ℕ
place_among cells None pairs = None
place_among cells (Some k) pairs = position (λ p. is_key k (key_under cells p.0)) pairs

-- the place in the dict of a cell at which the key of a word stands
abbrev pub place_under : Cells Placed → ℕ → Word → Option ℕ
place_under cells name w = place_among cells (key_under cells w) (pairs_held (held_at cells name))

-- The names that a heap gave out: of these each call by name is one by number.
use Rattle.std.specs.Prelude.{◌≡◌, ℕ, ◌<◌, ◌≤◌, List, [], ◌∷◌, length, Option, Some}
use Rattle.std.specs.Option.{option_map}
use Rattle.c_core.specs.Cells.{Cells, content_at}
use Rattle.c_core.specs.Machine.{refs_in}
use Rattle.cell_heap.specs.Contents.{slot_in, serial_in}
use Rattle.cell_heap.specs.Placed.{Placed}

-- the slot of the cell of a number, None where it is gone or was never made
abbrev pub slot_at : Cells Placed → ℕ → Option ℕ
slot_at cells n = option_map (λ placed. placed.slot) (content_at cells n)

-- a cell of this name was made, and while it is there it lies in the slot of the name
pub record IsOurs (cells : Cells Placed) (name : ℕ) : Type 0 where
  pub made : serial_in name < length cells
  pub slot : (slot : ℕ) → slot_at cells (serial_in name) ≡ Some slot → slot ≡ slot_in name

-- each of these names
abbrev pub AreOurs : Cells Placed → List ℕ → Type 0
AreOurs cells [] = Unit {0}
AreOurs cells (name ∷ names) = IsOurs cells name × AreOurs cells names

-- each name in what the cells hold
abbrev pub HoldsOurs : Cells Placed → Type 0
HoldsOurs cells = (n : ℕ) (placed : Placed) → content_at cells n ≡ Some placed → AreOurs cells (refs_in placed.holds)

-- no cell that was made before came again or moved: each that is there was there, in the same slot
pub record KeepsPlaces (old new : Cells Placed) : Type 0 where
  pub longer : length old ≤ length new
  pub slots : (n slot : ℕ) → n < length old → slot_at new n ≡ Some slot → slot_at old n ≡ Some slot

-- The numbers of the cells that are there, and their keys.
use Rattle.std.specs.Prelude.{ℕ, ◌+◌, List, [], ◌∷◌, Some, None}
use Rattle.c_core.specs.Cells.{Cells}
use Rattle.slot_arena.specs.declared.key.Key.{Key}
use Rattle.slot_arena.specs.Serials.{key_with}
use Rattle.cell_heap.specs.Placed.{Placed}

module _ {X : Type 0} where
  -- the numbers of these cells, the first of which has this number
  abbrev pub numbers_from : ℕ → Cells X → List ℕ
  numbers_from n [] = []
  numbers_from n (None ∷ cells) = numbers_from (n + 1) cells
  numbers_from n (Some cell ∷ cells) = n ∷ numbers_from (n + 1) cells

  -- all numbers, in the order in which the cells were made
  abbrev pub numbers_of : Cells X → List ℕ
  numbers_of cells = numbers_from 0 cells

-- the keys of these cells, the first of which has this serial
abbrev pub keys_from : ℕ → Cells Placed → List Key
keys_from n [] = []
keys_from n (None ∷ cells) = keys_from (n + 1) cells
keys_from n (Some cell ∷ cells) = key_with cell.content.slot n ∷ keys_from (n + 1) cells

-- all keys of the map, in the order in which the cells were made
abbrev pub keys_of : Cells Placed → List Key
keys_of cells = keys_from 0 cells

-- Cells in an arena as those of a heap. No clause of a public function cites this module.
use Rattle.std.specs.Prelude.{◌≡◌, ℕ, zero, suc, ◌+◌, Bool, false, nat_lt, List, [], ◌∷◌, ◌++◌, length, map, Option, Some, None}
use Rattle.std.specs.Option.{option_map}
use Rattle.c_core.specs.Cells.{Cell, Cells}
use Rattle.c_core.specs.Machine.{refs_of, refs_in}
use Rattle.c_core.specs.Release.{release}
use Rattle.slot_arena.specs.declared.key.Key.{Key}
use Rattle.slot_arena.specs.Serials.{serial_of}
use Rattle.slot_arena.specs.Contents.{Entry, Contents}
use Rattle.cell_heap.specs.declared.cells.CountedCell.{CountedCell}
use Rattle.cell_heap.specs.declared.word.Word.{Word}
use Rattle.cell_heap.specs.Contents.{name_of, slot_in, serial_in, word_named, content_named}
use Rattle.cell_heap.specs.Ours.{slot_at}
use Rattle.cell_heap.specs.Placed.{Placed, number_in, refs_under}

-- the cell of a number, None where it is gone or was never made
abbrev pub cell_at : {X : Type 0} → Cells X → ℕ → Option (Cell X)
cell_at [] c = None
cell_at (o ∷ cells) zero = o
cell_at (o ∷ cells) (suc c) = cell_at cells c

-- a cell as the arena has it, in its slot
abbrev pub cell_of : ℕ → CountedCell → Cell Placed
cell_of slot cell = record { count = cell.count; content = record { slot = slot; holds = content_named cell.content } }

abbrev pub cell_in : Option (Entry CountedCell) → Option (Cell Placed)
cell_in = option_map (λ entry. cell_of entry.slot entry.value)

-- the heap's cells: as many as were made
abbrev pub cells_of : List (Option (Entry CountedCell)) → Cells Placed
cells_of = map cell_in

-- whether there is more than one reference to a cell that may be missing
abbrev pub is_shared : Option CountedCell → Bool
is_shared None = false
is_shared (Some cell) = nat_lt 1 cell.count

-- the name of a key tells its slot and its serial, as it does of each key in memory
pub record IsNamed (key : Key) : Type 0 where
  pub serial : serial_in (name_of key) ≡ serial_of key
  pub slot : slot_in (name_of key) ≡ key.slot

-- the reference of a word that may be missing
abbrev pub optional_ref : Option Word → List ℕ
optional_ref None = []
optional_ref (Some word) = refs_of (word_named word)

-- the references in the contents of condemned cells, which wait to be given up
abbrev pub waiting : List (Key × CountedCell) → List ℕ
waiting [] = []
waiting (pair ∷ pairs) = refs_in (content_named pair.1.content) ++ waiting pairs

-- what is left of the cells once these references and then all that wait are given up, where a name refers to what it did
-- among the first cells
abbrev pub leaves : Cells Placed → List ℕ → Contents CountedCell → Cells Placed
leaves first refs a =
    release (refs_under first) (cells_of a.entries) (map (number_in first) (refs ++ waiting a.condemned))

-- cells that are left of these: none is new, and none moved
pub record IsLeft (first rest : Cells Placed) : Type 0 where
  pub made : length rest ≡ length first
  pub slots : (n slot : ℕ) → slot_at rest n ≡ Some slot → slot_at first n ≡ Some slot

-- how many entries are in the map
abbrev pub present : {X : Type 0} → List (Option X) → ℕ
present [] = 0
present (None ∷ entries) = present entries
present (Some entry ∷ entries) = present entries + 1

-- how many cells there are to take off yet, if all go
abbrev pub to_take_off : Contents CountedCell → ℕ
to_take_off a = present a.entries + length a.condemned

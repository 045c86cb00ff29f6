-- The cell of a key is changed: what is there then.
use Rattle.std.proofs.Common.{◌≡◌, refl, sym, ap, ◌∙◌, zero, suc, ℕ, ◌+◌, ◌∷◌, [], Some}
use Rattle.c_core.specs.Cells.{Cells, change, take_one, raised}
use Rattle.c_core.specs.Machine as machine
use Rattle.slot_arena.specs.declared.key.Key.{Key}
use Rattle.slot_arena.specs.Contents.{Contents, value_at, with_value}
use Rattle.cell_heap.specs.declared.cells.CountedCell.{CountedCell}
use Rattle.cell_heap.specs.Contents.{name_of, content_named}
use Rattle.cell_heap.specs.Held.{cells_of, IsNamed}
use Rattle.cell_heap.specs.Placed.{Placed, number_in, in_place, refill_held}
use Rattle.cell_heap.proofs.CellLemmas.{rewritten, change-refill}
use Rattle.cell_heap.proofs.HeldLemmas.{cells-written}
use Rattle.cell_heap.proofs.KeptLemmas.{written}

pub put_taken : (a : Contents CountedCell) (key : Key) (cell : CountedCell) → IsNamed key → Some cell ≡ value_at a key → cells_of (with_value a key (record { count = cell.count + 1; content = cell.content })).entries ≡ take_one (number_in (cells_of a.entries) (name_of key)) (cells_of a.entries)
put_taken a key cell named is =
    let new : CountedCell = record { count = cell.count + 1; content = cell.content } in
    cells-written raised a key cell (Some (record { slot = key.slot; value = new })) named is refl

pub put_writes : (f : machine.Content → machine.Content) (a : Contents CountedCell) (key : Key) (old new : CountedCell) → IsNamed key → Some old ≡ value_at a key → new.count ≡ old.count → content_named new.content ≡ f (content_named old.content) → cells_of (with_value a key new).entries ≡ refill_held f (name_of key) (cells_of a.entries)
put_writes f a key old new named is count content =
    cells-written (rewritten (in_place f)) a key old (Some (record { slot = key.slot; value = new })) named is (written f key.slot old new count content)
    ∙ change-refill (in_place f) (number_in (cells_of a.entries) (name_of key)) (cells_of a.entries)

change-same : (c : ℕ) (cells : Cells Placed) → change (λ o. o) c cells ≡ cells
change-same c [] = refl
change-same zero (o ∷ cells) = refl
change-same (suc c) (o ∷ cells) = ap (λ z. o ∷ z) (change-same c cells)

-- the same content was written back
pub put_same : (a : Contents CountedCell) (key : Key) (old new : CountedCell) → IsNamed key → Some old ≡ value_at a key → new.count ≡ old.count → content_named new.content ≡ content_named old.content → cells_of (with_value a key new).entries ≡ cells_of a.entries
put_same a key old new named is count content =
    cells-written (λ o. o) a key old (Some (record { slot = key.slot; value = new })) named is
    (ap (λ k. Some (record { count = k; content = record { slot = key.slot; holds = content_named old.content } })) (sym count)
    ∙ ap (λ x. Some (record { count = new.count; content = record { slot = key.slot; holds = x } })) (sym content))
    ∙ change-same (number_in (cells_of a.entries) (name_of key)) (cells_of a.entries)

-- Cells of which one holds a function of what it held.
use Rattle.std.proofs.Common.{◌≡◌, ap, Some}
use Rattle.std.specs.Prelude.{ℕ}
use Rattle.c_core.specs.Cells.{Cells, content_at, refill}
use Rattle.cell_heap.specs.Words.{refill_from, refill_by}

-- what the caller sees where the cell is there
pub refill-there : {X : Type 0} (f : X → X) (c : ℕ) (cells : Cells X) (content : X) → content_at cells c ≡ Some content → refill_by f c cells ≡ refill (f content) c cells
refill-there f c cells content e = ap (λ x. refill_from f x c cells) e

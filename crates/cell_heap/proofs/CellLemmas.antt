-- Cells by number, whatever they hold: what stands at a number, and what a change of one cell leaves.
use Rattle.std.proofs.Common.{◌≡◌, refl, sym, ap, ◌∙◌, ℕ, zero, suc, ◌+◌, ◌<◌, ◌≤◌, arith, List, [], ◌∷◌, length, Option, Some, None}
use Rattle.std.specs.Prelude.{map}
use Rattle.std.specs.Option.{option_map}
use Rattle.c_core.specs.Cells.{Cell, Cells, change, counted, count_at, content_of, content_at, make}
use Rattle.c_core.specs.Release.{freed, freed_of}
use Rattle.cell_heap.specs.Held.{cell_at}
use Rattle.cell_heap.specs.Words.{refill_from, refill_by}

module _ {X : Type 0} where
  pub content_at-cell : (cells : Cells X) (c : ℕ) → content_at cells c ≡ content_of (cell_at cells c)
  content_at-cell [] c = refl
  content_at-cell (o ∷ cells) zero = refl
  content_at-cell (o ∷ cells) (suc c) = content_at-cell cells c

  pub count_at-cell : (cells : Cells X) (c : ℕ) → count_at cells c ≡ counted (cell_at cells c)
  count_at-cell [] c = refl
  count_at-cell (o ∷ cells) zero = refl
  count_at-cell (o ∷ cells) (suc c) = count_at-cell cells c

  pub past : (cells : Cells X) (c : ℕ) → length cells ≤ c → cell_at cells c ≡ None
  past [] c le = refl
  past (o ∷ cells) zero le = absurd (omega arith)
  past (o ∷ cells) (suc c) le = past cells c (omega arith)

  pub within : (cells : Cells X) (c : ℕ) (x : X) → content_at cells c ≡ Some x → c < length cells
  within [] c x is = absurd (cc)
  within (o ∷ cells) zero x is = omega arith
  within (o ∷ cells) (suc c) x is = omega (arith, within cells c x is)

  pub cell_gone : (cells : Cells X) (c : ℕ) → content_at cells c ≡ None → cell_at cells c ≡ None
  cell_gone cells c gone = of_cell (cell_at cells c) (sym (content_at-cell cells c) ∙ gone)
    where
      of_cell : (o : Option (Cell X)) → content_of o ≡ None → o ≡ None
      of_cell None is = refl
      of_cell (Some cell) is = absurd (cc)

  pub length-change : (by : Option (Cell X) → Option (Cell X)) (c : ℕ) (cells : Cells X) → length (change by c cells) ≡ length cells
  length-change by c [] = refl
  length-change by zero (o ∷ cells) = refl
  length-change by (suc c) (o ∷ cells) = omega (arith, length-change by c cells)

  pub length-make : (x : X) (cells : Cells X) → length (make x cells) ≡ length cells + 1
  length-make x [] = refl
  length-make x (o ∷ cells) = omega (arith, length-make x cells)

  pub change-gone : (by : Option (Cell X) → Option (Cell X)) (c : ℕ) (cells : Cells X) → by None ≡ None → cell_at cells c ≡ None → change by c cells ≡ cells
  change-gone by c [] none gone = refl
  change-gone by zero (o ∷ cells) none gone = ap (λ q. q ∷ cells) (ap by gone ∙ none ∙ sym gone)
  change-gone by (suc c) (o ∷ cells) none gone = ap (λ cs. o ∷ cs) (change-gone by c cells none gone)

  -- two numbers by which no change of one cell tells the cells apart
  pub record Alike (cells : Cells X) (m n : ℕ) : Type 0 where
    pub cell : cell_at cells m ≡ cell_at cells n
    pub same : (cell : Cell X) → cell_at cells n ≡ Some cell → m ≡ n

  pub alike_change : (by : Option (Cell X) → Option (Cell X)) (cells : Cells X) (m n : ℕ) → by None ≡ None → Alike cells m n → change by m cells ≡ change by n cells
  alike_change by cells m n none alike = of_cell (cell_at cells n) refl
    where
      of_cell : (o : Option (Cell X)) → cell_at cells n ≡ o → change by m cells ≡ change by n cells
      of_cell None at = change-gone by m cells none (alike.cell ∙ at) ∙ sym (change-gone by n cells none at)
      of_cell (Some cell) at = ap (λ c. change by c cells) (alike.same cell at)

  pub freed-cell : (inner : X → List ℕ) (cells : Cells X) (c : ℕ) → freed inner c cells ≡ freed_of inner (cell_at cells c)
  freed-cell inner [] c = refl
  freed-cell inner (o ∷ cells) zero = refl
  freed-cell inner (o ∷ cells) (suc c) = freed-cell inner cells c

  -- the cell with a function of its content
  abbrev pub rewritten : (X → X) → Option (Cell X) → Option (Cell X)
  rewritten f None = None
  rewritten f (Some cell) = Some (record { count = cell.count; content = f cell.content })

  from-suc : (f : X → X) (x : Option X) (c : ℕ) (o : Option (Cell X)) (cells : Cells X) → o ∷ refill_from f x c cells ≡ refill_from f x (suc c) (o ∷ cells)
  from-suc f None c o cells = refl
  from-suc f (Some content) c o cells = refl

  pub change-refill : (f : X → X) (c : ℕ) (cells : Cells X) → change (rewritten f) c cells ≡ refill_by f c cells
  change-refill f c [] = refl
  change-refill f zero (None ∷ cells) = refl
  change-refill f zero (Some cell ∷ cells) = refl
  change-refill f (suc c) (o ∷ cells) = ap (λ z. o ∷ z) (change-refill f c cells) ∙ from-suc f (content_at cells c) c o cells

  pub length-refill_by : (f : X → X) (c : ℕ) (cells : Cells X) → length (refill_by f c cells) ≡ length cells
  length-refill_by f c cells = ap length (sym (change-refill f c cells)) ∙ length-change (rewritten f) c cells

  -- what stands at a number of changed cells is what stood there, or the changed cell
  pub changed_at : (P : Option (Cell X) → Type 0) (by : Option (Cell X) → Option (Cell X)) (c n : ℕ) (cells : Cells X) → P (cell_at cells n) → P (by (cell_at cells n)) → P (cell_at (change by c cells) n)
  changed_at P by c n [] old new = old
  changed_at P by zero zero (o ∷ cells) old new = new
  changed_at P by zero (suc n) (o ∷ cells) old new = old
  changed_at P by (suc c) zero (o ∷ cells) old new = old
  changed_at P by (suc c) (suc n) (o ∷ cells) old new = changed_at P by c n cells old new

  -- a cell that was made before the last one
  pub made_before : (x : X) (cells : Cells X) (c : ℕ) → c < length cells → content_at (make x cells) c ≡ content_at cells c
  made_before x [] c lt = absurd (omega arith)
  made_before x (o ∷ cells) zero lt = refl
  made_before x (o ∷ cells) (suc c) lt = made_before x cells c (omega arith)

  pub made_last : (x : X) (cells : Cells X) → content_at (make x cells) (length cells) ≡ Some x
  made_last x [] = refl
  made_last x (o ∷ cells) = made_last x cells

-- ---- each content seen through a function of it
module _ {X Y : Type 0} (f : Cell X → Cell Y) where
  pub cell_at-map : (cells : Cells X) (c : ℕ) → cell_at (map (option_map f) cells) c ≡ option_map f (cell_at cells c)
  cell_at-map [] c = refl
  cell_at-map (o ∷ cells) zero = refl
  cell_at-map (o ∷ cells) (suc c) = cell_at-map cells c

  pub change-map : (by : Option (Cell Y) → Option (Cell Y)) (own : Option (Cell X) → Option (Cell X)) (c : ℕ) (cells : Cells X) → ((o : Option (Cell X)) → option_map f (own o) ≡ by (option_map f o)) → map (option_map f) (change own c cells) ≡ change by c (map (option_map f) cells)
  change-map by own c [] same = refl
  change-map by own zero (o ∷ cells) same = ap (λ q. q ∷ map (option_map f) cells) (same o)
  change-map by own (suc c) (o ∷ cells) same = ap (λ cs. option_map f o ∷ cs) (change-map by own c cells same)

-- What giving references up leaves of the cells (mypyc's developer guide, "Reference counting"): the count of the cell
-- is one less, and at zero the cell goes and gives up each reference that it holds. A reference to a cell that is
-- gone is passed over.
use Rattle.std.specs.Prelude.{ℕ, zero, suc, ◌+◌, List, [], ◌∷◌, ◌++◌, length, Option, Some, None}
use Rattle.c_core.specs.Cells.{Cell, Cells, times, change, lowered}

module _ {X : Type 0} where
  -- the cells with one reference to c less
  abbrev pub after : ℕ → Cells X → Cells X
  after = change lowered

-- `refs_in` are the references that a content holds
module _ {X : Type 0} (refs_in : X → List ℕ) where
  -- the references that a cell holds, none where it is gone
  abbrev pub inside : Option (Cell X) → List ℕ
  inside None = []
  inside (Some cell) = refs_in cell.content

  -- the references that a cell lets go of where its count gets one less: all at its end
  abbrev pub let_go : ℕ → X → List ℕ
  let_go zero content = refs_in content
  let_go (suc zero) content = refs_in content
  let_go (suc (suc n)) content = []

  abbrev pub freed_of : Option (Cell X) → List ℕ
  freed_of None = []
  freed_of (Some cell) = let_go cell.count cell.content

  abbrev pub freed : ℕ → Cells X → List ℕ
  freed c [] = []
  freed zero (o ∷ cells) = freed_of o
  freed (suc c) (o ∷ cells) = freed c cells

  -- how many references all contents hold
  abbrev pub weight : Cells X → ℕ
  weight [] = 0
  weight (o ∷ cells) = length (inside o) + weight cells

  -- how often the contents hold c
  abbrev pub uses : Cells X → ℕ → ℕ
  uses [] c = 0
  uses (o ∷ cells) c = times (inside o) c + uses cells c

  -- at most n references are given up, in order, and those that a cell lets go of come next
  abbrev pub release_some : ℕ → Cells X → List ℕ → Cells X
  release_some zero cells refs = cells
  release_some (suc n) cells [] = cells
  release_some (suc n) cells (c ∷ refs) = release_some n (after c cells) (freed c cells ++ refs)

  -- all references are given up: each one leaves the list, and what a cell lets go of moves from its content to the list
  abbrev pub release : Cells X → List ℕ → Cells X
  release cells refs = release_some (length refs + weight cells) cells refs

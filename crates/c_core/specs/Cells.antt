-- Cells by number, each with a count of references and a content. The cell of number n stands at place n, and None
-- stands there once it is gone, so a number is never used again and the next one is the length.
use Rattle.std.specs.Prelude.{ℕ, zero, suc, ◌+◌, List, [], ◌∷◌, ◌++◌, Option, Some, None}

pub record Cell (X : Type 0) : Type 0 where
  pub count : ℕ
  pub content : X

abbrev pub Cells : Type 0 → Type 0
Cells X = List (Option (Cell X))

-- 1 where two numbers are the same, and else 0
abbrev pub same : ℕ → ℕ → ℕ
same zero zero = 1
same zero (suc d) = 0
same (suc c) zero = 0
same (suc c) (suc d) = same c d

-- how often a number stands in a list
abbrev pub times : List ℕ → ℕ → ℕ
times [] c = 0
times (d ∷ ds) c = same d c + times ds c

module _ {X : Type 0} where
  -- the count of a cell, 0 where it is gone
  abbrev pub counted : Option (Cell X) → ℕ
  counted None = 0
  counted (Some cell) = cell.count

  abbrev pub count_at : Cells X → ℕ → ℕ
  count_at [] c = 0
  count_at (o ∷ cells) zero = counted o
  count_at (o ∷ cells) (suc c) = count_at cells c

  -- the content of a cell, None where it is gone
  abbrev pub content_of : Option (Cell X) → Option X
  content_of None = None
  content_of (Some cell) = Some cell.content

  abbrev pub content_at : Cells X → ℕ → Option X
  content_at [] c = None
  content_at (o ∷ cells) zero = content_of o
  content_at (o ∷ cells) (suc c) = content_at cells c

  -- one cell changed; nothing changes where there never was one
  abbrev pub change : (Option (Cell X) → Option (Cell X)) → ℕ → Cells X → Cells X
  change f c [] = []
  change f zero (o ∷ cells) = f o ∷ cells
  change f (suc c) (o ∷ cells) = o ∷ change f c cells

  -- one reference less: at none the cell goes
  abbrev pub one_less : ℕ → X → Option (Cell X)
  one_less zero content = None
  one_less (suc zero) content = None
  one_less (suc (suc n)) content = Some (record { count = suc n; content = content })

  abbrev pub lowered : Option (Cell X) → Option (Cell X)
  lowered None = None
  lowered (Some cell) = one_less cell.count cell.content

  -- one reference more
  abbrev pub raised : Option (Cell X) → Option (Cell X)
  raised None = None
  raised (Some cell) = Some (record { count = cell.count + 1; content = cell.content })

  abbrev pub take_one : ℕ → Cells X → Cells X
  take_one = change raised

  -- another content in a cell that is there
  abbrev pub refilled : X → Option (Cell X) → Option (Cell X)
  refilled content None = None
  refilled content (Some cell) = Some (record { count = cell.count; content = content })

  abbrev pub refill : X → ℕ → Cells X → Cells X
  refill content = change (refilled content)

  -- a new cell, whose one reference is its maker's
  abbrev pub make : X → Cells X → Cells X
  make content cells = cells ++ Some (record { count = 1; content = content }) ∷ []

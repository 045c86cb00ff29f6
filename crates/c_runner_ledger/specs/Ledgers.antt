-- The runner's ledger as the machine's, and what is asked of it.
use Rattle.std.specs.Prelude.{ℕ, nat_lt, ◌&&◌, Bool, true, false, List, [], ◌∷◌, ◌++◌, replicate}
use Rattle.c_core.specs.Cells.{times}
use Rattle.c_core.specs.Ledgers.{without}

-- each entry is a number and how often it stands in the ledger beyond the first time
abbrev pub numbers_of : List (ℕ × ℕ) → List ℕ
numbers_of [] = []
numbers_of (e ∷ es) = e.0 ∷ (replicate e.1 e.0 ++ numbers_of es)

-- whether nothing stands there
abbrev pub is_none : List ℕ → Bool
is_none [] = true
is_none (c ∷ l) = false

-- whether a number stands there, and nothing else is left without it
abbrev pub is_only : ℕ → List ℕ → Bool
is_only c l = nat_lt 0 (times l c) && is_none (without c l)

-- Ledgers: the cells that a frame owns, each as often as it owns it. The numbers ascend, so that a ledger is known by
-- how often each number stands in it (`times`).
use Rattle.std.specs.Prelude.{ℕ, ◌≤◌, nat_le, ◌==◌, cond, List, [], ◌∷◌}

abbrev pub Ledger : Type 0
Ledger = List ℕ

-- one reference more, at its place in the order
abbrev pub more : ℕ → Ledger → Ledger
more c [] = c ∷ []
more c (d ∷ l) = cond (nat_le c d) (c ∷ (d ∷ l)) (d ∷ more c l)

-- some references more
abbrev pub more_of : List ℕ → Ledger → Ledger
more_of [] l = l
more_of (c ∷ cs) l = more c (more_of cs l)

-- one reference less; nothing changes where there is none
abbrev pub without : ℕ → Ledger → Ledger
without c [] = []
without c (d ∷ l) = cond (d == c) l (d ∷ without c l)

-- the numbers ascend from n on
abbrev pub AscendsFrom : ℕ → List ℕ → Type 0
AscendsFrom n [] = Unit {0}
AscendsFrom n (d ∷ l) = (n ≤ d) × AscendsFrom d l

abbrev pub Ascends : List ℕ → Type 0
Ascends l = AscendsFrom 0 l

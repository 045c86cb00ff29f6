-- Counts two by two, by what both have in common.
use Rattle.std.specs.Prelude.{◌≡◌, ℕ, ◌+◌, List, [], ◌∷◌, ◌++◌, length, Some, slice_get}
use Rattle.c_core.specs.Cells.{times}
use Rattle.refcount_insert.specs.declared.sharing.EdgeCounts.{EdgeCounts}
use Rattle.refcount_insert.specs.declared.pairs.Part.{Part}

-- counts in two parts
abbrev pub IsSum : EdgeCounts → EdgeCounts → EdgeCounts → Type 0
IsSum c x e =
    (r : ℕ) → (times c.ups r + times x.ups r ≡ times e.ups r) × (times c.downs r + times x.downs r ≡ times e.downs r)

-- two counts behind others, by what they have in common
abbrev pub IsPair : List Part → List EdgeCounts → EdgeCounts → EdgeCounts → List Part → List EdgeCounts → Type 0
IsPair parts commons a b more shared =
    (c : EdgeCounts) × (x : EdgeCounts) × (y : EdgeCounts) × IsSum c x a × IsSum c y b × (more ≡ parts ++ (record { own = x; over = length commons } ∷ record { own = y; over = length commons } ∷ [])) × (shared ≡ commons ++ c ∷ [])

-- counts behind others, which have nothing alone
abbrev pub IsAlone : List Part → List EdgeCounts → EdgeCounts → List Part → List EdgeCounts → Type 0
IsAlone parts commons e more shared =
    (x : EdgeCounts) × (x.ups ≡ []) × (x.downs ≡ []) × (more ≡ parts ++ (record { own = x; over = length commons } ∷ [])) × (shared ≡ commons ++ e ∷ [])

-- the first of some counts, each as what it has alone and what it shares with another one; what is shared is a part of one of all
pub record AreParted (all : List EdgeCounts) (parts : List Part) (commons : List EdgeCounts) : Type 0 where
  pub sums : (i : ℕ) (x : Part) → slice_get parts i ≡ Some x → (e : EdgeCounts) × (c : EdgeCounts) × (slice_get all i ≡ Some e) × (slice_get commons x.over ≡ Some c) × IsSum c x.own e
  pub from : (j : ℕ) (c : EdgeCounts) → slice_get commons j ≡ Some c → (i : ℕ) × (e : EdgeCounts) × (x : EdgeCounts) × (slice_get all i ≡ Some e) × IsSum c x e

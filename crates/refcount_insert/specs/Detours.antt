-- Detours to a block, and what is counted on the way over them.
use Rattle.std.specs.Prelude.{◌≡◌, ◌<◌, ◌≤◌, ℕ, suc, ◌+◌, false, cond, nat_eq, List, [], ◌∷◌, length, Some, slice_get}
use Rattle.c_core.specs.Cells.{times}
use Rattle.refcount_insert.specs.declared.sharing.EdgeCounts.{EdgeCounts}
use Rattle.refcount_insert.specs.declared.detours.Detour.{Detour}
use Rattle.refcount_insert.specs.declared.detours.Front.{Front}
use Rattle.refcount_insert.specs.Sharing.{is_none}

-- how often a register is counted on the way from the detour that stands so many in front of the block
abbrev pub total : (EdgeCounts → List ℕ) → List Detour → ℕ → ℕ → ℕ
total of [] n r = 0
total of (d ∷ ds) n r = cond (nat_eq n (suc (length ds))) (times (of d.counts) r + total of ds d.next r) (total of ds n r)

abbrev pub taken : List Detour → ℕ → ℕ → ℕ
taken = total (λ e. e.ups)

abbrev pub given : List Detour → ℕ → ℕ → ℕ
given = total (λ e. e.downs)

-- each detour goes to a later one or to the block, and it does count something
abbrev pub AreLinked : List Detour → Type 0
AreLinked [] = Unit {0}
AreLinked (d ∷ ds) = (d.next ≤ length ds) × (is_none d.counts ≡ false) × AreLinked ds

-- what is counted on the way are these counts, or some of them
abbrev pub IsWay : List Detour → ℕ → EdgeCounts → Type 0
IsWay ds n e = (r : ℕ) → (taken ds n r ≡ times e.ups r) × (given ds n r ≡ times e.downs r)

abbrev pub IsPart : List Detour → ℕ → EdgeCounts → Type 0
IsPart ds n e = (r : ℕ) → (taken ds n r ≤ times e.ups r) × (given ds n r ≤ times e.downs r)

-- more detours stand in front of the others, and the ways of those stay what they are
abbrev pub Grows : List Detour → List Detour → Type 0
Grows old new =
    (length old ≤ length new) × ((n r : ℕ) → n ≤ length old → (taken new n r ≡ taken old n r) × (given new n r ≡ given old n r)) × (AreLinked old → AreLinked new)

-- the way that begins so many in front of the block counts this and what another one counts, and no other detour is new
abbrev pub IsPlaced : List Detour → List Detour → EdgeCounts → ℕ → ℕ → Type 0
IsPlaced old new e next n =
    Grows old new × (n ≤ length new) × ((r : ℕ) → (taken new n r ≡ times e.ups r + taken old next r) × (given new n r ≡ times e.downs r + given old next r)) × ((m : ℕ) → length old < m → m ≤ length new → m ≡ n)

-- where the ways of the first of some counts begin. Each new detour counts some of what is counted by one of all
pub record AreWays (old new : List Detour) (all : List EdgeCounts) (entries : List ℕ) : Type 0 where
  pub grows : Grows old new
  pub ways : (i n : ℕ) → slice_get entries i ≡ Some n → (e : EdgeCounts) × (slice_get all i ≡ Some e) × (n ≤ length new) × IsWay new n e
  pub parts : (n : ℕ) → length old < n → n ≤ length new → (i : ℕ) × (e : EdgeCounts) × (slice_get all i ≡ Some e) × IsPart new n e

-- the detours to a block to which edges with these counts go, and where the way of each begins. No detour counts what is counted on no edge
pub record IsFrontOf (all : List EdgeCounts) (front : Front) : Type 0 where
  pub linked : AreLinked front.detours
  pub size : length front.entries ≡ length all
  pub ways : (i n : ℕ) → slice_get front.entries i ≡ Some n → (e : EdgeCounts) × (slice_get all i ≡ Some e) × (n ≤ length front.detours) × IsWay front.detours n e
  pub parts : (n : ℕ) → 1 ≤ n → n ≤ length front.detours → (i : ℕ) × (e : EdgeCounts) × (slice_get all i ≡ Some e) × IsPart front.detours n e

abbrev pub AreFronts : List (List EdgeCounts) → List Front → Type 0
AreFronts [] [] = Unit {0}
AreFronts (es ∷ all) (f ∷ fs) = IsFrontOf es f × AreFronts all fs
AreFronts _ _ = ⊥

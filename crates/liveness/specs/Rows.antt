-- Marks of blocks: at whose start a register is read again, to which ones paths come, and at whose start a register is owned.
use Rattle.std.specs.Prelude.{◌≡◌, ◌≤◌, ◌<◌, ℕ, Bool, true, false, not, ◌&&◌, ◌||◌, cond, List, [], ◌∷◌, length, Some, slice_get, get_or, ◌↔◌}
use Rattle.std.specs.List.{list_any}
use Rattle.ir_core.specs.declared.code.Last.{Last}
use Rattle.liveness.specs.declared.step.Step.{Step}
use Rattle.liveness.specs.declared.step.Steps.{Steps}
use Rattle.liveness.specs.declared.places.Touches.{Touches}
use Rattle.liveness.specs.Paths.{is_among, is_target, reads_of_last, targets}
use Rattle.liveness.specs.Rising.{has}
use Rattle.liveness.specs.Places.{lets, reads_first}

-- ---- what is read again

-- whether r is read again by what is left of a block, where marks say at the start of which blocks it is
abbrev pub live_given : List Step → Last → (ℕ → Bool) → ℕ → Bool
live_given [] last marked r = is_among (reads_of_last last) r || list_any marked (targets last)
live_given (s ∷ ss) last marked r = is_among s.reads r || (not (is_target s.write r) && live_given ss last marked r)

-- some path from what is left of a block reads r before it writes it
pub data Live (blocks : List Steps) (r : ℕ) : List Step → Last → Type 0 where
  reads_here : (s : Step) (ss : List Step) (l : Last) → is_among s.reads r ≡ true → Live blocks r (s ∷ ss) l
  reads_last : (l : Last) → is_among (reads_of_last l) r ≡ true → Live blocks r [] l
  goes_past : (s : Step) (ss : List Step) (l : Last) → is_target s.write r ≡ false → Live blocks r ss l → Live blocks r (s ∷ ss) l
  jumps_on : (i t : ℕ) (l : Last) (k : Steps) → slice_get (targets l) i ≡ Some t → slice_get blocks t ≡ Some k → Live blocks r k.steps k.last → Live blocks r [] l

-- marks that say it exactly
abbrev pub IsLiveRow : List Steps → ℕ → (ℕ → Bool) → Type 0
IsLiveRow blocks r marked =
    ((b : ℕ) → marked b ≡ true → b < length blocks) × ((b : ℕ) (k : Steps) → slice_get blocks b ≡ Some k → (marked b ≡ true) ↔ Live blocks r k.steps k.last)

-- a block reads r before it writes it; or it does not write it, and its end goes to such a block
pub data Found (touches : Touches) (readers : List ℕ) (from : List (List ℕ)) (r : ℕ) : ℕ → Type 0 where
  reads_it : (t : ℕ) → is_among readers t ≡ true → reads_first touches r t ≡ true → Found touches readers from r t
  leads_on : (b t : ℕ) → Found touches readers from r b → is_among (get_or from b []) t ≡ true → lets touches.spans (get_or touches.writes r []) t ≡ true → Found touches readers from r t

-- no row has a number from n on
abbrev pub AreBelow : ℕ → List (List ℕ) → Type 0
AreBelow n rows = (t i : ℕ) → i < length (get_or rows t []) → get_or (get_or rows t []) i 0 < n

-- the rows have exactly the registers below n for which their blocks are found
abbrev pub AreFound : Touches → List (List ℕ) → List (List ℕ) → ℕ → List (List ℕ) → Type 0
AreFound touches readers from n rows =
    AreBelow n rows × ((r t : ℕ) → r < n → t < length rows → (has rows r t ≡ true) ↔ Found touches (get_or readers r []) from r t)

-- ---- where paths come

-- some path from the entry comes to the start of a block
pub data Met (blocks : List Steps) : ℕ → Type 0 where
  first : Met blocks 0
  jumped : (b i t : ℕ) (k : Steps) → Met blocks b → slice_get blocks b ≡ Some k → slice_get (targets k.last) i ≡ Some t → Met blocks t

abbrev pub IsMetRow : List Steps → List Bool → Type 0
IsMetRow blocks met = (b : ℕ) → b < length blocks → (get_or met b false ≡ true) ↔ Met blocks b

-- ---- what is owned

-- whether one of some operations writes a register
abbrev pub is_written : List Step → ℕ → Bool
is_written ss r = list_any (λ s. is_target s.write r) ss

-- whether a register is owned behind some operations, where it is told whether it is so before them: the last write decides
abbrev pub owned_after : List Step → ℕ → Bool → Bool
owned_after [] r before = before
owned_after (s ∷ ss) r before = owned_after ss r (cond (is_target s.write r) (not s.lends) before)

-- some path from the entry comes to the start of a block on which the last write of a register is an operation that does not only lend,
-- or on which there is none and the register is none of so many parameters
pub data Owned (blocks : List Steps) (params r : ℕ) : ℕ → Type 0 where
  from_entry : params ≤ r → Owned blocks params r 0
  given : (b i t : ℕ) (k : Steps) → Met blocks b → slice_get blocks b ≡ Some k → owned_after k.steps r false ≡ true → slice_get (targets k.last) i ≡ Some t → Owned blocks params r t
  passes_on : (b i t : ℕ) (k : Steps) → Owned blocks params r b → slice_get blocks b ≡ Some k → is_written k.steps r ≡ false → slice_get (targets k.last) i ≡ Some t → Owned blocks params r t

-- marks that say it exactly
abbrev pub IsOwnedRow : List Steps → ℕ → ℕ → (ℕ → Bool) → Type 0
IsOwnedRow blocks params r marked = (t : ℕ) → t < length blocks → (marked t ≡ true) ↔ Owned blocks params r t

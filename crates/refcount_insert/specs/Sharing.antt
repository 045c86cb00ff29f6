-- The different counts of edges to each block, of which most that are equal are kept once.
use Rattle.std.specs.Prelude.{◌≡◌, ◌⊎◌, ◌<◌, ◌≤◌, ℕ, ◌+◌, Bool, true, false, List, [], ◌∷◌, length, get_or, slice_get, Option, Some, None}
use Rattle.c_core.specs.Cells.{times}
use Rattle.ir_core.specs.declared.code.Last.{Last}
use Rattle.ir_core.specs.declared.code.Last.TheVariants.{If, IfError}
use Rattle.ir_core.specs.Rows.{Declared}
use Rattle.refcount_insert_rule.specs.Rule.{given_up}
use Rattle.refcount_insert_rule.specs.Counted.{counts_register}
use Rattle.refcount_insert_counts.specs.declared.counts.Counts.{Counts}
use Rattle.refcount_insert_counts.specs.declared.known.KnownRegisters.{KnownRegisters}
use Rattle.refcount_insert_counts.specs.Known.{entered}
use Rattle.refcount_insert_counts.specs.Edges.{is_none as are_no_counts}
use Rattle.refcount_insert.specs.declared.sharing.EdgeCounts.{EdgeCounts}

abbrev pub are_none : List ℕ → List ℕ → Bool
are_none [] [] = true
are_none [] (d ∷ ds) = false
are_none (r ∷ rs) ds = false

abbrev pub is_none : EdgeCounts → Bool
is_none e = are_none e.ups e.downs

-- the same counts, without what is known of error values
abbrev pub IsPlain : Counts → EdgeCounts → Type 0
IsPlain c e = (e.ups ≡ c.ups) × (e.downs ≡ given_up c.downs)

-- the counts of edges to block t
abbrev pub kept_at : List (List EdgeCounts) → ℕ → List EdgeCounts
kept_at all t = get_or all t []

-- what stands at a place stays there
abbrev pub Keeps : List (List EdgeCounts) → List (List EdgeCounts) → Type 0
Keeps old new =
    (length new ≡ length old) × ((t i : ℕ) (e : EdgeCounts) → slice_get (kept_at old t) i ≡ Some e → slice_get (kept_at new t) i ≡ Some e)

-- what is new are counts of edges to one block
abbrev pub Adds : List (List EdgeCounts) → List (List EdgeCounts) → ℕ → Counts → Type 0
Adds old new t c =
    (u i : ℕ) (e : EdgeCounts) → slice_get (kept_at new u) i ≡ Some e → (slice_get (kept_at old u) i ≡ Some e) ⊎ ((u ≡ t) × IsPlain c e)

-- the counts of an edge to block t stand at a place, unless there are none
abbrev pub IsShared : List (List EdgeCounts) → ℕ → Counts → Option ℕ → Type 0
IsShared all t c None = are_no_counts c ≡ true
IsShared all t c (Some i) = (e : EdgeCounts) × (slice_get (kept_at all t) i ≡ Some e) × IsPlain c e

-- and so do those of both edges of a test
abbrev pub AreShared : List (List EdgeCounts) → Last → Counts × Counts → Option ℕ × Option ℕ → Type 0
AreShared all (If x t u) c o = IsShared all t c.0 o.0 × IsShared all u c.1 o.1
AreShared all (IfError x t u line) c o = IsShared all t c.0 o.0 × IsShared all u c.1 o.1
AreShared all last c o = Unit {0}

-- what is new are counts of the edges of a test
abbrev pub AddsBoth : List (List EdgeCounts) → List (List EdgeCounts) → Last → Counts × Counts → Type 0
AddsBoth old new (If x t u) c =
    (v i : ℕ) (e : EdgeCounts) → slice_get (kept_at new v) i ≡ Some e → (slice_get (kept_at old v) i ≡ Some e) ⊎ (((v ≡ t) × IsPlain c.0 e) ⊎ ((v ≡ u) × IsPlain c.1 e))
AddsBoth old new (IfError x t u line) c =
    (v i : ℕ) (e : EdgeCounts) → slice_get (kept_at new v) i ≡ Some e → (slice_get (kept_at old v) i ≡ Some e) ⊎ (((v ≡ t) × IsPlain c.0 e) ⊎ ((v ≡ u) × IsPlain c.1 e))
AddsBoth old new last c = new ≡ old

-- the targets of a test are among so many blocks
abbrev pub AreTargetsWithin : ℕ → Last → Type 0
AreTargetsWithin n (If x t u) = (t < n) × (u < n)
AreTargetsWithin n (IfError x t u line) = (t < n) × (u < n)
AreTargetsWithin n last = Unit {0}

-- ---- which counts an edge to a block can have
module _ (known : KnownRegisters) (regs : Declared) where
  -- a register has one count at most; one that gets a reference is to have it, and one that is given up is counted, and is to have none
  abbrev pub IsProper : ℕ → EdgeCounts → Type 0
  IsProper t e =
      (r : ℕ) → (times e.ups r + times e.downs r ≤ 1) × (times e.ups r ≤ entered known regs t r) × (1 ≤ times e.downs r → (entered known regs t r ≡ 0) × (counts_register regs r ≡ true))

  -- no edge goes to the first block
  abbrev pub AreProper : List (List EdgeCounts) → Type 0
  AreProper all =
      (t i : ℕ) (e : EdgeCounts) → slice_get (kept_at all t) i ≡ Some e → (0 < t) × IsProper t e

-- Which registers can have counts at an operation and on an edge, and what the pass counts there.
use Rattle.std.specs.Prelude.{◌≡◌, ℕ, zero, suc, ◌+◌, ◌-◌, Bool, false, ◌||◌, cond, List, Option, slice_get}
use Rattle.std.specs.Option.{option_map_or}
use Rattle.c_core.specs.Cells.{times}
use Rattle.c_core.specs.Primitives.{Parameter}
use Rattle.ir_core.specs.declared.code.Op.{Op}
use Rattle.c_core_ownership_laws.specs.Shares.{one_if}
use Rattle.liveness.specs.Paths.{is_among, is_target, reads_of, write_of}
use Rattle.refcount_insert_rule.specs.Rule.{is_stolen, given_up, counts_before, counts_after, AreSure, AreUnsure}
use Rattle.refcount_insert_counts.specs.declared.counts.Counts.{Counts}

-- so many times a number
abbrev pub many : ℕ → ℕ → ℕ
many zero n = 0
many (suc k) n = n + many k n

-- each register of which something holds stands there once
abbrev pub AreOnce : (ℕ → Bool) → List ℕ → Type 0
AreOnce is rs = (r : ℕ) → times rs r ≡ one_if (is r)

-- each of some registers stands there as often as a function says
abbrev pub AreEach : (ℕ → ℕ) → List ℕ → List ℕ → Type 0
AreEach k all rs = (r : ℕ) → times rs r ≡ many (times all r) (k r)

-- each register of which something holds stands there as often as a function says
abbrev pub AreOf : (ℕ → Bool) → (ℕ → ℕ) → List ℕ → Type 0
AreOf is k rs = (r : ℕ) → times rs r ≡ cond (is r) (k r) 0

-- ---- operations

abbrev pub is_either : Option ℕ → List ℕ → ℕ → Bool
is_either target rs r = is_target target r || is_among rs r

abbrev pub is_touched : Op → ℕ → Bool
is_touched o = is_either (write_of o) (reads_of o)

-- whether the argument at a place is stolen
abbrev pub steals_at : List Parameter → ℕ → Bool
steals_at ps i = option_map_or is_stolen (slice_get ps i) false

-- the counts of an operation, of the registers that it touches
pub record AreGroupCounts (counted : ℕ → Bool) (o : Op) (have want : ℕ → ℕ) (c : Counts) : Type 0 where
  pub before : AreOf (is_touched o) (counts_before counted o have want) c.ups
  pub after : AreOf (is_touched o) (counts_after counted o have want) (given_up c.downs)
  pub sure : AreSure (write_of o) c.downs

-- ---- edges

-- what is short and what is over, but for one register
abbrev pub short_on : Option ℕ → (ℕ → ℕ) → (ℕ → ℕ) → ℕ → ℕ
short_on skip have want r = cond (is_target skip r) 0 (want r - have r)

abbrev pub over_on : Option ℕ → (ℕ → ℕ) → (ℕ → ℕ) → ℕ → ℕ
over_on skip have want r = cond (is_target skip r) 0 (have r - want r)

-- the counts of an edge, of some registers
pub record AreEdgeCounts (all : List ℕ) (skip : Option ℕ) (have want : ℕ → ℕ) (c : Counts) : Type 0 where
  pub short : AreEach (short_on skip have want) all c.ups
  pub over : AreEach (over_on skip have want) all (given_up c.downs)
  pub unsure : AreUnsure c.downs

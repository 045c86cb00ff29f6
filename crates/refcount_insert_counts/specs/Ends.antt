-- The counts of the end of a block: of a jump and a return, and of both edges of a test.
use Rattle.std.specs.Prelude.{◌≡◌, ℕ, ◌-◌, Bool, ◌||◌, cond, nat_eq, List, [], None, Some}
use Rattle.c_core.specs.Cells.{same, times}
use Rattle.ir_core.specs.declared.code.Reg.{Reg}
use Rattle.ir_core.specs.declared.code.Last.{Last}
use Rattle.ir_core.specs.declared.code.Last.TheVariants.{Goto, If, IfError, Return}
use Rattle.ir_core.specs.Rows.{Declared}
use Rattle.liveness.specs.declared.live_table.LiveTable.{LiveTable}
use Rattle.liveness.specs.Paths.{is_among}
use Rattle.liveness.specs.Liveness.{starts_of}
use Rattle.refcount_insert_rule.specs.Counted.{counts_register}
use Rattle.refcount_insert_counts.specs.declared.counts.Counts.{Counts}
use Rattle.refcount_insert_counts.specs.declared.known.KnownRegisters.{KnownRegisters}
use Rattle.refcount_insert_counts.specs.Known.{owned_at, held_at, entered}
use Rattle.refcount_insert_counts.specs.Counts.{AreOnce, AreEdgeCounts}

-- what is read again at the end of a block that tests a register and goes to two blocks
abbrev pub is_read_again : LiveTable → Reg → ℕ → ℕ → ℕ → Bool
is_read_again live x a b r = is_among (starts_of live a) r || (is_among (starts_of live b) r || nat_eq x.0 r)

module _ (known : KnownRegisters) (regs : Declared) where
  -- the counts of an end that stand in its block, from place p of block b
  abbrev pub AreEndCounts : ℕ → ℕ → Last → Counts → Type 0
  AreEndCounts b p (Goto t) c =
      (all : List ℕ) × AreOnce (is_among (starts_of known.live t)) all × AreEdgeCounts all None (held_at known regs b p) (entered known regs t) c
  AreEndCounts b p (Return x) c =
      ((r : ℕ) → times c.ups r ≡ cond (counts_register regs r) (same x.0 r - owned_at known regs b p r) 0) × (c.downs ≡ [])
  AreEndCounts b p _ c = (c.ups ≡ []) × (c.downs ≡ [])

  -- the counts of both edges of a test
  abbrev pub AreTestCounts : ℕ → ℕ → Last → Counts × Counts → Type 0
  AreTestCounts b p (If x t u) c =
      (all : List ℕ) × AreOnce (is_read_again known.live x t u) all × AreEdgeCounts all None (held_at known regs b p) (entered known regs t) c.0 × AreEdgeCounts all None (held_at known regs b p) (entered known regs u) c.1
  AreTestCounts b p (IfError x t u line) c =
      (all : List ℕ) × AreOnce (is_read_again known.live x t u) all × AreEdgeCounts all (Some x.0) (held_at known regs b p) (entered known regs t) c.0 × AreEdgeCounts all None (held_at known regs b p) (entered known regs u) c.1
  AreTestCounts b p _ c = (c.0.ups ≡ []) × (c.0.downs ≡ []) × (c.1.ups ≡ []) × (c.1.downs ≡ [])

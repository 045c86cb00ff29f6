-- How what a builder holds stands in the code of the whole function. An end that is still to be written is `Unreachable`, and the
-- code may have another one there.
use Rattle.std.specs.Prelude.{◌≡◌, ◌≢◌, ℕ, ◌+◌, ◌≤◌, false, List, length, Option, Some, None, slice_get}
use Rattle.ir_core.specs.declared.code.Op.{Op}
use Rattle.ir_core.specs.declared.code.Op.TheVariants.{Prim, Call, Virtual, TraitCall}
use Rattle.ir_core.specs.declared.code.Last.TheVariants.{Unreachable}
use Rattle.ir_core.specs.declared.code.Program.{Program}
use Rattle.ir_core.specs.declared.code.RType.{RType}
use Rattle.ir_core.specs.Items.{Item, Do, End}
use Rattle.ir_core.specs.Rows.{Failing, NeverFails, MayFail, AlwaysFails, failing, type_of_reg}
use Rattle.ir_core.specs.Meaning.{item_at, handler_at, registers_of, is_tested}
use Rattle.ir_builder_frames.specs.Building.{Building, held, handled}

-- a register of this number and type is there
abbrev pub HasType : Building → ℕ → RType → Type 0
HasType b r t = type_of_reg b.regs (record { 0 = r }) ≡ Some t

-- where an operation that may fail tells it by its result, that result's register
abbrev pub where_it_may : Failing → ℕ → Option ℕ
where_it_may NeverFails r = None
where_it_may MayFail r = Some r
where_it_may AlwaysFails r = None

abbrev pub into : Op → Option ℕ
into (Prim (Some r) q args) = where_it_may (failing q) r.0
into (Call r g args) = Some r.0
into (Virtual r o n args) = Some r.0
into (TraitCall r o t n args) = Some r.0
into _ = None

abbrev pub or_other : {A : Type 0} → Option A → Option A → Option A
or_other None a = a
or_other (Some b) a = Some b

module _ (p : Program) (fn : ℕ) where
  -- behind no operation that may fail stands a test of its result
  pub record NoEdges : Type 0 where
    pub each : (k i r : ℕ) (o : Op) (line : ℕ) → item_at p fn k i ≡ Some (Do o line) → into o ≡ Some r → is_tested (record { 0 = r }) (item_at p fn k (i + 1)) ≡ false

  -- the function has what the builder holds, but for the ends that are still to be written, and behind no operation that may fail a
  -- test of its result
  pub record Has (b : Building) : Type 0 where
    pub items : (k i : ℕ) (x : Item) → x ≢ End Unreachable → held b k i ≡ Some x → item_at p fn k i ≡ Some x
    pub regs : (r : ℕ) (d : List ℕ × RType) → slice_get b.regs r ≡ Some d → slice_get (registers_of p fn) r ≡ Some d
    pub edges : NoEdges

  -- the same, and the blocks between two numbers have their handler, or else this one
  pub record Within (b : Building) (from to : ℕ) (h : Option ℕ) : Type 0 where
    pub has : Has b
    pub guards : (k : ℕ) → from ≤ k → k ≤ to → handler_at p fn k ≡ or_other (handled b k) h

  -- the function has what the second builder holds, and the blocks since the first builder's place have their handler, or else
  -- this one
  abbrev pub Placed : Building → Building → Option ℕ → Type 0
  Placed old new h = Within new (length old.blocks) (length new.blocks) h

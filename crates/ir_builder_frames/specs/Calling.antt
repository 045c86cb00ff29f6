-- What a single call of a builder adds.
use Rattle.std.specs.Prelude.{◌≡◌, ◌≢◌, ℕ, ◌+◌, ◌≤◌, length, Some}
use Rattle.ir_core.specs.declared.code.Op.{Op}
use Rattle.ir_core.specs.declared.code.Last.{Last}
use Rattle.ir_core.specs.declared.code.Last.TheVariants.{Unreachable}
use Rattle.ir_core.specs.declared.code.Program.{Program}
use Rattle.ir_core.specs.declared.code.RType.{RType}
use Rattle.ir_core.specs.Items.{Item, Do, End}
use Rattle.ir_core.specs.Meaning.{item_at}
use Rattle.ir_builder_frames.specs.Building.{Building, held, handled, Extends}
use Rattle.ir_builder_frames.specs.Placing.{HasType, Has}

-- a register
pub record Declares (old new : Building) (r : ℕ) (t : RType) : Type 0 where
  pub extends : Extends old new
  pub made : r ≡ length old.regs
  pub type : HasType new r t
  pub regs : length new.regs ≡ length old.regs + 1
  pub blocks : length new.blocks ≡ length old.blocks
  pub ops : length new.ops ≡ length old.ops

-- an operation of a source line, with a register for its result
pub record Adds (old new : Building) (r : ℕ) (t : RType) (o : Op) (line : ℕ) : Type 0 where
  pub extends : Extends old new
  pub made : r ≡ length old.regs
  pub type : HasType new r t
  pub regs : length new.regs ≡ length old.regs + 1
  pub blocks : length new.blocks ≡ length old.blocks
  pub ops : length new.ops ≡ length old.ops + 1
  pub at : held new (length old.blocks) (length old.ops) ≡ Some (Do o line)

-- an operation of a source line
pub record Pushes (old new : Building) (o : Op) (line : ℕ) : Type 0 where
  pub extends : Extends old new
  pub regs : length new.regs ≡ length old.regs
  pub blocks : length new.blocks ≡ length old.blocks
  pub ops : length new.ops ≡ length old.ops + 1
  pub at : held new (length old.blocks) (length old.ops) ≡ Some (Do o line)

-- the end of the block
pub record Closes (old new : Building) (l : Last) : Type 0 where
  pub extends : Extends old new
  pub regs : length new.regs ≡ length old.regs
  pub blocks : length new.blocks ≡ length old.blocks + 1
  pub ops : length new.ops ≡ 0
  pub at : held new (length old.blocks) (length old.ops) ≡ Some (End l)

-- the block was ended, with an end that is still to be written
pub record Open (b : Building) (k : ℕ) : Type 0 where
  pub place : ℕ
  pub is : held b k place ≡ Some (End Unreachable)

-- the end of such a block was written
pub record Patches (b c : Building) (k : ℕ) (l : Last) : Type 0 where
  pub has : (p : Program) (fn : ℕ) → Has p fn c → Has p fn b
  pub code : (p : Program) (fn i : ℕ) → Has p fn c → held b k i ≡ Some (End Unreachable) → item_at p fn k i ≡ Some (End l)
  pub extends : (a : Building) → Extends a b → length a.blocks ≤ k → Extends a c
  pub others : (j i : ℕ) (x : Item) → j ≢ k → held b j i ≡ Some x → held c j i ≡ Some x
  pub handlers : (j : ℕ) → handled c j ≡ handled b j
  pub same_regs : c.regs ≡ b.regs
  pub blocks : length c.blocks ≡ length b.blocks
  pub ops : length c.ops ≡ length b.ops

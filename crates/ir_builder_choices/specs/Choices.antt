-- A choice between two values by a condition: two arms bring their values into one register and then meet.
use Rattle.std.specs.Prelude.{◌≡◌, ℕ, ◌+◌, ◌≤◌, length, Some}
use Rattle.ir_core.specs.declared.code.RType.{RType}
use Rattle.ir_core.specs.declared.code.Op.TheVariants.{Move}
use Rattle.ir_core.specs.declared.code.Last.TheVariants.{Goto, If, Unreachable}
use Rattle.ir_core.specs.declared.code.Program.{Program}
use Rattle.ir_core.specs.Items.{Do, End}
use Rattle.ir_builder_frames.specs.Building.{Building, held, handled, Extends}
use Rattle.ir_core.specs.Meaning.{item_at}
use Rattle.ir_builder_frames.specs.Placing.{HasType, Has}

-- a register for the value was added, and the block was ended, where the test will stand
pub record Opens (old new : Building) (target test first : ℕ) (t : RType) : Type 0 where
  pub extends : Extends old new
  pub made : target ≡ length old.regs
  pub type : HasType new target t
  pub test_is : test ≡ length old.blocks
  pub first_is : first ≡ length new.blocks
  pub blocks : length new.blocks ≡ length old.blocks + 1
  pub ops : length new.ops ≡ 0
  pub hole : held new (length old.blocks) (length old.ops) ≡ Some (End Unreachable)

-- a value was brought into the register, and the block was ended, where the jump will stand
pub record Brings (old new : Building) (target r end : ℕ) : Type 0 where
  pub extends : Extends old new
  pub end_is : end ≡ length old.blocks
  pub blocks : length new.blocks ≡ length old.blocks + 1
  pub ops : length new.ops ≡ 0
  pub line : ℕ
  pub move : held new (length old.blocks) (length old.ops) ≡ Some (Do (Move record { 0 = target } record { 0 = r }) line)
  pub hole : held new (length old.blocks) (length old.ops + 1) ≡ Some (End Unreachable)

-- the other value was brought there, and the test and both jumps stand
pub record Meets (old new : Building) (target r condition test first end second : ℕ) : Type 0 where
  pub has : (p : Program) (fn : ℕ) → Has p fn new → Has p fn old
  pub extends : (a : Building) → Extends a old → length a.blocks ≤ test → length a.blocks ≤ end → Extends a new
  pub types : (q : ℕ) (t : RType) → HasType old q t → HasType new q t
  pub handlers : (k : ℕ) → k ≤ length old.blocks → handled new k ≡ handled old k
  pub blocks : length new.blocks ≡ length old.blocks + 1
  pub ops : length new.ops ≡ 0
  pub line : ℕ
  pub move : (p : Program) (fn : ℕ) → Has p fn new → item_at p fn (length old.blocks) (length old.ops) ≡ Some (Do (Move record { 0 = target } record { 0 = r }) line)
  pub jump : (p : Program) (fn : ℕ) → Has p fn new → item_at p fn (length old.blocks) (length old.ops + 1) ≡ Some (End (Goto (length new.blocks)))
  pub tests : (p : Program) (fn i : ℕ) → Has p fn new → held old test i ≡ Some (End Unreachable) → item_at p fn test i ≡ Some (End (If record { 0 = condition } first second))
  pub ends : (p : Program) (fn i : ℕ) → Has p fn new → held old end i ≡ Some (End Unreachable) → item_at p fn end i ≡ Some (End (Goto (length new.blocks)))

-- A function under construction, among others: what ir_core's builder of it holds, but for the name, and what it is built among.
use Rattle.std.specs.Prelude.{◌≡◌, ◌≤◌, ℕ, List, [], ◌∷◌, ◌++◌, length, Option, Some, slice_get}
use Rattle.ir_core.specs.declared.code.Block.{Block}
use Rattle.ir_core.specs.declared.code.Last.{Last}
use Rattle.ir_core.specs.declared.code.Op.{Op}
use Rattle.ir_core.specs.declared.code.RType.{RType}
use Rattle.ir_core.specs.Items.{Item, handler_in}
use Rattle.ir_core.specs.Building as core
use Rattle.ir_core.specs.Building.{ended_block, held_in}
use Rattle.ir_builder_frames.specs.Among.{Surrounding}

-- what it is built among, its registers, the blocks that were ended, and the operations of the block that is being filled
pub record Building : Type 0 where
  pub among : Surrounding
  pub regs : List (List ℕ × RType)
  pub blocks : List Block
  pub ops : List (Op × ℕ)

abbrev pub building : Surrounding → core.Building → Building
building g b = record { among = g; regs = b.regs; blocks = b.blocks; ops = b.ops }

-- the item at a block and place, as far as it stands, and the handler of a block
abbrev pub held : Building → ℕ → ℕ → Option Item
held b = held_in b.blocks b.ops

abbrev pub handled : Building → ℕ → Option ℕ
handled b = handler_in b.blocks

-- one more register, one more operation, and the end of the block
abbrev pub added : Building → List ℕ → RType → Building
added b name t = record b { regs = b.regs ++ (name, t) ∷ [] }

abbrev pub pushed : Building → Op × ℕ → Building
pushed b o = record b { ops = b.ops ++ o ∷ [] }

abbrev pub closed : Building → Last → Building
closed b last = record b { blocks = b.blocks ++ ended_block b.ops last ∷ []; ops = [] }

-- what stands in the first stands in the second: no item, no register and no handler has changed. The block that was being filled
-- has no handler yet
pub record Extends (old new : Building) : Type 0 where
  pub among : new.among ≡ old.among
  pub items : (k i : ℕ) (x : Item) → held old k i ≡ Some x → held new k i ≡ Some x
  pub regs : (r : ℕ) (d : List ℕ × RType) → slice_get old.regs r ≡ Some d → slice_get new.regs r ≡ Some d
  pub handlers : (k : ℕ) → k ≤ length old.blocks → handled new k ≡ handled old k
  pub regs_grow : length old.regs ≤ length new.regs
  pub blocks_grow : length old.blocks ≤ length new.blocks

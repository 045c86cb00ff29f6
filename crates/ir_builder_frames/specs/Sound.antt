-- What holds of the code of a function at every moment: its operations and ends suit the registers, and what the function is built
-- among; its ends go where they may; and the names of its registers differ.
use Rattle.std.specs.Prelude.{ℕ, ◌+◌, length, IsTrue}
use Rattle.ir_core.specs.declared.code.Op.{Op}
use Rattle.ir_core.specs.declared.code.Last.{Last}
use Rattle.ir_core.specs.Shape.{op_fits, OpsFit}
use Rattle.ir_builder_frames.specs.Building.{Building, held}
use Rattle.ir_builder_frames.specs.Kinds.{OpKinds, OpsKinds, LastKinds, BlocksKinds}
use Rattle.ir_builder_frames.specs.Naming.{AreNamed}
use Rattle.ir_builder_frames.specs.Shaped.{EndFits, PatchFits, AllFit}

-- an operation that may come next
abbrev pub MayCome : Building → Op → Type 0
MayCome b o = IsTrue (op_fits o) × OpKinds b.among b.regs o

-- an end that the block that is being filled may have. It may name the block that comes next
abbrev pub MayEnd : Building → Last → Type 0
MayEnd b l = EndFits (length b.blocks + 1) (length b.blocks) b.ops l × LastKinds b.among b.regs l

-- an end that may be written into a block that was ended
abbrev pub MayPatch : Building → ℕ → Last → Type 0
MayPatch b k l = PatchFits (length b.blocks) k (held b k 0) l × LastKinds b.among b.regs l

-- temporary names from a number on are free
pub record IsSound (next : ℕ) (b : Building) : Type 0 where
  pub named : AreNamed b.among.variables next b.regs
  pub ends : AllFit (length b.blocks) 0 b.blocks
  pub ops : OpsFit b.ops
  pub blocks_kinds : BlocksKinds b.among b.regs b.blocks
  pub ops_kinds : OpsKinds b.among b.regs b.ops

-- A function under construction.
use Rattle.std.specs.Prelude.{◌≡◌, ◌≤◌, ℕ, zero, suc, Bool, true, false, List, [], ◌∷◌, length, Option, Some, None, slice_get}
use Rattle.std.specs.Option.{option_map_or}
use Rattle.ir_core.specs.declared.code.Block.{Block}
use Rattle.ir_core.specs.declared.code.Last.{Last}
use Rattle.ir_core.specs.declared.code.Last.TheVariants.{Unreachable}
use Rattle.ir_core.specs.declared.code.Op.{Op}
use Rattle.ir_core.specs.declared.code.RType.{RType}
use Rattle.ir_core.specs.Items.{Item, Do, in_block, handler_in}

-- its name, its registers, the blocks that were ended, and the operations of the block that is being filled
pub record Building : Type 0 where
  pub name : List ℕ
  pub regs : List (List ℕ × RType)
  pub blocks : List Block
  pub ops : List (Op × ℕ)

-- the blocks, with a change of the one of this number
abbrev pub changed_at : (Block → Block) → List Block → ℕ → List Block
changed_at change [] n = []
changed_at change (b ∷ bs) zero = change b ∷ bs
changed_at change (b ∷ bs) (suc n) = b ∷ changed_at change bs n

-- with another end, or another handler
abbrev pub with_last : List Block → ℕ → Last → List Block
with_last bs n last = changed_at (λ b. record b { last = last }) bs n

abbrev pub with_handler : List Block → ℕ → Option ℕ → List Block
with_handler bs n h = changed_at (λ b. record b { handler = h }) bs n

-- a block that is ended has no handler yet
abbrev pub ended_block : List (Op × ℕ) → Last → Block
ended_block ops last = record { ops = ops; last = last; handler = None }

-- an end that says nothing yet
abbrev pub is_unwritten : Last → Bool
is_unwritten Unreachable = true
is_unwritten _ = false

-- whether the block of this number is there and its end says nothing yet
abbrev pub is_open_at : List Block → ℕ → Bool
is_open_at blocks n = option_map_or (λ (b : Block). is_unwritten b.last) (slice_get blocks n) false

-- the item at a place of the block that is being filled
abbrev pub in_open : List (Op × ℕ) → ℕ → Option Item
in_open [] i = None
in_open (o ∷ os) zero = Some (Do o.0 o.1)
in_open (o ∷ os) (suc i) = in_open os i

-- the item at a block and place, as far as it stands
abbrev pub held_in : List Block → List (Op × ℕ) → ℕ → ℕ → Option Item
held_in [] ops zero i = in_open ops i
held_in [] ops (suc k) i = None
held_in (b ∷ bs) ops zero i = in_block b.ops b.last i
held_in (b ∷ bs) ops (suc k) i = held_in bs ops k i

abbrev pub held : Building → ℕ → ℕ → Option Item
held b = held_in b.blocks b.ops

abbrev pub handled : Building → ℕ → Option ℕ
handled b = handler_in b.blocks

-- what stands in the first stands in the second: no item, no register and no handler has changed. The block that was being filled
-- has no handler yet
pub record Extends (old new : Building) : Type 0 where
  pub items : (k i : ℕ) (x : Item) → held old k i ≡ Some x → held new k i ≡ Some x
  pub regs : (r : ℕ) (d : List ℕ × RType) → slice_get old.regs r ≡ Some d → slice_get new.regs r ≡ Some d
  pub handlers : (k : ℕ) → k ≤ length old.blocks → handled new k ≡ handled old k
  pub regs_grow : length old.regs ≤ length new.regs
  pub blocks_grow : length old.blocks ≤ length new.blocks

-- What stands at each place of a program: place i of a block is its operation of that number, with its source line, and the place
-- behind the last operation is the block's end.
use Rattle.std.specs.Prelude.{ℕ, zero, suc, List, [], ◌∷◌, Option, Some, None, slice_get}
use Rattle.std.specs.Option.{option_and_then}
use Rattle.ir_core.specs.declared.code.Op.{Op}
use Rattle.ir_core.specs.declared.code.Last.{Last}
use Rattle.ir_core.specs.declared.code.Block.{Block}
use Rattle.ir_core.specs.declared.code.Func.{Func}

pub data Item : Type 0 where
  Do : (o : Op) (line : ℕ) → Item
  End : (l : Last) → Item

-- the item at a place of operations, with their lines, and an end
abbrev pub in_block : List (Op × ℕ) → Last → ℕ → Option Item
in_block [] last zero = Some (End last)
in_block [] last (suc i) = None
in_block (o ∷ os) last zero = Some (Do o.0 o.1)
in_block (o ∷ os) last (suc i) = in_block os last i

abbrev pub item_of : Option Block → ℕ → Option Item
item_of None i = None
item_of (Some b) i = in_block b.ops b.last i

abbrev pub item_in : List Block → ℕ → ℕ → Option Item
item_in blocks k i = item_of (slice_get blocks k) i

-- where an exception in a block goes, if not out of the function
abbrev pub handler_of : Block → Option ℕ
handler_of b = b.handler

abbrev pub handler_in : List Block → ℕ → Option ℕ
handler_in blocks k = option_and_then handler_of (slice_get blocks k)

-- the blocks of a function of a program, and its registers with their names
abbrev pub blocks_of : Option Func → List Block
blocks_of None = []
blocks_of (Some g) = g.blocks

-- what is left of a block from a place on: the operations, with their lines, and the end
pub record Left : Type 0 where
  pub ops : List (Op × ℕ)
  pub last : Last

abbrev pub left_from : List (Op × ℕ) → Last → ℕ → Option Left
left_from ops last zero = Some (record { ops = ops; last = last })
left_from [] last (suc i) = None
left_from (o ∷ os) last (suc i) = left_from os last i

abbrev pub left_of : Option Block → ℕ → Option Left
left_of None i = None
left_of (Some b) i = left_from b.ops b.last i

abbrev pub left_in : List Block → ℕ → ℕ → Option Left
left_in blocks k i = left_of (slice_get blocks k) i

-- The blocks of a function with error edges. A block ends behind each operation that can fail: with a test of the result, of a
-- native integer also of the pending exception, or with a jump (mypyc's developer guide, "Error handling"). So a block becomes a
-- chain of blocks. The chains stand in the order of their blocks, and behind the last one stands the exit, where it is needed: it
-- gives the function's error value.
use Rattle.std.specs.Prelude.{ℕ, ◌+◌, Bool, true, false, cond, List, [], ◌∷◌, ◌++◌, length, take, Option, Some, None, pos, negsuc, slice_get}
use Rattle.std.specs.List.{list_any, sum_by}
use Rattle.std.specs.Option.{option_map_or}
use Rattle.c_core.specs.declared.primitive.Primitive.TheVariants as prim
use Rattle.c_core.specs.declared.primitive.ErrPrim.TheVariants as err
use Rattle.ir_core.specs.declared.code.RType.{RType}
use Rattle.ir_core.specs.declared.code.RType.TheVariants.{Int, I64, Bool as BoolType, Ref}
use Rattle.ir_core.specs.declared.code.Reg.{Reg}
use Rattle.ir_core.specs.declared.code.Lit.{Lit as Literal}
use Rattle.ir_core.specs.declared.code.Lit.TheVariants.{Number, Null}
use Rattle.ir_core.specs.declared.code.Op.{Op}
use Rattle.ir_core.specs.declared.code.Op.TheVariants.{Lit, Prim}
use Rattle.ir_core.specs.declared.code.Last.{Last}
use Rattle.ir_core.specs.declared.code.Last.TheVariants.{Goto, If, IfError, Return, Unreachable}
use Rattle.ir_core.specs.declared.code.Block.{Block}
use Rattle.ir_core.specs.declared.kind.Edge.{Edge}
use Rattle.ir_core.specs.declared.kind.Edge.TheVariants.{NoEdge, Tests, TestsTwice, Jumps}
use Rattle.ir_core.specs.Items.{handler_of}
use Rattle.ir_core.specs.Rows.{Declared}
use Rattle.ir_core.specs.Missing.{edges_of, is_some_edge}

-- ---- what is needed

abbrev pub is_second_test : Edge → Bool
is_second_test (TestsTwice r) = true
is_second_test _ = false

-- a test of the pending exception writes its answer to a register, which is needed where there is one
abbrev pub asks : Declared → List Block → Block → Bool
asks regs all b = list_any is_second_test (edges_of regs all b)

abbrev pub needs_flag : Declared → List Block → Bool
needs_flag regs blocks = list_any (asks regs blocks) blocks

-- an error leaves the function out of a block without a handler
abbrev pub out_of : Option ℕ → Bool → Bool
out_of None fails = fails
out_of (Some h) fails = false

abbrev pub leaves : Declared → List Block → Block → Bool
leaves regs all b = out_of (handler_of b) (list_any is_some_edge (edges_of regs all b))

abbrev pub needs_exit : Declared → List Block → Bool
needs_exit regs blocks = list_any (leaves regs blocks) blocks

-- ---- the new numbers of blocks

-- how many blocks an edge adds
abbrev pub extra : Edge → ℕ
extra NoEdge = 0
extra (Tests r) = 1
extra (TestsTwice r) = 2
extra Jumps = 1

-- how many blocks a block with these missing edges becomes
abbrev pub room : List Edge → ℕ
room [] = 1
room (e ∷ es) = extra e + room es

abbrev pub size_of : Declared → List Block → Block → ℕ
size_of regs all b = room (edges_of regs all b)

-- in front of the chain of a block stand the chains of those before it, and in front of the exit all
abbrev pub start_of : Declared → List Block → ℕ → ℕ
start_of regs blocks k = sum_by (size_of regs blocks) (take k blocks)

abbrev pub exit_of : Declared → List Block → ℕ
exit_of regs blocks = sum_by (size_of regs blocks) blocks

-- the number at a place of a list, or what is behind it
abbrev pub number_at : List ℕ → ℕ → ℕ → ℕ
number_at numbers behind k = option_map_or (λ n. n) (slice_get numbers k) behind

abbrev pub moved : (ℕ → ℕ) → Last → Last
moved start (Goto t) = Goto (start t)
moved start (If r a b) = If r (start a) (start b)
moved start (IfError r e n line) = IfError r (start e) (start n) line
moved start (Return r) = Return r
moved start Unreachable = Unreachable

-- where an error goes: to the handler's chain, or to the exit
abbrev pub target_of : (ℕ → ℕ) → ℕ → Option ℕ → ℕ
target_of start exit None = exit
target_of start exit (Some h) = start h

-- ---- the blocks

-- none has a handler: each operation that can fail has its edge
abbrev pub block_of : List (Op × ℕ) → Last → Block
block_of ops last = record { ops = ops; last = last; handler = None }

-- whether an exception is pending
abbrev pub asking : Reg → Op
asking flag = Prim (Some flag) (prim.Err err.Occurred) []

-- block n has these operations, of which the last one lacks this edge; what is left goes on behind
module _ (target : ℕ) (flag : Reg) where
  -- the test of the pending exception goes on at block n where there is none
  abbrev pub second_test : ℕ → ℕ → Block
  second_test line n = block_of ((asking flag, line) ∷ []) (If flag target n)

  abbrev pub cut_at : Edge → ℕ → List (Op × ℕ) → ℕ → (ℕ → List (Op × ℕ) → List Block) → List Block
  cut_at NoEdge n ops line more = more n ops
  cut_at (Tests r) n ops line more = block_of ops (IfError r target (n + 1) line) ∷ more (n + 1) []
  cut_at (TestsTwice r) n ops line more =
      block_of ops (IfError r (n + 1) (n + 2) line) ∷ second_test line (n + 2) ∷ more (n + 2) []
  cut_at Jumps n ops line more = block_of ops (Goto target) ∷ more (n + 1) []

  -- what is left of a block, with its missing edges, where these operations stand in block n already
  abbrev pub cut : List (Op × ℕ) → List Edge → Last → ℕ → List (Op × ℕ) → List Block
  cut [] es last n done = block_of done last ∷ []
  cut (o ∷ os) [] last n done = []
  cut (o ∷ os) (e ∷ es) last n done = cut_at e n (done ++ o ∷ []) o.1 (cut os es last)

-- the registers that are added have the numbers behind the others: first the answer whether an exception is pending
abbrev pub flag_register : Declared → Reg
flag_register regs = record { 0 = length regs }

abbrev pub error_register : Declared → List Block → Reg
error_register regs blocks = record { 0 = length regs + cond (needs_flag regs blocks) 1 0 }

module _ (regs : Declared) (all : List Block) where
  -- a block as a chain of blocks, of which the first has number n
  abbrev pub chain : (ℕ → ℕ) → ℕ → Block → ℕ → List Block
  chain start exit b n =
      cut (target_of start exit (handler_of b)) (flag_register regs) b.ops (edges_of regs all b) (moved start b.last) n []

  abbrev pub chains : (ℕ → ℕ) → ℕ → List Block → ℕ → List Block
  chains start exit [] n = []
  chains start exit (b ∷ bs) n = chain start exit b n ++ chains start exit bs (n + size_of regs all b)

-- the literal that writes the error value of a type
abbrev pub error_literal : RType → Literal
error_literal Int = Number (pos 1)
error_literal I64 = Number (negsuc 112)
error_literal BoolType = Number (pos 2)
error_literal Ref = Null

-- the exit stands for no source line
abbrev pub exit_block : Reg → RType → Block
exit_block error ret = block_of ((Lit error (error_literal ret), 0) ∷ []) (Return error)

abbrev pub exit_blocks : Declared → RType → List Block → List Block
exit_blocks regs ret blocks = cond (needs_exit regs blocks) (exit_block (error_register regs blocks) ret ∷ []) []

abbrev pub edged_blocks : Declared → RType → List Block → List Block
edged_blocks regs ret blocks = chains regs blocks (start_of regs blocks) (exit_of regs blocks) blocks 0 ++ exit_blocks regs ret blocks

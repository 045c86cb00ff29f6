-- Worked rows: a variable that one arm of an `if` sets is still tested behind both, and one that both arms set is not; then no path comes
-- to the block that would raise.
--
--     def f(b: bool) -> bool:
--         if b:
--             x = True
--         return x
use Rattle.std.proofs.Common.{◌≡◌, refl, ℕ, true, false, pos, List, [], ◌∷◌, map, Some, None}
use Rattle.std.specs.Prelude.{codes}
use Rattle.c_core.specs.declared.primitive.Primitive.TheVariants as prim
use Rattle.c_core.specs.declared.primitive.ErrPrim.TheVariants as err
use Rattle.ir_core.specs.declared.code.RType.TheVariants.{Bool as BoolType}
use Rattle.ir_core.specs.declared.code.Reg.{Reg}
use Rattle.ir_core.specs.declared.code.PArg.TheVariants as arg
use Rattle.ir_core.specs.declared.code.Lit.TheVariants.{Number}
use Rattle.ir_core.specs.declared.code.Op.{Op}
use Rattle.ir_core.specs.declared.code.Op.TheVariants.{Lit, Prim, Turn}
use Rattle.ir_core.specs.declared.code.Last.{Last}
use Rattle.ir_core.specs.declared.code.Last.TheVariants.{Goto, If, IfError, Return}
use Rattle.ir_core.specs.declared.code.Block.{Block}
use Rattle.ir_core.specs.Rows.{Declared}
use Rattle.unset_tests.specs.Unset.{passes, UnsetAt, entry, kept, jumped}
use Rattle.unset_tests.specs.Emptied.{empty_block}
use Rattle.unset_tests.specs.Walk.{onward, may_go, left_out}
use Rattle.unset_tests.specs.Ways.{ways, blocks_emptied}

abbrev r : ℕ → Reg
r n = record { 0 = n }

-- the parameter, the variable, and its flag
abbrev regs : Declared
regs = (codes "b", BoolType) ∷ (codes "x", BoolType) ∷ (codes "r0", BoolType) ∷ []

abbrev block : List (Op × ℕ) → Last → Block
block ops last = record { ops = ops; last = last; handler = None }

abbrev first : Block
first = block ((Turn, 0) ∷ []) (If (r 0) 1 2)

-- the arm that sets it, and one that does not
abbrev arm : Block
arm = block ((Lit (r 1) (Number (pos 1)), 3) ∷ (Lit (r 2) (Number (pos 1)), 3) ∷ []) (Goto 3)

abbrev other : Block
other = block [] (Goto 3)

-- the test, the exception, and what goes on
abbrev test : Block
test = block [] (IfError (r 2) 4 5 4)

abbrev raises : Block
raises =
    block ((Prim None (prim.Err err.Unbound) (arg.Text (codes "x") ∷ []), 4) ∷ (Lit (r 0) (Number (pos 0)), 4) ∷ []) (Goto 5)

abbrev last : Block
last = block [] (Return (r 1))

abbrev one_arm : List Block
one_arm = first ∷ arm ∷ other ∷ test ∷ raises ∷ last ∷ []

-- the flag comes unset to both arms, from the other one to the test, and from there to the exception alone
from_first : onward regs 2 first true ≡ 1 ∷ 2 ∷ []
from_first = refl

from_arm : onward regs 2 arm true ≡ []
from_arm = refl

from_other : onward regs 2 other true ≡ 3 ∷ []
from_other = refl

from_test : onward regs 2 test true ≡ 4 ∷ []
from_test = refl

-- what always fails is not passed
from_exception : onward regs 2 raises true ≡ []
from_exception = refl

-- so behind both arms it may be unset, and the test stays
unset_there : UnsetAt regs one_arm 2 3 0
unset_there =
    jumped 2 0 3 (Goto 3) (jumped 0 1 2 (If (r 0) 1 2) (kept 0 0 0 1 Turn entry refl refl (passes 0 0 Turn refl refl)) refl refl) refl refl

stays : left_out (may_go regs 2 test true) test.last ≡ IfError (r 2) 4 5 4
stays = refl

-- where it comes unset from no arm, the test becomes a jump
goes : left_out (may_go regs 2 test false) test.last ≡ Goto 5
goes = refl

-- behind two arms that both set it only the jump is left, so nothing leads to the exception
abbrev jump : Block
jump = block [] (Goto 5)

abbrev both_arms : List Block
both_arms = first ∷ arm ∷ arm ∷ jump ∷ raises ∷ last ∷ []

leads : map (ways regs both_arms) both_arms ≡ (1 ∷ 2 ∷ []) ∷ (3 ∷ []) ∷ (3 ∷ []) ∷ (5 ∷ []) ∷ (5 ∷ []) ∷ [] ∷ []
leads = refl

-- which is emptied
emptied : blocks_emptied (true ∷ true ∷ true ∷ true ∷ false ∷ true ∷ []) 0 both_arms ≡ first ∷ arm ∷ arm ∷ jump ∷ empty_block ∷ last ∷ []
emptied = refl

-- the exception of a block with a handler leads there, and a path goes on behind it too
abbrev guarded : Block
guarded = record raises { handler = Some 6 }

handled : ways regs (first ∷ guarded ∷ []) guarded ≡ 6 ∷ 5 ∷ []
handled = refl

-- What the blocks of a program look like.
use Rattle.std.specs.Prelude.{◌≡◌, ◌<◌, ◌⊎◌, ℕ, suc, Bool, true, false, not, ◌&&◌, nat_eq, List, [], ◌∷◌, length, Option, Some, None, IsTrue}
use Rattle.std.specs.List.{list_any}
use Rattle.c_core.specs.Primitives.{Outcome, Nothing, Owned, Lent, row_of}
use Rattle.c_core.specs.WellFormed.{WellFormed}
use Rattle.ir_core.specs.declared.code.Reg.{Reg}
use Rattle.ir_core.specs.declared.code.PArg.{PArg}
use Rattle.ir_core.specs.declared.code.PArg.TheVariants as arg
use Rattle.ir_core.specs.declared.code.Op.{Op}
use Rattle.ir_core.specs.declared.code.Op.TheVariants.{Prim, Call, Virtual, TraitCall, Turn, Inc, Dec, XDec}
use Rattle.ir_core.specs.declared.code.Last.{Last}
use Rattle.ir_core.specs.declared.code.Last.TheVariants.{Goto, If, IfError, Return, Unreachable}
use Rattle.ir_core.specs.declared.code.Block.{Block}
use Rattle.ir_core.specs.declared.code.Func.{Func}
use Rattle.ir_core.specs.declared.code.Program.{Program}
use Rattle.ir_core.specs.Items.{Do, item_in, handler_of}
use Rattle.ir_core.specs.Lower.{lower}

abbrev pub is_turn : Op → Bool
is_turn Turn = true
is_turn _ = false

-- the last operation is a turn
abbrev pub ends_in_turn : List (Op × ℕ) → Bool
ends_in_turn [] = false
ends_in_turn (o ∷ []) = is_turn o.0
ends_in_turn (o ∷ q ∷ os) = ends_in_turn (q ∷ os)

-- a block above block k, of n blocks
abbrev pub IsHigher : ℕ → ℕ → ℕ → Type 0
IsHigher n k t = (k < t) × (t < n)

-- the end of block k of n blocks, behind these operations. Tests go to higher blocks only, and a jump elsewhere stands directly
-- behind a turn; nothing goes to block 0; what is not reached is empty, and not block 0
abbrev pub LastFits : ℕ → ℕ → List (Op × ℕ) → Last → Type 0
LastFits n k ops (Goto t) = (0 < t) × (t < n) × ((k < t) ⊎ (ends_in_turn ops ≡ true))
LastFits n k ops (If r a b) = IsHigher n k a × IsHigher n k b
LastFits n k ops (IfError r e o line) = IsHigher n k e × IsHigher n k o
LastFits n k ops (Return r) = Unit {0}
LastFits n k ops Unreachable = (0 < k) × (ops ≡ [])

abbrev pub HandlerFits : ℕ → ℕ → Option ℕ → Type 0
HandlerFits n k None = Unit {0}
HandlerFits n k (Some h) = IsHigher n k h

-- A primitive whose row gives a result names a target, and no other one does. What is only lent goes nowhere yet: no operation that
-- gives it fits.
abbrev pub is_target_of : Outcome → Option Reg → Bool
is_target_of Nothing None = true
is_target_of Nothing (Some r) = false
is_target_of (Owned k) None = false
is_target_of (Owned k) (Some r) = true
is_target_of (Lent k) to = false

-- the target of an operation is none of its arguments
abbrev pub is_register : Reg → Reg → Bool
is_register r s = nat_eq r.0 s.0

abbrev pub is_argument : Reg → PArg → Bool
is_argument r (arg.Var s) = is_register r s
is_argument r _ = false

abbrev pub is_apart : Option Reg → List PArg → Bool
is_apart None args = true
is_apart (Some r) args = not (list_any (is_argument r) args)

-- and no operation counts: counts come in later, by a pass of their own
abbrev pub op_fits : Op → Bool
op_fits (Prim to q args) = is_target_of (row_of q).outcome to && is_apart to args
op_fits (Call r g args) = not (list_any (is_register r) args)
op_fits (Virtual r o n args) = not (list_any (is_register r) (o ∷ args))
op_fits (TraitCall r o t n args) = not (list_any (is_register r) (o ∷ args))
op_fits (Inc r) = false
op_fits (Dec r) = false
op_fits (XDec r) = false
op_fits _ = true

abbrev pub OpsFit : List (Op × ℕ) → Type 0
OpsFit [] = Unit {0}
OpsFit (o ∷ os) = IsTrue (op_fits o.0) × OpsFit os

pub record BlockFits (n k : ℕ) (b : Block) : Type 0 where
  pub ops : OpsFit b.ops
  pub last : LastFits n k b.ops b.last
  pub handler : HandlerFits n k (handler_of b)

-- blocks from number k on
abbrev pub BlocksFit : ℕ → ℕ → List Block → Type 0
BlocksFit n k [] = Unit {0}
BlocksFit n k (b ∷ bs) = BlockFits n k b × BlocksFit n (suc k) bs

abbrev pub FuncFits : Func → Type 0
FuncFits f = BlocksFit (length f.blocks) 0 f.blocks

-- each function but the last, which is the module's own, begins with a turn
abbrev pub BeginsInTurn : List Func → Type 0
BeginsInTurn [] = Unit {0}
BeginsInTurn (f ∷ []) = Unit {0}
BeginsInTurn (f ∷ g ∷ fs) = ((line : ℕ) × (item_in f.blocks 0 0 ≡ Some (Do Turn line))) × BeginsInTurn (g ∷ fs)

abbrev pub FuncsFit : List Func → Type 0
FuncsFit [] = Unit {0}
FuncsFit (f ∷ fs) = FuncFits f × FuncsFit fs

-- and its C text is well formed
pub record Shape (p : Program) : Type 0 where
  pub funcs : FuncsFit p.funcs
  pub turns : BeginsInTurn p.funcs
  pub lowered : WellFormed (lower p)

-- The rule on some operations, by computation.
use Rattle.std.proofs.Common.{◌≡◌, refl, ℕ, zero, suc, Bool, true, [], ◌∷◌, Some, None}
use Rattle.c_core.specs.declared.primitive.Primitive.TheVariants as prim
use Rattle.c_core.specs.declared.primitive.StrPrim.TheVariants as str
use Rattle.c_core.specs.declared.primitive.GlobalPrim.TheVariants as global
use Rattle.ir_core.specs.declared.code.Reg.{Reg}
use Rattle.ir_core.specs.declared.code.PArg.TheVariants as arg
use Rattle.ir_core.specs.declared.code.Lit.TheVariants.{Null}
use Rattle.ir_core.specs.declared.code.Op.{Op}
use Rattle.ir_core.specs.declared.code.Op.TheVariants.{Move, Lit, Prim, Call}
use Rattle.refcount_insert_rule.specs.Rule.{counts_before, counts_after}

abbrev all : ℕ → Bool
all r = true

-- what registers 0 and 1 have
abbrev pair : ℕ → ℕ → ℕ → ℕ
pair a b zero = a
pair a b (suc zero) = b
pair a b (suc (suc r)) = 0

abbrev reg : ℕ → Reg
reg n = record { 0 = n }

abbrev Sample : (o : Op) (have want : ℕ → ℕ) (before0 before1 after0 after1 : ℕ) → Type 0
Sample o have want a b c d =
    (counts_before all o have want 0 ≡ a) × (counts_before all o have want 1 ≡ b) × (counts_after all o have want 0 ≡ c) × (counts_after all o have want 1 ≡ d)

-- `x = x`, where it is owned and read again: nothing is counted, for the move takes it and gives it back
moved_to_itself : Sample (Move (reg 0) (reg 0)) (pair 1 0) (pair 1 0) 0 0 0 0
moved_to_itself = (refl, refl, refl, refl)

-- `x = y`, where y is read again, and where it is not
moved_and_kept : Sample (Move (reg 0) (reg 1)) (pair 0 1) (pair 1 1) 0 1 0 0
moved_and_kept = (refl, refl, refl, refl)

moved_on : Sample (Move (reg 0) (reg 1)) (pair 0 1) (pair 1 0) 0 0 0 0
moved_on = (refl, refl, refl, refl)

-- a text is joined to itself, and not read again: it is given up once
joined : Sample (Prim (Some (reg 1)) (prim.Str str.Concat) (arg.Var (reg 0) ∷ arg.Var (reg 0) ∷ [])) (pair 1 0) (pair 0 1) 0 0 1 0
joined = (refl, refl, refl, refl)

-- what is only lent is not given up at its last use
lent : Sample (Prim (Some (reg 1)) (prim.Str str.Concat) (arg.Var (reg 0) ∷ arg.Var (reg 0) ∷ [])) (pair 0 0) (pair 0 1) 0 0 0 0
lent = (refl, refl, refl, refl)

-- a global takes what is only lent, so one is taken before
stored : Sample (Prim None (prim.Global global.Set) (arg.Global [] ∷ arg.Var (reg 0) ∷ [])) (pair 0 0) (pair 0 0) 1 0 0 0
stored = (refl, refl, refl, refl)

-- a function is lent its arguments; a result that nobody reads is given up
passed : Sample (Call (reg 1) 0 (reg 0 ∷ reg 0 ∷ [])) (pair 1 0) (pair 0 0) 0 0 1 1
passed = (refl, refl, refl, refl)

-- a literal gives what is wanted
written : Sample (Lit (reg 0) Null) (pair 0 0) (pair 1 0) 0 0 0 0
written = (refl, refl, refl, refl)

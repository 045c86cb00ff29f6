-- What registers hold: a value, or the error value of their type. That of a native integer is the number -113, which is a
-- value too (mypyc's developer guide, "Error handling").
use Rattle.std.specs.Prelude.{ℕ, zero, suc, ◌/◌, ◌%◌, ◌==◌, Bool, true, false, cond, nat_eq, ℤ, pos, negsuc, List, [], ◌∷◌, Option, Some, None}
use Rattle.std.specs.Option.{option_map}
use Rattle.value_core.specs.Value.{Value, IntVal, BoolVal, NoneVal}
use Rattle.ir_core.specs.declared.code.RType.{RType}
use Rattle.ir_core.specs.declared.code.RType.TheVariants.{Int, I64, Bool as BoolType, Ref}
use Rattle.ir_core.specs.declared.code.Lit.{Lit}
use Rattle.ir_core.specs.declared.code.Lit.TheVariants.{Number, Null, PyNone, PyTrue, PyFalse}
use Rattle.ir_core.specs.declared.code.Reg.{Reg}
use Rattle.ir_core.specs.Rows.{Declared, type_of_reg}

pub data Held : Type 0 where
  Unset : Held
  Holds : (v : Value) → Held

abbrev pub error_of : RType → Held
error_of I64 = Holds (IntVal (negsuc 112))
error_of _ = Unset

-- whether it is the error value that no value is
abbrev pub is_unset : Held → Bool
is_unset Unset = true
is_unset (Holds v) = false

abbrev pub is_both : Held → Bool
is_both (Holds (IntVal (negsuc n))) = n == 112
is_both _ = false

-- whether it is the error value of a type
abbrev pub is_error : RType → Held → Bool
is_error I64 h = is_both h
is_error _ h = is_unset h

-- what a literal writes to a register of a type. The number of an `int` is twice its value, or 1 for the error value
abbrev pub halved : ℤ → Option Held
halved (pos n) = cond (n % 2 == 0) (Some (Holds (IntVal (pos (n / 2))))) (cond (n == 1) (Some Unset) None)
halved (negsuc n) = cond (n % 2 == 1) (Some (Holds (IntVal (negsuc (n / 2))))) None

abbrev pub truth : ℤ → Option Held
truth (pos zero) = Some (Holds (BoolVal false))
truth (pos (suc zero)) = Some (Holds (BoolVal true))
truth (pos (suc (suc zero))) = Some Unset
truth _ = None

abbrev pub literal_of : RType → Lit → Option Held
literal_of Int (Number n) = halved n
literal_of I64 (Number n) = Some (Holds (IntVal n))
literal_of BoolType (Number n) = truth n
literal_of Ref Null = Some Unset
literal_of Ref PyNone = Some (Holds NoneVal)
literal_of Ref PyTrue = Some (Holds (BoolVal true))
literal_of Ref PyFalse = Some (Holds (BoolVal false))
literal_of _ _ = None

-- the registers of a running function by number; only those that are declared are ever looked at
abbrev pub Regs : Type 0
Regs = ℕ → Held

-- a register is written
abbrev pub put : Regs → ℕ → Held → Regs
put regs r h = λ k. cond (nat_eq k r) h (regs k)

-- what a declared register holds
abbrev pub look : Declared → Regs → Reg → Option Held
look declared regs r = option_map (λ t. regs r.0) (type_of_reg declared r)

-- the first registers of a function: its arguments, and in each other one the error value of its type
abbrev pub error_at : Declared → ℕ → Held
error_at [] k = Unset
error_at (d ∷ ds) zero = error_of d.1
error_at (d ∷ ds) (suc k) = error_at ds k

abbrev pub first_regs : Declared → List Held → Regs
first_regs declared [] k = error_at declared k
first_regs [] (a ∷ args) k = Unset
first_regs (d ∷ ds) (a ∷ args) zero = a
first_regs (d ∷ ds) (a ∷ args) (suc k) = first_regs ds args k

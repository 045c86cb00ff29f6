-- What names of calls say.
use Rattle.std.proofs.Common.{◌≡◌, refl, ℕ, suc, Bool, true, false, cond, [], length, Option, Some, None}
use Rattle.std.specs.Prelude.{slice_get, nat_eq}
use Rattle.std.specs.Option.{option_map_or}
use Rattle.c_core.specs.Primitives.{primitive_named}
use Rattle.ir_core.specs.declared.code.Func.{Func}
use Rattle.ir_core.specs.declared.code.Program.{Program}
use Rattle.ir_core.specs.Lower.{call_name, called_as}

-- no function is called by the name of a primitive
none_named : (o : Option Func) → primitive_named (option_map_or call_name o []) ≡ None
none_named None = refl
none_named (Some g) = refl

pub none_called : (p : Program) (n : ℕ) → primitive_named (called_as p n) ≡ None
none_called p n = by (nat_eq (suc n) (length p.funcs))
  where
    by : (is_last : Bool) → primitive_named (cond is_last [] (option_map_or call_name (slice_get p.funcs n) [])) ≡ None
    by true = refl
    by false = none_named (slice_get p.funcs n)

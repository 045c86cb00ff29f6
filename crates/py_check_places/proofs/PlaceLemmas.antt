-- The type of a variable that was looked up.
use Rattle.std.proofs.Common.{◌≡◌, ◌∷◌, [], List, ℕ, zero, suc, map, refl}
use Rattle.std.specs.Prelude.{slice_get}
use Rattle.std.specs.Option.{option_map}
use Rattle.py_check_context.specs.declared.variables.VarType.{VarType}
use Rattle.py_check_context.specs.Context.{var_sort}

pub var_found : (types : List VarType) (i : ℕ) → slice_get (map var_sort types) i ≡ option_map var_sort (slice_get types i)
var_found [] i = refl
var_found (t ∷ ts) zero = refl
var_found (t ∷ ts) (suc i) = var_found ts i

-- The type of a variable that was looked up, and what a name is to an assignment.
use Rattle.std.proofs.Common.{◌≡◌, List, ℕ, map, refl}
use Rattle.std.specs.Prelude.{slice_get}
use Rattle.std.specs.Option.{option_map}
use Rattle.py_check_context.specs.declared.scope.Meaning.{Meaning}
use Rattle.py_check_context.specs.declared.scope.Meaning.TheVariants as meaning
use Rattle.py_check_context.specs.declared.variables.VarType.{VarType}
use Rattle.py_check_context.specs.Context.{var_sort}
use Rattle.py_check_places.specs.Places.{Known, with_names}
use Rattle.py_check_places.proofs.PlaceLemmas as places
use Rattle.py_check_targets.specs.Targets.{name_aim}

pub var_found : (types : List VarType) (i : ℕ) → slice_get (map var_sort types) i ≡ option_map var_sort (slice_get types i)
var_found = places.var_found

-- what a name is to an assignment hangs on no name that is known to be not None
pub name_aim_kept : (k : Known) (names : List ℕ) (x : List ℕ) (m : Meaning) → name_aim k x m ≡ name_aim (with_names k names) x m
name_aim_kept k names x (meaning.Local i) = refl
name_aim_kept k names x (meaning.Global i) = refl
name_aim_kept k names x m = refl

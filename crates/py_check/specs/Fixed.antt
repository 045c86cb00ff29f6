-- Variables that have a type, or have none for good: no binding that comes later gives them one. Behind the own statements of a module
-- each of its variables is one of these, so the bodies of functions all begin with the same types.
use Rattle.std.specs.Prelude.{◌≡◌, ◌<◌, ℕ, nat_lt, Bool, true, false, List, length}
use Rattle.py_check_context.specs.declared.scope.Meaning.{Meaning}
use Rattle.py_check_context.specs.declared.scope.Meaning.TheVariants as meaning
use Rattle.py_check_context.specs.Context.{VarSort, VarSorts, var_at}
use Rattle.py_check_places.specs.Places.{is_unset}

-- so each of them is
abbrev pub AreFixed : List VarSort → Type 0
AreFixed sorts = (i : ℕ) → i < length sorts → is_unset (var_at sorts i) ≡ false

-- what a name means is one of these variables, or no variable
abbrev pub is_there : VarSorts → Meaning → Bool
is_there V (meaning.Local i) = nat_lt i (length V.locals)
is_there V (meaning.Global i) = nat_lt i (length V.globals)
is_there V m = true

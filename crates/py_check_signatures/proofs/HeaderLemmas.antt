-- The first parameter of a method with its own type.
use Rattle.std.proofs.Common.{◌≡◌, List, [], ◌∷◌, map, slice_set, Option, refl}
use Rattle.std.specs.Option.{option_map}
use Rattle.py_typed.specs.declared.types.Ty.{Ty}
use Rattle.py_typed.specs.Sorts.{sort}
use Rattle.py_check_signatures.specs.Headers.{with_own}

pub own_put : (own : Option Ty) (types : List (Option Ty)) → ¬ (types ≡ []) → map (option_map sort) (slice_set types 0 own) ≡ with_own (option_map sort own) (map (option_map sort) types)
own_put own [] some = absurd (some refl)
own_put own (t ∷ more) some = refl

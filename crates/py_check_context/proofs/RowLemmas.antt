-- What the places of a row ask for.
use Rattle.std.proofs.Common.{◌≡◌, ℕ, zero, suc, List, [], ◌∷◌, map, refl}
use Rattle.std.specs.Prelude.{slice_get}
use Rattle.std.specs.Option.{option_map}
use Rattle.py_typed.specs.declared.types.Ty.{Ty}
use Rattle.py_typed.specs.Sorts.{sort}

pub sort_found : (ts : List Ty) (i : ℕ) → slice_get (map sort ts) i ≡ option_map sort (slice_get ts i)
sort_found [] i = refl
sort_found (t ∷ ts) zero = refl
sort_found (t ∷ ts) (suc i) = sort_found ts i

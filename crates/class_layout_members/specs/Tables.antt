-- What tables of names have of a class.
use Rattle.std.specs.Prelude.{ℕ, List, [], Option, None, Some, slice_get, option_and_then}
use Rattle.std.specs.Option.{option_or}
use Rattle.indexmap.specs.IndexSet.{IndexSet}
use Rattle.class_layout_members.specs.Names.{place_of}

abbrev pub keys_in : {S : Type 0} → Option (IndexSet (List ℕ) S) → List (List ℕ)
keys_in None = []
keys_in (Some names) = names.keys

-- the names of the class of a number: none where there is no such class
abbrev pub names_at : {S : Type 0} → List (IndexSet (List ℕ) S) → ℕ → List (List ℕ)
names_at tables c = keys_in (slice_get tables c)

-- the function at the place that a name has among others
abbrev pub function_at : List (List ℕ) → List ℕ → List ℕ → Option ℕ
function_at names functions name = option_and_then (λ i. slice_get functions i) (place_of name names)

-- what is found under a name, or else the function above at its place above
abbrev pub found_or_above : (List ℕ → Option ℕ) → List (List ℕ) → List ℕ → List ℕ → Option ℕ
found_or_above found names functions name = option_or (found name) (function_at names functions name)

-- How slots lie in a block: first those that hold values, and then empty ones. No public clause cites this module.
use Rattle.std.specs.Prelude.{◌≡◌, ℕ, zero, suc, ◌^◌, ◌<◌, ◌≤◌, List, [], ◌∷◌, length, replicate, Option, Some, None}

module _ {S : Type 0} where
  -- so many places, the first of which hold these values
  abbrev pub laid : List S → ℕ → List (Option S)
  laid [] count = replicate count None
  laid (value ∷ values) zero = []
  laid (value ∷ values) (suc count) = Some value ∷ laid values count

  -- the values of the places that are not empty
  abbrev pub values_in : List (Option S) → List S
  values_in [] = []
  values_in (None ∷ rest) = values_in rest
  values_in (Some value ∷ rest) = value ∷ values_in rest

  -- the first `used` of `capacity` places hold values, and the others are empty
  pub record IsLaid (places : List (Option S)) (used capacity : ℕ) : Type 0 where
    pub lie : places ≡ laid (values_in places) capacity
    pub counted : used ≡ length (values_in places)
    pub within : used ≤ capacity
    pub small : capacity < 2 ^ 63

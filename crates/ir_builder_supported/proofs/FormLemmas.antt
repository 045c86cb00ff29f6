-- Rows of forms: the least of two rows, and rows with nothing.
use Rattle.ir_builder_supported.proofs.Common.{◌≡◌, refl, Bool, true, false, List, [], ◌∷◌, ◌++◌, Option, Some, None, ◌&&◌, and_left, and_right, Unbuilt, lesser, least, or_parts}
use Rattle.std.proofs.lemmas.Grind.{common_steps}

-- the least of two rows is found in the one and then in the other
pub least_append : (found : Option Unbuilt) (xs ys : List Unbuilt) → least found (xs ++ ys) ≡ least (least found xs) ys
least_append found [] ys = refl
least_append found (u ∷ xs) ys = least_append (Some (lesser u found)) xs ys

pub ruleset rows = (common_steps, least_append)

still_some : (u : Unbuilt) (xs : List Unbuilt) → least (Some u) xs ≡ None → ⊥
still_some u [] e = absurd (cc)
still_some u (x ∷ xs) e = still_some (lesser x (Some u)) xs e

pub no_form : (xs : List Unbuilt) → least None xs ≡ None → xs ≡ []
no_form [] e = refl
no_form (x ∷ xs) e = absurd (still_some (lesser x None) xs e)

pub none_left : (xs ys : List Unbuilt) → xs ++ ys ≡ [] → xs ≡ []
none_left [] ys e = refl
none_left (x ∷ xs) ys e = absurd (cc)

pub none_right : (xs ys : List Unbuilt) → xs ++ ys ≡ [] → ys ≡ []
none_right [] ys e = e
none_right (x ∷ xs) ys e = absurd (cc)

-- what is compiled, with nothing in its parts that is not
pub compiled : (b : Bool) (here : Unbuilt) (parts : List Unbuilt) → or_parts b here parts ≡ [] → (b ≡ true) × (parts ≡ [])
compiled true here parts e = (refl, e)
compiled false here parts e = absurd (cc)

-- two parts that stand one behind the other
pub both : {A B : Type 0} {a b : Bool} {xs ys : List Unbuilt} → (a ≡ true → xs ≡ [] → A) → (b ≡ true → ys ≡ [] → B) → (a && b) ≡ true → xs ++ ys ≡ [] → A × B
both f g h p = (f (and_left _ _ h) (none_left _ _ p), g (and_right _ _ h) (none_right _ _ p))

-- Places of declared types, as globals and the slots of an instance: what stands at one of them, and one that is written.
use Rattle.std.proofs.Common.{◌≡◌, subst, ℕ, zero, suc, List, [], ◌∷◌, Option, Some, None}
use Rattle.std.specs.Prelude.{slice_get, slice_set, map}
use Rattle.value_core.specs.Value.{Value}
use Rattle.c_core.specs.declared.code.Kind.{Kind}
use Rattle.c_core.specs.Machine.{Word, MachineState}
use Rattle.ir_core.specs.declared.code.RType.{RType}
use Rattle.ir_core.specs.Registers.{Holds}
use Rattle.ir_core.specs.Rows.{Declared}
use Rattle.refcount_insert_lines_laws.specs.Matching.{slot_typed, Fits, PlacesFit}

module _ (s : MachineState) where
  -- a place of a type is unset, or holds a value and its word
  abbrev pub PlaceFits : RType → Option Value → Option Word → Type 0
  PlaceFits t None None = Unit {0}
  PlaceFits t (Some v) (Some y) = Fits s t (Holds v) y
  PlaceFits t _ _ = ⊥

  pub first_fits : (g : List ℕ × RType) (gs : Declared) (v : Option Value) (vs : List (Option Value)) (y : Option Word) (ys : List (Option Word)) → PlacesFit s (g ∷ gs) (v ∷ vs) (y ∷ ys) → PlaceFits g.1 v y × PlacesFit s gs vs ys
  first_fits g gs None vs None ys at = (tt, at)
  first_fits g gs None vs (Some y) ys at = absurd at
  first_fits g gs (Some v) vs None ys at = absurd at
  first_fits g gs (Some v) vs (Some y) ys at = at

  pub all_fit : (g : List ℕ × RType) (gs : Declared) (v : Option Value) (vs : List (Option Value)) (y : Option Word) (ys : List (Option Word)) → PlaceFits g.1 v y → PlacesFit s gs vs ys → PlacesFit s (g ∷ gs) (v ∷ vs) (y ∷ ys)
  all_fit g gs None vs None ys first rest = rest
  all_fit g gs None vs (Some y) ys first rest = absurd first
  all_fit g gs (Some v) vs None ys first rest = absurd first
  all_fit g gs (Some v) vs (Some y) ys first rest = (first, rest)

  -- what stands at a number
  abbrev pub PlaceAt : Option (List ℕ × RType) → Option (Option Value) → Option (Option Word) → Type 0
  PlaceAt None None None = Unit {0}
  PlaceAt (Some g) (Some v) (Some y) = PlaceFits g.1 v y
  PlaceAt _ _ _ = ⊥

  pub place_at : (gs : Declared) (vs : List (Option Value)) (ys : List (Option Word)) → PlacesFit s gs vs ys → (i : ℕ) → PlaceAt (slice_get gs i) (slice_get vs i) (slice_get ys i)
  place_at [] [] [] m i = tt
  place_at [] [] (y ∷ ys) m i = absurd m
  place_at [] (v ∷ vs) ys m i = absurd m
  place_at (g ∷ gs) [] ys m i = absurd m
  place_at (g ∷ gs) (None ∷ vs) [] m i = absurd m
  place_at (g ∷ gs) (Some v ∷ vs) [] m i = absurd m
  place_at (g ∷ gs) (v ∷ vs) (y ∷ ys) m zero = (first_fits g gs v vs y ys m).0
  place_at (g ∷ gs) (v ∷ vs) (y ∷ ys) m (suc i) = place_at gs vs ys (first_fits g gs v vs y ys m).1 i

  pub place_set : (gs : Declared) (vs : List (Option Value)) (ys : List (Option Word)) (i : ℕ) (g : List ℕ × RType) (u : Option Value) (z : Option Word) → PlacesFit s gs vs ys → slice_get gs i ≡ Some g → PlaceFits g.1 u z → PlacesFit s gs (slice_set vs i u) (slice_set ys i z)
  place_set [] [] [] i g u z m e fits = absurd (cc)
  place_set [] [] (y ∷ ys) i g u z m e fits = absurd m
  place_set [] (v ∷ vs) ys i g u z m e fits = absurd m
  place_set (h ∷ gs) [] ys i g u z m e fits = absurd m
  place_set (h ∷ gs) (None ∷ vs) [] i g u z m e fits = absurd m
  place_set (h ∷ gs) (Some v ∷ vs) [] i g u z m e fits = absurd m
  place_set (h ∷ gs) (v ∷ vs) (y ∷ ys) zero g u z m e fits =
      let both : Some h ≡ Some g = e in
      let same : g ≡ h = cc in
      all_fit h gs u vs z ys (subst (λ (d : List ℕ × RType). PlaceFits d.1 u z) same fits) (first_fits h gs v vs y ys m).1
  place_set (h ∷ gs) (v ∷ vs) (y ∷ ys) (suc i) g u z m e fits =
      let parts = first_fits h gs v vs y ys m in
      all_fit h gs v (slice_set vs i u) y (slice_set ys i z) parts.0 (place_set gs vs ys i g u z parts.1 e fits)

  -- a new instance has no attributes yet
  pub none_set : (slots : List (List ℕ × Kind)) → PlacesFit s (map slot_typed slots) (map (λ a. None) slots) (map (λ a. None) slots)
  none_set [] = tt
  none_set (a ∷ slots) = none_set slots

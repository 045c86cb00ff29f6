-- What a list has at a place after a write or a push.
use Rattle.std.proofs.Common.{◌≡◌, ◌≢◌, ℕ, zero, suc, ◌<◌, List, [], ◌∷◌, ◌++◌, length, set, Some, slice_get, refl, sym, ap, ◌∙◌, arith}
use Rattle.std.proofs.lemmas.Option.{same_Some}

module _ {X : Type 0} where
  pub slice_get-set_same : (xs : List X) (i : ℕ) (x : X) → i < length xs → slice_get (set xs i x) i ≡ Some x
  slice_get-set_same [] i x within = absurd (omega arith)
  slice_get-set_same (y ∷ ys) zero x within = refl
  slice_get-set_same (y ∷ ys) (suc i) x within = slice_get-set_same ys i x (omega arith)

  pub slice_get-set_other : (xs : List X) (i j : ℕ) (x : X) → j ≢ i → slice_get (set xs i x) j ≡ slice_get xs j
  slice_get-set_other [] i j x differs = refl
  slice_get-set_other (y ∷ ys) zero zero x differs = absurd (differs refl)
  slice_get-set_other (y ∷ ys) zero (suc j) x differs = refl
  slice_get-set_other (y ∷ ys) (suc i) zero x differs = refl
  slice_get-set_other (y ∷ ys) (suc i) (suc j) x differs = slice_get-set_other ys i j x (λ same. differs (ap suc same))

  pub slice_get-append_left : (xs ys : List X) (i : ℕ) → i < length xs → slice_get (xs ++ ys) i ≡ slice_get xs i
  slice_get-append_left [] ys i within = absurd (omega arith)
  slice_get-append_left (x ∷ xs) ys zero within = refl
  slice_get-append_left (x ∷ xs) ys (suc i) within = slice_get-append_left xs ys i (omega arith)

  pub slice_get_push : (xs : List X) (y : X) → slice_get (xs ++ y ∷ []) (length xs) ≡ Some y
  slice_get_push [] y = refl
  slice_get_push (x ∷ xs) y = slice_get_push xs y

  -- a place has one element
  pub slice_get_unique : (xs : List X) (i : ℕ) (x y : X) → slice_get xs i ≡ Some x → slice_get xs i ≡ Some y → x ≡ y
  slice_get_unique xs i x y first second = same_Some x y (sym first ∙ second)

  -- a place of the list has an element
  pub slice_get_some : (xs : List X) (i : ℕ) → i < length xs → (x : X) × (slice_get xs i ≡ Some x)
  slice_get_some [] i within = absurd (omega arith)
  slice_get_some (x ∷ xs) zero within = (x, refl)
  slice_get_some (x ∷ xs) (suc i) within = slice_get_some xs i (omega arith)

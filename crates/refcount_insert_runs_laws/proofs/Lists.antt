-- Lists: what stands at a place, what is left from one on, and what stands behind a first part.
use Rattle.std.proofs.Common.{◌≡◌, refl, ◌∙◌, ap, ℕ, zero, suc, ◌+◌, ◌<◌, arith, List, [], ◌∷◌, ◌++◌, length, Some, None, drop}
use Rattle.std.specs.Prelude.{slice_get}

pub get_first : {A : Type 0} (n : ℕ) (xs : List A) (y : A) (ys : List A) → drop n xs ≡ y ∷ ys → slice_get xs n ≡ Some y
get_first zero [] y ys e = let f : [] ≡ y ∷ ys = e in absurd (cc)
get_first (suc n) [] y ys e = let f : [] ≡ y ∷ ys = e in absurd (cc)
get_first zero (x ∷ xs) y ys e = let f : x ∷ xs ≡ y ∷ ys = e in cc
get_first (suc n) (x ∷ xs) y ys e = get_first n xs y ys e

drop_suc : {A : Type 0} (n : ℕ) (xs : List A) (y : A) (ys : List A) → drop n xs ≡ y ∷ ys → drop (suc n) xs ≡ ys
drop_suc zero [] y ys e = let f : [] ≡ y ∷ ys = e in absurd (cc)
drop_suc (suc n) [] y ys e = let f : [] ≡ y ∷ ys = e in absurd (cc)
drop_suc zero (x ∷ xs) y ys e = let f : x ∷ xs ≡ y ∷ ys = e in cc
drop_suc (suc n) (x ∷ xs) y ys e = drop_suc n xs y ys e

pub drop_next : {A : Type 0} (n : ℕ) (xs : List A) (y : A) (ys : List A) → drop n xs ≡ y ∷ ys → drop (n + 1) xs ≡ ys
drop_next n xs y ys e =
    let one : n + 1 ≡ suc n = omega arith in ap (λ i. drop i xs) one ∙ drop_suc n xs y ys e

pub within : {A : Type 0} (xs : List A) (n : ℕ) → n < length xs → (x : A) × (slice_get xs n ≡ Some x)
within [] n l = absurd (omega (arith, l))
within (x ∷ xs) zero l = (x, refl)
within (x ∷ xs) (suc n) l = within xs n (omega (arith, l))

pub get_behind : {A : Type 0} (xs ys : List A) (i : ℕ) → slice_get (xs ++ ys) (length xs + i) ≡ slice_get ys i
get_behind [] ys i = let e : 0 + i ≡ i = omega arith in ap (slice_get ys) e
get_behind (x ∷ xs) ys i =
    let e : suc (length xs) + i ≡ suc (length xs + i) = omega arith in
    ap (slice_get (x ∷ (xs ++ ys))) e ∙ get_behind xs ys i

pub get_before : {A : Type 0} (xs ys : List A) (i : ℕ) (x : A) → slice_get xs i ≡ Some x → slice_get (xs ++ ys) i ≡ Some x
get_before [] ys i x e = let f : None ≡ Some x = e in absurd (cc)
get_before (y ∷ xs) ys zero x e = e
get_before (y ∷ xs) ys (suc i) x e = get_before xs ys i x e

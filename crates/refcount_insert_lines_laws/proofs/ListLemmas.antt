-- Lists: what stands at a place behind a write or in a mapped list, and what stands at the places of cells.
use Rattle.std.proofs.Common.{◌≡◌, ◌≢◌, refl, ap, ℕ, zero, suc, ◌<◌, arith, List, [], ◌∷◌, ◌++◌, length, Some, None}
use Rattle.std.specs.Prelude.{slice_get, slice_set, map}
use Rattle.std.specs.Option.{option_map}
use Rattle.c_core.specs.Cells.{Cells, content_at, take_one, refill, make}

pub size_set : {A : Type 0} (xs : List A) (n : ℕ) (y : A) → length (slice_set xs n y) ≡ length xs
size_set [] n y = refl
size_set (x ∷ xs) zero y = refl
size_set (x ∷ xs) (suc n) y = ap suc (size_set xs n y)

pub get_set_same : {A : Type 0} (xs : List A) (n : ℕ) (y : A) → n < length xs → slice_get (slice_set xs n y) n ≡ Some y
get_set_same [] n y l = absurd (omega (arith, l))
get_set_same (x ∷ xs) zero y l = refl
get_set_same (x ∷ xs) (suc n) y l = get_set_same xs n y (omega (arith, l))

pub get_set_other : {A : Type 0} (xs : List A) (n k : ℕ) (y : A) → k ≢ n → slice_get (slice_set xs n y) k ≡ slice_get xs k
get_set_other [] n k y ne = refl
get_set_other (x ∷ xs) zero zero y ne = absurd (ne refl)
get_set_other (x ∷ xs) zero (suc k) y ne = refl
get_set_other (x ∷ xs) (suc n) zero y ne = refl
get_set_other (x ∷ xs) (suc n) (suc k) y ne = get_set_other xs n k y (λ e. ne (ap suc e))

pub size_map : {A B : Type 0} (f : A → B) (xs : List A) → length (map f xs) ≡ length xs
size_map f [] = refl
size_map f (x ∷ xs) = ap suc (size_map f xs)

pub get_map : {A B : Type 0} (f : A → B) (xs : List A) (n : ℕ) → slice_get (map f xs) n ≡ option_map f (slice_get xs n)
get_map f [] n = refl
get_map f (x ∷ xs) zero = refl
get_map f (x ∷ xs) (suc n) = get_map f xs n

pub get_first : {A : Type 0} (xs : List A) (y x : A) (n : ℕ) → slice_get xs n ≡ Some x → slice_get (xs ++ y ∷ []) n ≡ Some x
get_first [] y x n e = absurd (cc)
get_first (z ∷ xs) y x zero e = e
get_first (z ∷ xs) y x (suc n) e = get_first xs y x n e

pub get_last : {A : Type 0} (xs : List A) (y : A) → slice_get (xs ++ y ∷ []) (length xs) ≡ Some y
get_last [] y = refl
get_last (x ∷ xs) y = get_last xs y

-- what stands in a list with one more behind it stood there before, or is that one
pub data OldOrLast {A : Type 0} (xs : List A) (y : A) (n : ℕ) (x : A) : Type 0 where
  is_old : slice_get xs n ≡ Some x → OldOrLast xs y n x
  is_last : n ≡ length xs → y ≡ x → OldOrLast xs y n x

pub old_or_last : {A : Type 0} (xs : List A) (y x : A) (n : ℕ) → slice_get (xs ++ y ∷ []) n ≡ Some x → OldOrLast xs y n x
old_or_last [] y x zero e = is_last refl (cc)
old_or_last [] y x (suc n) e = absurd (cc)
old_or_last (z ∷ xs) y x zero e = is_old e
old_or_last (z ∷ xs) y x (suc n) e = by (old_or_last xs y x n e)
  where
    by : OldOrLast xs y n x → OldOrLast (z ∷ xs) y (suc n) x
    by (is_old f) = is_old f
    by (is_last f g) = is_last (ap suc f) g

-- a place within a list holds something
pub get_within : {A : Type 0} (xs : List A) (n : ℕ) → n < length xs → (x : A) × (slice_get xs n ≡ Some x)
get_within [] n l = absurd (omega (arith, l))
get_within (x ∷ xs) zero l = (x, refl)
get_within (x ∷ xs) (suc n) l = get_within xs n (omega (arith, l))

-- ---- cells
module _ {X : Type 0} where
  -- a reference that is taken changes no content
  pub taken_same : (cells : Cells X) (c d : ℕ) → content_at (take_one c cells) d ≡ content_at cells d
  taken_same [] c d = refl
  taken_same (None ∷ cells) zero zero = refl
  taken_same (Some x ∷ cells) zero zero = refl
  taken_same (o ∷ cells) zero (suc d) = refl
  taken_same (o ∷ cells) (suc c) zero = refl
  taken_same (o ∷ cells) (suc c) (suc d) = taken_same cells c d

  -- and a new cell none of an old one
  pub made_old : (cells : Cells X) (x : X) (d : ℕ) (v : X) → content_at cells d ≡ Some v → content_at (make x cells) d ≡ Some v
  made_old [] x d v e = absurd (cc)
  made_old (o ∷ cells) x zero v e = e
  made_old (o ∷ cells) x (suc d) v e = made_old cells x d v e

  pub made_new : (cells : Cells X) (x : X) → content_at (make x cells) (length cells) ≡ Some x
  made_new [] x = refl
  made_new (o ∷ cells) x = made_new cells x

  -- a cell that is there stands before the next one
  pub cell_within : (cells : Cells X) (c : ℕ) (v : X) → content_at cells c ≡ Some v → c < length cells
  cell_within [] c v e = absurd (cc)
  cell_within (o ∷ cells) zero v e = omega arith
  cell_within (o ∷ cells) (suc c) v e = omega (arith, cell_within cells c v e)

  -- another content is in its cell alone
  pub refilled_same : (cells : Cells X) (x : X) (c : ℕ) (v : X) → content_at cells c ≡ Some v → content_at (refill x c cells) c ≡ Some x
  refilled_same [] x c v e = absurd (cc)
  refilled_same (None ∷ cells) x zero v e = absurd (cc)
  refilled_same (Some cell ∷ cells) x zero v e = refl
  refilled_same (o ∷ cells) x (suc c) v e = refilled_same cells x c v e

  pub refilled_other : (cells : Cells X) (x : X) (c d : ℕ) → d ≢ c → content_at (refill x c cells) d ≡ content_at cells d
  refilled_other [] x c d ne = refl
  refilled_other (o ∷ cells) x zero zero ne = absurd (ne refl)
  refilled_other (o ∷ cells) x zero (suc d) ne = refl
  refilled_other (o ∷ cells) x (suc c) zero ne = refl
  refilled_other (o ∷ cells) x (suc c) (suc d) ne = refilled_other cells x c d (λ e. ne (ap suc e))

-- How slots lie in a block, before and after one of them changes.
use Rattle.std.proofs.Common.{◌≡◌, ℕ, zero, suc, ◌+◌, ◌<◌, ◌≤◌, ◌^◌, List, [], ◌∷◌, ◌++◌, length, replicate, set, take, Option, Some, None, slice_get, refl, sym, ap, ◌∙◌, arith}
use Rattle.std.proofs.lemmas.Option.{slice_get_within, same_Some}
use Rattle.std.proofs.lemmas.List.{length-set, length-append, length-take}
use Rattle.slot_arena.specs.Laid.{laid, values_in, IsLaid}
use Rattle.slot_arena.proofs.Lists.{slice_get_push, slice_get_some}

module _ {S : Type 0} where
  pub length-laid : (values : List S) (count : ℕ) → length (laid values count) ≡ count
  length-laid [] zero = refl
  length-laid [] (suc count) = ap suc (length-laid [] count)
  length-laid (value ∷ values) zero = refl
  length-laid (value ∷ values) (suc count) = ap suc (length-laid values count)

  pub values_in-laid : (values : List S) (count : ℕ) → length values ≤ count → values_in (laid values count) ≡ values
  values_in-laid [] zero fits = refl
  values_in-laid [] (suc count) fits = values_in-laid [] count (omega arith)
  values_in-laid (value ∷ values) zero fits = absurd (omega arith)
  values_in-laid (value ∷ values) (suc count) fits = ap (λ more. value ∷ more) (values_in-laid values count (omega arith))

  pub length-values_in : (places : List (Option S)) → length (values_in places) ≤ length places
  length-values_in [] = omega arith
  length-values_in (None ∷ places) = omega (arith, length-values_in places)
  length-values_in (Some value ∷ places) = omega (arith, length-values_in places)

  pub get-laid : (values : List S) (count i : ℕ) (value : S) → length values ≤ count → slice_get values i ≡ Some value → slice_get (laid values count) i ≡ Some (Some value)
  get-laid [] count i value fits is = absurd (omega (arith, slice_get_within [] i value is))
  get-laid (first ∷ values) zero i value fits is = absurd (omega arith)
  get-laid (first ∷ values) (suc count) zero value fits is = ap Some is
  get-laid (first ∷ values) (suc count) (suc i) value fits is = get-laid values count i value (omega arith) is

  pub get-laid_back : (values : List S) (count i : ℕ) (value : S) → slice_get (laid values count) i ≡ Some (Some value) → slice_get values i ≡ Some value
  get-laid_back [] zero i value is = cc
  get-laid_back [] (suc count) zero value is = cc
  get-laid_back [] (suc count) (suc i) value is = get-laid_back [] count i value is
  get-laid_back (first ∷ values) zero i value is = cc
  get-laid_back (first ∷ values) (suc count) zero value is = cc
  get-laid_back (first ∷ values) (suc count) (suc i) value is = get-laid_back values count i value is

  pub get-laid_next : (values : List S) (count : ℕ) → length values < count → slice_get (laid values count) (length values) ≡ Some None
  get-laid_next [] zero fits = absurd (omega arith)
  get-laid_next [] (suc count) fits = refl
  get-laid_next (value ∷ values) zero fits = absurd (omega arith)
  get-laid_next (value ∷ values) (suc count) fits = get-laid_next values count (omega arith)

  pub set-laid : (values : List S) (count i : ℕ) (value : S) → i < length values → set (laid values count) i (Some value) ≡ laid (set values i value) count
  set-laid [] count i value within = absurd (omega arith)
  set-laid (first ∷ values) zero zero value within = refl
  set-laid (first ∷ values) zero (suc i) value within = refl
  set-laid (first ∷ values) (suc count) zero value within = refl
  set-laid (first ∷ values) (suc count) (suc i) value within = ap (λ more. Some first ∷ more) (set-laid values count i value (omega arith))

  pub set-laid_next : (values : List S) (count : ℕ) (value : S) → length values < count → set (laid values count) (length values) (Some value) ≡ laid (values ++ value ∷ []) count
  set-laid_next [] zero value fits = absurd (omega arith)
  set-laid_next [] (suc count) value fits = refl
  set-laid_next (first ∷ values) zero value fits = absurd (omega arith)
  set-laid_next (first ∷ values) (suc count) value fits = ap (λ more. Some first ∷ more) (set-laid_next values count value (omega arith))

  pub set-laid_last : (values : List S) (count : ℕ) (value : S) → length values < count → set (laid (values ++ value ∷ []) count) (length values) None ≡ laid values count
  set-laid_last [] zero value fits = absurd (omega arith)
  set-laid_last [] (suc count) value fits = refl
  set-laid_last (first ∷ values) zero value fits = absurd (omega arith)
  set-laid_last (first ∷ values) (suc count) value fits = ap (λ more. Some first ∷ more) (set-laid_last values count value (omega arith))

pub set_set : {X : Type 0} (xs : List X) (i : ℕ) (x y : X) → set (set xs i x) i y ≡ set xs i y
set_set [] i x y = refl
set_set (z ∷ zs) zero x y = refl
set_set (z ∷ zs) (suc i) x y = ap (λ more. z ∷ more) (set_set zs i x y)

-- a list with an element has a last one
split_last : {X : Type 0} (xs : List X) (k : ℕ) → length xs ≡ suc k → (ys : List X) × (x : X) × (xs ≡ ys ++ x ∷ []) × (length ys ≡ k)
split_last [] k long = absurd (omega arith)
split_last (x ∷ []) k long = ([], x, refl, omega arith)
split_last (x ∷ y ∷ ys) k long =
    let rest = split_last (y ∷ ys) (length ys) refl in
    let longer : suc (length rest.0) ≡ k = omega (arith, rest.3) in
    (x ∷ rest.0, rest.1, ap (λ more. x ∷ more) rest.2, longer)

module _ {S : Type 0} where
  -- places that lie so, by the values
  pub IsLaid-of : (places : List (Option S)) (values : List S) (used capacity : ℕ) → places ≡ laid values capacity → used ≡ length values → used ≤ capacity → capacity < 2 ^ 63
      → IsLaid places used capacity
  IsLaid-of places values used capacity lie counted within small =
      let same : values_in places ≡ values = ap values_in lie ∙ values_in-laid values capacity (omega arith) in
      record { lie = rw same lie; counted = rw same counted; within = within; small = small }

  pub values_in-of : (places : List (Option S)) (values : List S) (capacity : ℕ) → places ≡ laid values capacity → length values ≤ capacity → values_in places ≡ values
  values_in-of places values capacity lie fits = ap values_in lie ∙ values_in-laid values capacity fits

  pub IsLaid-new : (places : List (Option S)) (capacity : ℕ) → capacity < 2 ^ 63 → places ≡ replicate capacity None → IsLaid places 0 capacity
  IsLaid-new places capacity small empty = IsLaid-of places [] 0 capacity empty refl (omega arith) small

module _ {S : Type 0} (places : List (Option S)) (used capacity : ℕ) (lie : IsLaid places used capacity) where
  abbrev values : List S
  values = values_in places

  pub IsLaid-length : length places ≡ capacity
  IsLaid-length = ap length lie.lie ∙ length-laid values capacity

  pub IsLaid-all : places ≡ laid values (length places)
  IsLaid-all = lie.lie ∙ ap (λ k. laid values k) (sym IsLaid-length)

  pub IsLaid-found : (i : ℕ) → i < length values → (x : S) × (slice_get places i ≡ Some (Some x)) × (slice_get values i ≡ Some x)
  IsLaid-found i within =
      let fits : length values ≤ capacity = omega (arith, lie.counted, lie.within) in
      let some = slice_get_some values i within in
      (some.0, ap (λ p. slice_get p i) lie.lie ∙ get-laid values capacity i some.0 fits some.1, some.1)

  pub IsLaid-read : (i : ℕ) (x : S) → slice_get places i ≡ Some (Some x) → slice_get values i ≡ Some x
  IsLaid-read i x is = get-laid_back values capacity i x (sym (ap (λ p. slice_get p i) lie.lie) ∙ is)

  pub IsLaid-next : used < capacity → slice_get places used ≡ Some None
  IsLaid-next room = ap (λ p. slice_get p used) lie.lie ∙ ap (λ i. slice_get (laid values capacity) i) lie.counted ∙ get-laid_next values capacity (omega (arith, lie.counted))

  module _ (i : ℕ) (x : S) (within : i < length values) where
    set_laid : set places i (Some x) ≡ laid (set values i x) capacity
    set_laid = ap (λ p. set p i (Some x)) lie.lie ∙ set-laid values capacity i x within

    pub IsLaid-set : IsLaid (set places i (Some x)) used capacity
    IsLaid-set = IsLaid-of (set places i (Some x)) (set values i x) used capacity set_laid (lie.counted ∙ sym (length-set values i x)) lie.within lie.small

    pub values_in-set : values_in (set places i (Some x)) ≡ set values i x
    values_in-set = values_in-of (set places i (Some x)) (set values i x) capacity set_laid (omega (arith, lie.counted, lie.within, length-set values i x))

  module _ (x : S) (room : used < capacity) where
    push_laid : set places used (Some x) ≡ laid (values ++ x ∷ []) capacity
    push_laid = ap (λ p. set p used (Some x)) lie.lie ∙ ap (λ i. set (laid values capacity) i (Some x)) lie.counted ∙ set-laid_next values capacity x (omega (arith, lie.counted))

    pub IsLaid-push : IsLaid (set places used (Some x)) (used + 1) capacity
    IsLaid-push = IsLaid-of (set places used (Some x)) (values ++ x ∷ []) (used + 1) capacity push_laid (omega (arith, lie.counted, length-append values (x ∷ []))) (omega arith) lie.small

    pub values_in-push : values_in (set places used (Some x)) ≡ values ++ x ∷ []
    values_in-push = values_in-of (set places used (Some x)) (values ++ x ∷ []) capacity push_laid (omega (arith, lie.counted, length-append values (x ∷ [])))

  -- the last value is taken out
  module _ (k : ℕ) (some : used ≡ suc k) where
    abbrev last : (ys : List S) × (x : S) × (values ≡ ys ++ x ∷ []) × (length ys ≡ k)
    last = split_last values k (sym lie.counted ∙ some)

    pop_laid : set places k None ≡ laid last.0 capacity
    pop_laid = ap (λ p. set p k None) (lie.lie ∙ ap (λ v. laid v capacity) last.2) ∙ ap (λ i. set (laid (last.0 ++ last.1 ∷ []) capacity) i None) (sym last.3)
        ∙ set-laid_last last.0 capacity last.1 (omega (arith, last.3, lie.within))

    pub IsLaid-pop : IsLaid (set places k None) k capacity
    IsLaid-pop = IsLaid-of (set places k None) last.0 k capacity pop_laid (sym last.3) (omega (arith, lie.within)) lie.small

    pub IsLaid-last : (x : S) × (slice_get places k ≡ Some (Some x)) × (values ≡ values_in (set places k None) ++ x ∷ [])
    IsLaid-last =
        let found = IsLaid-found k (omega (arith, lie.counted)) in
        let taken : values_in (set places k None) ≡ last.0 = values_in-of (set places k None) last.0 capacity pop_laid (omega (arith, last.3, lie.within)) in
        let same : found.0 ≡ last.1 = same_Some found.0 last.1 (sym found.2 ∙ ap (λ v. slice_get v k) last.2 ∙ ap (λ i. slice_get (last.0 ++ last.1 ∷ []) i) (sym last.3) ∙ slice_get_push last.0 last.1) in
        (found.0, found.1, last.2 ∙ (λ j. sym taken j ++ sym same j ∷ []))

-- the first i places are emptied
abbrev pub emptied : {S : Type 0} → ℕ → List (Option S) → List (Option S)
emptied zero places = places
emptied (suc i) [] = []
emptied (suc i) (place ∷ places) = None ∷ emptied i places

module _ {S : Type 0} where
  pub get-emptied : (i : ℕ) (places : List (Option S)) → slice_get (emptied i places) i ≡ slice_get places i
  get-emptied zero places = refl
  get-emptied (suc i) [] = refl
  get-emptied (suc i) (place ∷ places) = get-emptied i places

  pub set-emptied : (i : ℕ) (places : List (Option S)) → set (emptied i places) i None ≡ emptied (suc i) places
  set-emptied zero [] = refl
  set-emptied zero (place ∷ places) = refl
  set-emptied (suc i) [] = refl
  set-emptied (suc i) (place ∷ places) = ap (λ more. None ∷ more) (set-emptied i places)

  pub emptied-laid : (values : List S) (count : ℕ) → length values ≤ count → emptied (length values) (laid values count) ≡ replicate count None
  emptied-laid [] count fits = refl
  emptied-laid (value ∷ values) zero fits = absurd (omega arith)
  emptied-laid (value ∷ values) (suc count) fits = ap (λ more. None ∷ more) (emptied-laid values count (omega arith))

  push-take : (xs : List S) (i : ℕ) (x : S) → slice_get xs i ≡ Some x → take (suc i) xs ≡ take i xs ++ x ∷ []
  push-take [] i x is = absurd (omega (arith, slice_get_within [] i x is))
  push-take (y ∷ ys) zero x is = (λ j. same_Some y x is j ∷ [])
  push-take (y ∷ ys) (suc i) x is = ap (λ more. y ∷ more) (push-take ys i x is)

-- one value is moved from its place to the same place of other memory
module _ {S : Type 0} (places : List (Option S)) (count i : ℕ) (lie : places ≡ laid (values_in places) (length places)) (within : i < length (values_in places)) (room : length (values_in places) ≤ count) where
  abbrev all : List S
  all = values_in places

  fewer : length all ≤ length places
  fewer = length-values_in places

  long : i ≡ length (take i all)
  long = omega (arith, length-take i all)

  abbrev moved_value : (x : S) × (slice_get all i ≡ Some x)
  moved_value = slice_get_some all i within

  pub moves : (x : S) × (slice_get (emptied i places) i ≡ Some (Some x)) × (slice_get (laid (take i all) count) i ≡ Some None) × (set (laid (take i all) count) i (Some x) ≡ laid (take (i + 1) all) count)
  moves =
      let x = moved_value.0 in
      let there : slice_get (emptied i places) i ≡ Some (Some x) = get-emptied i places ∙ ap (λ p. slice_get p i) lie ∙ get-laid all (length places) i x fewer moved_value.1 in
      let free : slice_get (laid (take i all) count) i ≡ Some None = ap (λ k. slice_get (laid (take i all) count) k) long ∙ get-laid_next (take i all) count (omega (arith, length-take i all)) in
      let next : i + 1 ≡ suc i = omega arith in
      let filled : set (laid (take i all) count) i (Some x) ≡ laid (take (i + 1) all) count =
      ap (λ k. set (laid (take i all) count) k (Some x)) long ∙ set-laid_next (take i all) count x (omega (arith, length-take i all))
      ∙ ap (λ v. laid v count) (sym (push-take all i x moved_value.1) ∙ ap (λ k. take k all) (sym next)) in
      (x, there, free, filled)

  pub moves_out : set (emptied i places) i None ≡ emptied (i + 1) places
  moves_out = let next : suc i ≡ i + 1 = omega arith in set-emptied i places ∙ ap (λ k. emptied k places) next

-- all values are moved
pub moved_all : {S : Type 0} (places : List (Option S)) → places ≡ laid (values_in places) (length places) → emptied (length (values_in places)) places ≡ replicate (length places) None
moved_all places lie = ap (λ p. emptied (length (values_in places)) p) lie ∙ emptied-laid (values_in places) (length places) (length-values_in places)

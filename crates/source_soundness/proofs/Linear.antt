-- The order of a class has the class and all above it, and nothing else.
use Rattle.std.proofs.Common.{◌≡◌, ℕ, zero, suc, ◌<◌, ◌≤◌, Bool, true, false, ◌||◌, ◌==◌, cond, List, [], ◌∷◌, ◌++◌, length, map, take, find, Option, Some, None, refl, sym, ap, subst, ◌∙◌, ◌⊎◌, inl, inr, if◌then◌else◌, nat_lt, slice_get, arith, length-append, le_refl}
use Rattle.std.proofs.lemmas.Bool.Decides.{nat_tests}
use Rattle.std.specs.List.{list_any, list_all, flat_map}
use Rattle.std.specs.Option.{option_map, option_and_then}
use Rattle.std.proofs.lemmas.Bool.{eq-eqb, eqb-true}
use Rattle.std.proofs.lemmas.Option.{same_Some}
use Rattle.py_typed.specs.Classes.{ClassEntry, bases_of, has_class, is_class_under}
use Rattle.py_typed.specs.Order.{all_there, is_free, headless, heads, merge_by, merge, order_by}
use Rattle.py_typed.specs.Laws.{IsClassTree}
use Rattle.py_typed.proofs.FitLemmas.{and_left, and_right, class_under_itself}
use Rattle.py_typed.proofs.ClassLemmas.{under_by_bases, or_cases, or_left, or_right}

-- a class in one of the rows
abbrev pub InRows : ℕ → List (List ℕ) → Type 0
InRows x rows = (row : List ℕ) × (i : ℕ) × (slice_get rows i ≡ Some row) × (has_class x row ≡ true)

-- ---- rows

in_more : (x : ℕ) (xs ys : List ℕ) → has_class x (xs ++ ys) ≡ true → (has_class x xs ≡ true) ⊎ (has_class x ys ≡ true)
in_more x [] ys h = inr h
in_more x (y ∷ xs) ys h = by (or_cases (y == x) (has_class x (xs ++ ys)) h) (in_more x xs ys)
  where
    by : (((y == x) ≡ true) ⊎ (has_class x (xs ++ ys) ≡ true)) → (has_class x (xs ++ ys) ≡ true → (has_class x xs ≡ true) ⊎ (has_class x ys ≡ true)) → (((y == x) || has_class x xs) ≡ true) ⊎ (has_class x ys ≡ true)
    by (inl e) r = inl (or_left (y == x) (has_class x xs) e)
    by (inr e) r = onward (r e)
      where
        onward : (has_class x xs ≡ true) ⊎ (has_class x ys ≡ true) → (((y == x) || has_class x xs) ≡ true) ⊎ (has_class x ys ≡ true)
        onward (inl f) = inl (or_right (y == x) (has_class x xs) f)
        onward (inr f) = inr f

of_left : (x : ℕ) (xs ys : List ℕ) → has_class x xs ≡ true → has_class x (xs ++ ys) ≡ true
of_left x [] ys h = absurd (cc)
of_left x (y ∷ xs) ys h = by (or_cases (y == x) (has_class x xs) h) (of_left x xs ys)
  where
    by : (((y == x) ≡ true) ⊎ (has_class x xs ≡ true)) → (has_class x xs ≡ true → has_class x (xs ++ ys) ≡ true) → ((y == x) || has_class x (xs ++ ys)) ≡ true
    by (inl e) r = or_left (y == x) (has_class x (xs ++ ys)) e
    by (inr e) r = or_right (y == x) (has_class x (xs ++ ys)) (r e)

of_right : (x : ℕ) (xs ys : List ℕ) → has_class x ys ≡ true → has_class x (xs ++ ys) ≡ true
of_right x [] ys h = h
of_right x (y ∷ xs) ys h = or_right (y == x) (has_class x (xs ++ ys)) (of_right x xs ys h)

-- rows as one
abbrev pub joined : List (List ℕ) → List ℕ
joined rows = flat_map (λ row. row) rows

-- ---- the merge has what the rows have

in_headless : (x c : ℕ) (row : List ℕ) → has_class x (headless c row) ≡ true → has_class x row ≡ true
in_headless x c [] h = h
in_headless x c (d ∷ row) h = by (d == c) h
  where
    by : (b : Bool) → has_class x (if b then row else d ∷ row) ≡ true → ((d == x) || has_class x row) ≡ true
    by true h = or_right (d == x) (has_class x row) h
    by false h = h

same_or_in : (x c : ℕ) (row : List ℕ) → has_class x row ≡ true → (x ≡ c) ⊎ (has_class x (headless c row) ≡ true)
same_or_in x c [] h = absurd (cc)
same_or_in x c (d ∷ row) h = by (d == c) refl (or_cases (d == x) (has_class x row) h)
  where
    by : (b : Bool) → (d == c) ≡ b → (((d == x) ≡ true) ⊎ (has_class x row ≡ true)) → (x ≡ c) ⊎ (has_class x (if b then row else d ∷ row) ≡ true)
    by true q (inl e) = inl (sym (eqb-true d x e) ∙ eqb-true d c q)
    by true q (inr e) = inr e
    by false q h' = inr h

all_headless : (x c : ℕ) (rows : List (List ℕ)) → has_class x (joined (map (headless c) rows)) ≡ true → has_class x (joined rows) ≡ true
all_headless x c [] h = h
all_headless x c (row ∷ rows) h = by (λ e. all_headless x c rows e) (in_more x (headless c row) (joined (map (headless c) rows)) h)
  where
    by : (has_class x (joined (map (headless c) rows)) ≡ true → has_class x (joined rows) ≡ true) → (has_class x (headless c row) ≡ true) ⊎ (has_class x (joined (map (headless c) rows)) ≡ true) → has_class x (row ++ joined rows) ≡ true
    by r (inl e) = of_left x row (joined rows) (in_headless x c row e)
    by r (inr e) = of_right x row (joined rows) (r e)

same_or_in_all : (x c : ℕ) (rows : List (List ℕ)) → has_class x (joined rows) ≡ true → (x ≡ c) ⊎ (has_class x (joined (map (headless c) rows)) ≡ true)
same_or_in_all x c [] h = absurd (cc)
same_or_in_all x c (row ∷ rows) h = by (λ e. same_or_in_all x c rows e) (in_more x row (joined rows) h)
  where
    first : (x ≡ c) ⊎ (has_class x (headless c row) ≡ true) → (x ≡ c) ⊎ (has_class x (headless c row ++ joined (map (headless c) rows)) ≡ true)
    first (inl e) = inl e
    first (inr e) = inr (of_left x (headless c row) (joined (map (headless c) rows)) e)

    rest : (x ≡ c) ⊎ (has_class x (joined (map (headless c) rows)) ≡ true) → (x ≡ c) ⊎ (has_class x (headless c row ++ joined (map (headless c) rows)) ≡ true)
    rest (inl e) = inl e
    rest (inr e) = inr (of_right x (headless c row) (joined (map (headless c) rows)) e)

    by : (has_class x (joined rows) ≡ true → (x ≡ c) ⊎ (has_class x (joined (map (headless c) rows)) ≡ true)) → (has_class x row ≡ true) ⊎ (has_class x (joined rows) ≡ true) → (x ≡ c) ⊎ (has_class x (headless c row ++ joined (map (headless c) rows)) ≡ true)
    by r (inl e) = first (same_or_in x c row e)
    by r (inr e) = rest (r e)

found_in : (test : ℕ → Bool) (xs : List ℕ) (c : ℕ) → find test xs ≡ Some c → has_class c xs ≡ true
found_in test [] c e = absurd (cc)
found_in test (x ∷ xs) c e = by (test x) e (λ f. found_in test xs c f)
  where
    by : (b : Bool) → cond b (Some x) (find test xs) ≡ Some c → (find test xs ≡ Some c → has_class c xs ≡ true) → ((x == c) || has_class c xs) ≡ true
    by true e r = or_left (x == c) (has_class c xs) (eq-eqb x c (same_Some x c e))
    by false e r = or_right (x == c) (has_class c xs) (r e)

in_first : (x : ℕ) (row : List ℕ) → has_class x (take 1 row) ≡ true → has_class x row ≡ true
in_first x [] h = h
in_first x (d ∷ row) h = by (or_cases (d == x) false h)
  where
    by : ((d == x) ≡ true) ⊎ (false ≡ true) → ((d == x) || has_class x row) ≡ true
    by (inl e) = or_left (d == x) (has_class x row) e
    by (inr e) = absurd (cc)

head_in : (x : ℕ) (rows : List (List ℕ)) → has_class x (heads rows) ≡ true → has_class x (joined rows) ≡ true
head_in x [] h = h
head_in x (row ∷ rows) h = by (λ e. head_in x rows e) (in_more x (take 1 row) (heads rows) h)
  where
    by : (has_class x (heads rows) ≡ true → has_class x (joined rows) ≡ true) → (has_class x (take 1 row) ≡ true) ⊎ (has_class x (heads rows) ≡ true) → has_class x (row ++ joined rows) ≡ true
    by r (inl e) = of_left x row (joined rows) (in_first x row e)
    by r (inr e) = of_right x row (joined rows) (r e)

no_heads : (x : ℕ) (rows : List (List ℕ)) → heads rows ≡ [] → has_class x (joined rows) ≡ true → ⊥
no_heads x [] e h = cc
no_heads x ([] ∷ rows) e h = no_heads x rows e h
no_heads x ((d ∷ row) ∷ rows) e h = cc

-- ---- lengths

headless_le : (c : ℕ) (row : List ℕ) → length (headless c row) ≤ length row
headless_le c [] = omega arith
headless_le c (d ∷ row) = by (d == c)
  where
    by : (b : Bool) → length (if b then row else d ∷ row) ≤ suc (length row)
    by true = omega arith
    by false = omega arith

all_le : (c : ℕ) (rows : List (List ℕ)) → length (joined (map (headless c) rows)) ≤ length (joined rows)
all_le c [] = omega arith
all_le c (row ∷ rows) =
    let a = length-append (headless c row) (joined (map (headless c) rows)) in
    let b = length-append row (joined rows) in
    let l = headless_le c row in
    let r = all_le c rows in
    omega (arith, a, b, l, r)

first_less : (c : ℕ) (row : List ℕ) → has_class c (take 1 row) ≡ true → length (headless c row) < length row
first_less c [] h = absurd (cc)
first_less c (d ∷ row) h = by (d == c) (or_cases (d == c) false h)
  where
    by : (b : Bool) → (b ≡ true) ⊎ (false ≡ true) → length (if b then row else d ∷ row) < suc (length row)
    by true e = omega arith
    by false (inl e) = absurd (cc)
    by false (inr e) = absurd (cc)

shorter : (c : ℕ) (rows : List (List ℕ)) → has_class c (heads rows) ≡ true → length (joined (map (headless c) rows)) < length (joined rows)
shorter c [] h = absurd (cc)
shorter c (row ∷ rows) h = by (λ e. shorter c rows e) (in_more c (take 1 row) (heads rows) h)
  where
    by : (has_class c (heads rows) ≡ true → length (joined (map (headless c) rows)) < length (joined rows)) → (has_class c (take 1 row) ≡ true) ⊎ (has_class c (heads rows) ≡ true) → length (headless c row ++ joined (map (headless c) rows)) < length (row ++ joined rows)
    by r (inl e) =
        let a = length-append (headless c row) (joined (map (headless c) rows)) in
        let b = length-append row (joined rows) in
        let l = first_less c row e in
        let k = all_le c rows in
        omega (arith, a, b, l, k)
    by r (inr e) =
        let a = length-append (headless c row) (joined (map (headless c) rows)) in
        let b = length-append row (joined rows) in
        let l = headless_le c row in
        let k = r e in
        omega (arith, a, b, l, k)

in_short : (x : ℕ) (xs : List ℕ) → length xs ≤ 0 → has_class x xs ≡ true → ⊥
in_short x [] l h = cc
in_short x (y ∷ xs) l h = omega (arith, l)

-- ---- the merge

-- a step of a merge takes a head, or ends where there is none
data Steps (steps : ℕ) (rows : List (List ℕ)) (result : List ℕ) : Type 0 where
  ended : heads rows ≡ [] → result ≡ [] → Steps steps rows result
  taken : (c : ℕ) (more : List ℕ) → has_class c (heads rows) ≡ true → merge_by steps (map (headless c) rows) ≡ Some more → result ≡ c ∷ more → Steps steps rows result

some_is : {A : Type 0} (a b : A) → Some a ≡ Some b → b ≡ a
some_is a b e = cc

merged : (steps : ℕ) (rows : List (List ℕ)) (result : List ℕ) → merge_by (suc steps) rows ≡ Some result → Steps steps rows result
merged steps rows result h = by (heads rows) refl h
  where
    more_of : (c : ℕ) (o : Option (List ℕ)) → has_class c (heads rows) ≡ true → merge_by steps (map (headless c) rows) ≡ o → option_map (λ more. c ∷ more) o ≡ Some result → Steps steps rows result
    more_of c None i q e = absurd (cc)
    more_of c (Some more) i q e = taken c more i q (some_is (c ∷ more) result e)

    found : (o : Option ℕ) → find (is_free rows) (heads rows) ≡ o → option_and_then (λ c. option_map (λ more. c ∷ more) (merge_by steps (map (headless c) rows))) o ≡ Some result → Steps steps rows result
    found None q e = absurd (cc)
    found (Some c) q e = more_of c (merge_by steps (map (headless c) rows)) (found_in (is_free rows) (heads rows) c q) refl e

    by : (hs : List ℕ) → heads rows ≡ hs → merge_by (suc steps) rows ≡ Some result → Steps steps rows result
    by [] q e = ended q (some_is [] result (rw q at e))
    by (c ∷ cs) q e = found (find (is_free rows) (heads rows)) refl (subst (λ x. option_and_then (λ c. option_map (λ more. c ∷ more) (merge_by steps (map (headless c) rows))) (find (is_free rows) x) ≡ Some result) (sym q) (rw q at e))

pub merged_from : (steps : ℕ) (rows : List (List ℕ)) (result : List ℕ) (x : ℕ) → merge_by steps rows ≡ Some result → has_class x result ≡ true → has_class x (joined rows) ≡ true
merged_from zero rows result x e h = absurd (cc (sym (ap (has_class x) (some_is [] result e)) ∙ h))
merged_from (suc steps) rows result x e h = by (merged steps rows result e) (λ c more f k. merged_from steps (map (headless c) rows) more x f k)
  where
    by : Steps steps rows result → ((c : ℕ) (more : List ℕ) → merge_by steps (map (headless c) rows) ≡ Some more → has_class x more ≡ true → has_class x (joined (map (headless c) rows)) ≡ true) → has_class x (joined rows) ≡ true
    by (ended q r) rec = absurd (cc (sym (ap (has_class x) r) ∙ h))
    by (taken c more i q r) rec = either (or_cases (c == x) (has_class x more) (sym (ap (has_class x) r) ∙ h))
      where
        either : ((c == x) ≡ true) ⊎ (has_class x more ≡ true) → has_class x (joined rows) ≡ true
        either (inl k) = subst (λ z. has_class z (joined rows) ≡ true) (eqb-true c x k) (head_in c rows i)
        either (inr k) = all_headless x c rows (rec c more q k)

pub merged_all : (steps : ℕ) (rows : List (List ℕ)) (result : List ℕ) (x : ℕ) → merge_by steps rows ≡ Some result → length (joined rows) ≤ steps → has_class x (joined rows) ≡ true → has_class x result ≡ true
merged_all zero rows result x e l h = absurd (in_short x (joined rows) l h)
merged_all (suc steps) rows result x e l h = by (merged steps rows result e) (λ c more f k i. merged_all steps (map (headless c) rows) more x f k i)
  where
    by : Steps steps rows result → ((c : ℕ) (more : List ℕ) → merge_by steps (map (headless c) rows) ≡ Some more → length (joined (map (headless c) rows)) ≤ steps → has_class x (joined (map (headless c) rows)) ≡ true → has_class x more ≡ true) → has_class x result ≡ true
    by (ended q r) rec = absurd (no_heads x rows q h)
    by (taken c more i q r) rec = ap (has_class x) r ∙ either (same_or_in_all x c rows h)
      where
        either : (x ≡ c) ⊎ (has_class x (joined (map (headless c) rows)) ≡ true) → ((c == x) || has_class x more) ≡ true
        either (inl k) = or_left (c == x) (has_class x more) (eq-eqb c x (sym k))
        either (inr k) = or_right (c == x) (has_class x more) (rec c more q (let s = shorter c rows i in omega (arith, s, l)) k)

-- ---- orders

-- each class has an order there, in the place of the class
rows_there : (f : ℕ → Option (List ℕ)) (bs : List ℕ) (rows : List (List ℕ)) → all_there (map f bs) ≡ Some rows → (x b : ℕ) (row : List ℕ) → has_class b bs ≡ true → f b ≡ Some row → has_class x row ≡ true → has_class x (joined rows) ≡ true
rows_there f [] rows e x b row h q k = absurd (cc)
rows_there f (d ∷ bs) rows e x b row h q k = by (f d) refl (all_there (map f bs)) refl (λ rs g i. rows_there f bs rs g x b row i q k) e
  where
    by : (o : Option (List ℕ)) → f d ≡ o → (p : Option (List (List ℕ))) → all_there (map f bs) ≡ p → ((rs : List (List ℕ)) → all_there (map f bs) ≡ Some rs → has_class b bs ≡ true → has_class x (joined rs) ≡ true) → option_and_then (λ a. option_map (λ more. a ∷ more) p) o ≡ Some rows → has_class x (joined rows) ≡ true
    by None g p g' rec e = absurd (cc)
    by (Some r) g None g' rec e = absurd (cc)
    by (Some r) g (Some rs) g' rec e = ap (λ z. has_class x (joined z)) (some_is (r ∷ rs) rows e) ∙ either (or_cases (d == b) (has_class b bs) h)
      where
        either : ((d == b) ≡ true) ⊎ (has_class b bs ≡ true) → has_class x (r ++ joined rs) ≡ true
        either (inl i) = of_left x r (joined rs) (ap (has_class x) (some_is row r (sym q ∙ ap f (sym (eqb-true d b i)) ∙ g)) ∙ k)
        either (inr i) = of_right x r (joined rs) (rec rs g' i)

row_of : (f : ℕ → Option (List ℕ)) (bs : List ℕ) (rows : List (List ℕ)) → all_there (map f bs) ≡ Some rows → (b : ℕ) → has_class b bs ≡ true → (row : List ℕ) × (f b ≡ Some row)
row_of f [] rows e b h = absurd (cc)
row_of f (d ∷ bs) rows e b h = by (f d) refl (all_there (map f bs)) refl (λ rs g i. row_of f bs rs g b i) e
  where
    by : (o : Option (List ℕ)) → f d ≡ o → (p : Option (List (List ℕ))) → all_there (map f bs) ≡ p → ((rs : List (List ℕ)) → all_there (map f bs) ≡ Some rs → has_class b bs ≡ true → (row : List ℕ) × (f b ≡ Some row)) → option_and_then (λ a. option_map (λ more. a ∷ more) p) o ≡ Some rows → (row : List ℕ) × (f b ≡ Some row)
    by None g p g' rec e = absurd (cc)
    by (Some r) g None g' rec e = absurd (cc)
    by (Some r) g (Some rs) g' rec e = either (or_cases (d == b) (has_class b bs) h)
      where
        either : ((d == b) ≡ true) ⊎ (has_class b bs ≡ true) → (row : List ℕ) × (f b ≡ Some row)
        either (inl i) = (r, ap f (sym (eqb-true d b i)) ∙ g)
        either (inr i) = rec rs g' i

from_row : (f : ℕ → Option (List ℕ)) (bs : List ℕ) (rows : List (List ℕ)) → all_there (map f bs) ≡ Some rows → (x : ℕ) → has_class x (joined rows) ≡ true → (b : ℕ) × (row : List ℕ) × (has_class b bs ≡ true) × (f b ≡ Some row) × (has_class x row ≡ true)
from_row f [] rows e x h = absurd (cc (sym (ap (λ z. has_class x (joined z)) (some_is [] rows e)) ∙ h))
from_row f (d ∷ bs) rows e x h = by (f d) refl (all_there (map f bs)) refl (λ rs g i. from_row f bs rs g x i) e
  where
    by : (o : Option (List ℕ)) → f d ≡ o → (p : Option (List (List ℕ))) → all_there (map f bs) ≡ p → ((rs : List (List ℕ)) → all_there (map f bs) ≡ Some rs → has_class x (joined rs) ≡ true → (b : ℕ) × (row : List ℕ) × (has_class b bs ≡ true) × (f b ≡ Some row) × (has_class x row ≡ true))
        → option_and_then (λ a. option_map (λ more. a ∷ more) p) o ≡ Some rows → (b : ℕ) × (row : List ℕ) × (((d == b) || has_class b bs) ≡ true) × (f b ≡ Some row) × (has_class x row ≡ true)
    by None g p g' rec e = absurd (cc)
    by (Some r) g None g' rec e = absurd (cc)
    by (Some r) g (Some rs) g' rec e = either (in_more x r (joined rs) (sym (ap (λ z. has_class x (joined z)) (some_is (r ∷ rs) rows e)) ∙ h))
      where
        either : (has_class x r ≡ true) ⊎ (has_class x (joined rs) ≡ true) → (b : ℕ) × (row : List ℕ) × (((d == b) || has_class b bs) ≡ true) × (f b ≡ Some row) × (has_class x row ≡ true)
        either (inl i) = (d, r, or_left (d == d) (has_class d bs) (eq-eqb d d refl), g, i)
        either (inr i) = let t : _ = rec rs g' i in (t.0, t.1, or_right (d == t.0) (has_class t.0 bs) t.2, t.3, t.4)

joined_with : (x : ℕ) (rows : List (List ℕ)) (row : List ℕ) → has_class x (joined (rows ++ row ∷ [])) ≡ true → (has_class x (joined rows) ≡ true) ⊎ (has_class x row ≡ true)
joined_with x [] row h = by (in_more x row [] h)
  where
    by : (has_class x row ≡ true) ⊎ (has_class x [] ≡ true) → (has_class x [] ≡ true) ⊎ (has_class x row ≡ true)
    by (inl e) = inr e
    by (inr e) = absurd (cc)
joined_with x (r ∷ rows) row h = by (λ e. joined_with x rows row e) (in_more x r (joined (rows ++ row ∷ [])) h)
  where
    by : (has_class x (joined (rows ++ row ∷ [])) ≡ true → (has_class x (joined rows) ≡ true) ⊎ (has_class x row ≡ true)) → (has_class x r ≡ true) ⊎ (has_class x (joined (rows ++ row ∷ [])) ≡ true) → (has_class x (r ++ joined rows) ≡ true) ⊎ (has_class x row ≡ true)
    by rec (inl e) = inl (of_left x r (joined rows) e)
    by rec (inr e) = either (rec e)
      where
        either : (has_class x (joined rows) ≡ true) ⊎ (has_class x row ≡ true) → (has_class x (r ++ joined rows) ≡ true) ⊎ (has_class x row ≡ true)
        either (inl f) = inl (of_right x r (joined rows) f)
        either (inr f) = inr f

with_joined : (x : ℕ) (rows : List (List ℕ)) (row : List ℕ) → has_class x (joined rows) ≡ true → has_class x (joined (rows ++ row ∷ [])) ≡ true
with_joined x [] row h = absurd (cc)
with_joined x (r ∷ rows) row h = by (λ e. with_joined x rows row e) (in_more x r (joined rows) h)
  where
    by : (has_class x (joined rows) ≡ true → has_class x (joined (rows ++ row ∷ [])) ≡ true) → (has_class x r ≡ true) ⊎ (has_class x (joined rows) ≡ true) → has_class x (r ++ joined (rows ++ row ∷ [])) ≡ true
    by rec (inl e) = of_left x r (joined (rows ++ row ∷ [])) e
    by rec (inr e) = of_right x r (joined (rows ++ row ∷ [])) (rec e)

-- an order is its class and a merge
data Orders (classes : List ClassEntry) (l c : ℕ) (row : List ℕ) : Type 0 where
  ordered : (rows : List (List ℕ)) (more : List ℕ) → all_there (map (order_by classes l) (bases_of classes c)) ≡ Some rows → merge (rows ++ bases_of classes c ∷ []) ≡ Some more → row ≡ c ∷ more → Orders classes l c row

orders : (classes : List ClassEntry) (l c : ℕ) (row : List ℕ) → order_by classes (suc l) c ≡ Some row → Orders classes l c row
orders classes l c row h = by (all_there (map (order_by classes l) (bases_of classes c))) refl h
  where
    more_of : (rows : List (List ℕ)) (o : Option (List ℕ)) → all_there (map (order_by classes l) (bases_of classes c)) ≡ Some rows → merge (rows ++ bases_of classes c ∷ []) ≡ o → option_map (λ above. c ∷ above) o ≡ Some row → Orders classes l c row
    more_of rows None q r e = absurd (cc)
    more_of rows (Some more) q r e = ordered rows more q r (some_is (c ∷ more) row e)

    by : (o : Option (List (List ℕ))) → all_there (map (order_by classes l) (bases_of classes c)) ≡ o → option_map (λ above. c ∷ above) (option_and_then (λ rows. merge (rows ++ bases_of classes c ∷ [])) o) ≡ Some row → Orders classes l c row
    by None q e = absurd (cc)
    by (Some rows) q e = more_of rows (merge (rows ++ bases_of classes c ∷ [])) q refl e

module _ (classes : List ClassEntry) (tree : IsClassTree classes) where
  under_itself : (c : ℕ) → is_class_under classes c c ≡ true
  under_itself c = class_under_itself classes c

  any_of : (d b : ℕ) (bs : List ℕ) → has_class b bs ≡ true → is_class_under classes b d ≡ true → list_any (λ x. is_class_under classes x d) bs ≡ true
  any_of d b [] h u = absurd (cc)
  any_of d b (x ∷ bs) h u = by (λ e. any_of d b bs e u) (or_cases (x == b) (has_class b bs) h)
    where
      by : (has_class b bs ≡ true → list_any (λ x. is_class_under classes x d) bs ≡ true) → ((x == b) ≡ true) ⊎ (has_class b bs ≡ true) → (is_class_under classes x d || list_any (λ x. is_class_under classes x d) bs) ≡ true
      by r (inl e) = or_left (is_class_under classes x d) _ (subst (λ z. is_class_under classes z d ≡ true) (sym (eqb-true x b e)) u)
      by r (inr e) = or_right (is_class_under classes x d) _ (r e)

  -- what a base stands under its class does too
  pub by_base : (c b d : ℕ) → has_class b (bases_of classes c) ≡ true → is_class_under classes b d ≡ true → is_class_under classes c d ≡ true
  by_base c b d h u = under_by_bases classes c d (tree.falls c) ∙ or_right (c == d) (list_any (λ b. is_class_under classes b d) (bases_of classes c)) (any_of d b (bases_of classes c) h u)

  -- all of an order are above its class
  pub order_under : (l c : ℕ) (row : List ℕ) (x : ℕ) → order_by classes l c ≡ Some row → has_class x row ≡ true → is_class_under classes c x ≡ true
  order_under zero c row x e h = by (or_cases (c == x) false (sym (ap (has_class x) (some_is (c ∷ []) row e)) ∙ h))
    where
      by : ((c == x) ≡ true) ⊎ (false ≡ true) → is_class_under classes c x ≡ true
      by (inl q) = subst (λ z. is_class_under classes c z ≡ true) (eqb-true c x q) (under_itself c)
      by (inr q) = absurd (cc)
  order_under (suc l) c row x e h = by (orders classes l c row e) (λ b r g i. order_under l b r x g i)
    where
      by : Orders classes l c row → ((b : ℕ) (r : List ℕ) → order_by classes l b ≡ Some r → has_class x r ≡ true → is_class_under classes b x ≡ true) → is_class_under classes c x ≡ true
      by (ordered rows more q r s) rec = either (or_cases (c == x) (has_class x more) (sym (ap (has_class x) s) ∙ h))
        where
          third : (has_class x (joined rows) ≡ true) ⊎ (has_class x (bases_of classes c) ≡ true) → is_class_under classes c x ≡ true
          third (inl k) = let t : _ = from_row (order_by classes l) (bases_of classes c) rows q x k in by_base c t.0 x t.2 (rec t.0 t.1 t.3 t.4)
          third (inr k) = by_base c x x k (under_itself x)

          either : ((c == x) ≡ true) ⊎ (has_class x more ≡ true) → is_class_under classes c x ≡ true
          either (inl k) = subst (λ z. is_class_under classes c z ≡ true) (eqb-true c x k) (under_itself c)
          either (inr k) = third (joined_with x rows (bases_of classes c) (merged_from _ (rows ++ bases_of classes c ∷ []) more x r k))

  -- and all above the class are in its order
  pub order_has : (l c : ℕ) (row : List ℕ) (x : ℕ) → c ≤ l → order_by classes l c ≡ Some row → is_class_under classes c x ≡ true → has_class x row ≡ true
  order_has zero c row x le e u = ap (has_class x) (some_is (c ∷ []) row e) ∙ by (or_cases (c == x) (list_any (λ b. is_class_under classes b x) (bases_of classes c)) (sym (under_by_bases classes c x (tree.falls c)) ∙ u))
    where
      no_base : (bs : List ℕ) → list_all (λ b. nat_lt b c) bs ≡ true → list_any (λ b. is_class_under classes b x) bs ≡ true → ⊥
      no_base [] f k = cc
      no_base (b ∷ bs) f k = let l = and_left (nat_lt b c) (list_all (λ b. nat_lt b c) bs) f in grind (arith, nat_tests, l, le)

      by : ((c == x) ≡ true) ⊎ (list_any (λ b. is_class_under classes b x) (bases_of classes c) ≡ true) → ((c == x) || false) ≡ true
      by (inl q) = or_left (c == x) false q
      by (inr q) = absurd (no_base (bases_of classes c) (tree.falls c) q)
  order_has (suc l) c row x le e u = by (orders classes l c row e) (λ b r k f i. order_has l b r x k f i)
    where
      base_of : (bs : List ℕ) → list_any (λ b. is_class_under classes b x) bs ≡ true → (b : ℕ) × (has_class b bs ≡ true) × (is_class_under classes b x ≡ true)
      base_of [] k = absurd (cc)
      base_of (b ∷ bs) k = pick (or_cases (is_class_under classes b x) (list_any (λ b. is_class_under classes b x) bs) k) (λ q. base_of bs q)
        where
          pick : (is_class_under classes b x ≡ true) ⊎ (list_any (λ b. is_class_under classes b x) bs ≡ true) → (list_any (λ b. is_class_under classes b x) bs ≡ true → (d : ℕ) × (has_class d bs ≡ true) × (is_class_under classes d x ≡ true)) → (d : ℕ) × (((b == d) || has_class d bs) ≡ true) × (is_class_under classes d x ≡ true)
          pick (inl q) r = (b, or_left (b == b) (has_class b bs) (eq-eqb b b refl), q)
          pick (inr q) r = let t : _ = r q in (t.0, or_right (b == t.0) (has_class t.0 bs) t.1, t.2)

      falls : (b : ℕ) (bs : List ℕ) → has_class b bs ≡ true → list_all (λ b. nat_lt b c) bs ≡ true → nat_lt b c ≡ true
      falls b [] k f = absurd (cc)
      falls b (d ∷ bs) k f = pick (or_cases (d == b) (has_class b bs) k) (λ q g. falls b bs q g)
        where
          pick : ((d == b) ≡ true) ⊎ (has_class b bs ≡ true) → (has_class b bs ≡ true → list_all (λ b. nat_lt b c) bs ≡ true → nat_lt b c ≡ true) → nat_lt b c ≡ true
          pick (inl q) r = subst (λ z. nat_lt z c ≡ true) (eqb-true d b q) (and_left (nat_lt d c) (list_all (λ b. nat_lt b c) bs) f)
          pick (inr q) r = r q (and_right (nat_lt d c) (list_all (λ b. nat_lt b c) bs) f)

      by : Orders classes l c row → ((b : ℕ) (r : List ℕ) → b ≤ l → order_by classes l b ≡ Some r → is_class_under classes b x ≡ true → has_class x r ≡ true) → has_class x row ≡ true
      by (ordered rows more q r s) rec = ap (has_class x) s ∙ either (or_cases (c == x) (list_any (λ b. is_class_under classes b x) (bases_of classes c)) (sym (under_by_bases classes c x (tree.falls c)) ∙ u))
        where
          either : ((c == x) ≡ true) ⊎ (list_any (λ b. is_class_under classes b x) (bases_of classes c) ≡ true) → ((c == x) || has_class x more) ≡ true
          either (inl k) = or_left (c == x) (has_class x more) k
          either (inr k) =
              let b : _ = base_of (bases_of classes c) k in
              let o : _ = row_of (order_by classes l) (bases_of classes c) rows q b.0 b.1 in
              let less = falls b.0 (bases_of classes c) b.1 (tree.falls c) in
              let i = rec b.0 o.0 (grind (arith, nat_tests, less, le)) o.1 b.2 in
              or_right (c == x) (has_class x more)
              (merged_all _ (rows ++ bases_of classes c ∷ []) more x r (le_refl _) (with_joined x rows (bases_of classes c) (rows_there (order_by classes l) (bases_of classes c) rows q x b.0 o.0 b.1 o.1 i)))

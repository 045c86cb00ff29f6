-- The order of a class (C3): it hangs on bases alone, it has no class twice, and that of a class with one base is the class before the
-- order of its base.
use Rattle.std.proofs.Common.{◌≡◌, ℕ, zero, suc, ◌+◌, ◌<◌, ◌≤◌, Bool, true, false, not, ◌&&◌, ◌||◌, ◌==◌, cond, nat_lt, List, [], ◌∷◌, ◌++◌, length, map, drop, find, slice_get, Option, Some, None, is_some, refl, sym, ap, subst, ◌∙◌, ◌⊎◌, if◌then◌else◌, arith, length-append}
use Rattle.std.specs.List.{list_any, list_all, flat_map}
use Rattle.std.specs.Option.{option_map, option_and_then}
use Rattle.std.proofs.lemmas.List.{append_assoc}
use Rattle.std.proofs.lemmas.List.Folds.{list_any-append}
use Rattle.std.proofs.lemmas.Bool.{ltb-true, eqb-true, eq-eqb}
use Rattle.std.proofs.lemmas.Bool.Decides.{nat_tests}
use Rattle.py_typed.specs.Classes.{ClassEntry, bases_in, bases_of, bases_fall, has_class}
use Rattle.py_typed.specs.Laws.{IsClassTree}
use Rattle.py_typed.specs.Order.{all_there, is_free, headless, heads, merge_by, merge, order_by, order, listed_order}
use Rattle.py_typed.proofs.FitLemmas.{and_left, and_right}
use Rattle.py_typed.proofs.ClassLemmas.{choose, under_falls, or_cases, or_left, or_right}
use Rattle.source_soundness.proofs.Linear.{merged_from, order_under}
use Rattle.class_layout.specs.Merging.{behind, is_below, are_below}
use Rattle.class_layout.proofs.MergeLemmas.{step_taken}
use Rattle.py_check_classes.specs.Rows.{differ}
use Rattle.py_check_classes.specs.Kept.{kept_order, AreKept, only_one, or_alone, kept_in, rows_above}

pub both_hold : (a b : Bool) → a ≡ true → b ≡ true → (a && b) ≡ true
both_hold true b p q = q
both_hold false b p q = absurd (cc)

pub is_false : (a : Bool) → (a ≡ true → ⊥) → a ≡ false
is_false true h = absurd (h refl)
is_false false h = refl

pub not_true : (a : Bool) → not a ≡ true → a ≡ false
not_true true e = absurd (cc)
not_true false e = refl

pub nor_cases : (a b : Bool) → (a || b) ≡ false → (a ≡ false) × (b ≡ false)
nor_cases true b e = absurd (cc)
nor_cases false b e = (refl, e)

nor : (a b : Bool) → a ≡ false → b ≡ false → (a || b) ≡ false
nor true b p q = absurd (cc)
nor false b p q = q

some_same : {A : Type 0} (a b : A) → Some a ≡ Some b → b ≡ a
some_same a b e = cc

-- ---- an order hangs on bases alone

same_all : (f g : ℕ → Option (List ℕ)) (c : ℕ) (bs : List ℕ) → ((b : ℕ) → b < c → f b ≡ g b) → list_all (λ b. nat_lt b c) bs ≡ true → all_there (map f bs) ≡ all_there (map g bs)
same_all f g c [] h l = refl
same_all f g c (b ∷ bs) h l =
    ap (λ o. option_and_then (λ a. option_map (λ more. a ∷ more) (all_there (map f bs))) o) (h b (ltb-true b c (and_left (nat_lt b c) (list_all (λ b. nat_lt b c) bs) l)))
    ∙ ap (λ p. option_and_then (λ a. option_map (λ more. a ∷ more) p) (g b)) (same_all f g c bs h (and_right (nat_lt b c) (list_all (λ b. nat_lt b c) bs) l))

none_below : (bs : List ℕ) → list_all (λ b. nat_lt b 0) bs ≡ true → bs ≡ []
none_below [] l = refl
none_below (b ∷ bs) l = let k = and_left (nat_lt b 0) (list_all (λ b. nat_lt b 0) bs) l in absurd (grind (arith, nat_tests, k))

-- the order of a class with these bases, from those of its bases
abbrev pub from_bases : ℕ → List ℕ → Option (List (List ℕ)) → Option (List ℕ)
from_bases c bs o = option_map (λ above. c ∷ above) (option_and_then (λ rows. merge (rows ++ bs ∷ [])) o)

first_alone : (classes : List ClassEntry) (l : ℕ) → bases_of classes 0 ≡ [] → order_by classes (suc l) 0 ≡ Some (0 ∷ [])
first_alone classes l e = ap (λ bs. from_bases 0 bs (all_there (map (order_by classes l) bs))) e

-- where two rows of classes have the same bases up to a number, so do their orders
module _ (cs ds : List ClassEntry) (top : ℕ) (same : (b : ℕ) → b ≤ top → bases_of cs b ≡ bases_of ds b) (falls : (c : ℕ) → bases_fall cs c ≡ true) where
  alike_by : (n m c : ℕ) → c ≤ top → c ≤ n → c ≤ m → order_by cs n c ≡ order_by ds m c
  alike_by zero zero c t p q = refl
  alike_by zero (suc m) zero t p q = sym (first_alone ds m (sym (same 0 t) ∙ none_below (bases_of cs 0) (falls 0)))
  alike_by zero (suc m) (suc c) t p q = absurd (omega (arith, p))
  alike_by (suc n) zero zero t p q = first_alone cs n (none_below (bases_of cs 0) (falls 0))
  alike_by (suc n) zero (suc c) t p q = absurd (omega (arith, q))
  alike_by (suc n) (suc m) c t p q =
      ap (from_bases c (bases_of cs c))
      (same_all (order_by cs n) (order_by ds m) c (bases_of cs c) (λ b less. alike_by n m b (omega (arith, t, less)) (omega (arith, p, less)) (omega (arith, q, less))) (falls c))
      ∙ ap (λ bs. from_bases c bs (all_there (map (order_by ds m) bs))) (same c t)

  pub alike : (c : ℕ) → c ≤ top → order cs c ≡ order ds c
  alike c t = alike_by c c c t (omega arith) (omega arith)

module _ (classes : List ClassEntry) (falls : (c : ℕ) → bases_fall classes c ≡ true) where
  pub order_is : (c : ℕ) → order classes c ≡ from_bases c (bases_of classes c) (all_there (map (order classes) (bases_of classes c)))
  order_is c =
      alike_by classes classes c (λ b l. refl) falls c (suc c) c (omega arith) (omega arith) (omega arith)
      ∙ ap (from_bases c (bases_of classes c))
      (same_all (order_by classes c) (order classes) c (bases_of classes c) (λ b less. alike_by classes classes b (λ x l. refl) falls c b b (omega arith) (omega (arith, less)) (omega arith)) (falls c))

  -- ---- and its classes have no greater numbers

  pub order_below : (c x : ℕ) (row : List ℕ) → order classes c ≡ Some row → has_class x row ≡ true → x ≤ c
  order_below c x row e h =
      choose (under_falls classes c x (order_under classes record { falls = falls } c c row x e h)) (λ q. omega (arith, q)) (λ q. omega (arith, q))

there : (o : Option (List ℕ)) → is_some o ≡ true → o ≡ Some (listed_order o)
there None e = absurd (cc)
there (Some row) e = refl

-- where each of some classes has an order
pub all_listed : (f : ℕ → Option (List ℕ)) (n : ℕ) (bs : List ℕ) → ((b : ℕ) → b < n → is_some (f b) ≡ true) → list_all (λ b. nat_lt b n) bs ≡ true → all_there (map f bs) ≡ Some (map (λ b. listed_order (f b)) bs)
all_listed f n [] h l = refl
all_listed f n (b ∷ bs) h l =
    ap (λ o. option_and_then (λ a. option_map (λ more. a ∷ more) (all_there (map f bs))) o) (there (f b) (h b (ltb-true b n (and_left (nat_lt b n) (list_all (λ b. nat_lt b n) bs) l))))
    ∙ ap (λ p. option_and_then (λ a. option_map (λ more. a ∷ more) p) (Some (listed_order (f b)))) (all_listed f n bs h (and_right (nat_lt b n) (list_all (λ b. nat_lt b n) bs) l))

-- ---- a merge has no class twice

abbrev joined : List (List ℕ) → List ℕ
joined rows = flat_map (λ row. row) rows

find_holds : (test : ℕ → Bool) (xs : List ℕ) (c : ℕ) → find test xs ≡ Some c → test c ≡ true
find_holds test [] c e = absurd (cc)
find_holds test (x ∷ xs) c e = by (test x) refl e (λ f. find_holds test xs c f)
  where
    by : (b : Bool) → test x ≡ b → cond b (Some x) (find test xs) ≡ Some c → (find test xs ≡ Some c → test c ≡ true) → test c ≡ true
    by true p e r = ap test (some_same x c e) ∙ p
    by false p e r = r e

gone_from : (c : ℕ) (row : List ℕ) → has_class c (drop 1 row) ≡ false → has_class c (headless c row) ≡ false
gone_from c [] h = refl
gone_from c (d ∷ row) h = by (d == c) refl
  where
    by : (b : Bool) → (d == c) ≡ b → has_class c (if b then row else d ∷ row) ≡ false
    by true e = h
    by false e = nor (d == c) (has_class c row) e h

free_gone : (c : ℕ) (rows : List (List ℕ)) → list_any (λ row. has_class c (drop 1 row)) rows ≡ false → has_class c (joined (map (headless c) rows)) ≡ false
free_gone c [] h = refl
free_gone c (row ∷ rows) h =
    let p : _ = nor_cases (has_class c (drop 1 row)) (list_any (λ row. has_class c (drop 1 row)) rows) h in
    list_any-append (λ d. d == c) (headless c row) (joined (map (headless c) rows)) ∙ nor (has_class c (headless c row)) (has_class c (joined (map (headless c) rows))) (gone_from c row p.0) (free_gone c rows p.1)

pub merged_differ : (steps : ℕ) (rows : List (List ℕ)) (result : List ℕ) → merge_by steps rows ≡ Some result → differ result ≡ true
merged_differ zero rows result e = ap differ (some_same [] result e)
merged_differ (suc n) rows result e = by (heads rows) refl e (λ c more f. merged_differ n (map (headless c) rows) more f)
  where
    not_in : (c : ℕ) (more : List ℕ) → is_free rows c ≡ true → merge_by n (map (headless c) rows) ≡ Some more → has_class c more ≡ false
    not_in c more f q = is_false (has_class c more) (λ h. let k = merged_from n (map (headless c) rows) more c q h in let g = free_gone c rows (not_true (list_any (λ row. has_class c (drop 1 row)) rows) f) in cc)

    more_of : (c : ℕ) (o : Option (List ℕ)) → is_free rows c ≡ true → merge_by n (map (headless c) rows) ≡ o → option_map (λ more. c ∷ more) o ≡ Some result → ((c : ℕ) (more : List ℕ) → merge_by n (map (headless c) rows) ≡ Some more → differ more ≡ true) → differ result ≡ true
    more_of c None f q e rec = absurd (cc)
    more_of c (Some more) f q e rec = ap differ (some_same (c ∷ more) result e) ∙ both_hold (not (has_class c more)) (differ more) (ap not (not_in c more f q)) (rec c more q)

    found : (o : Option ℕ) → find (is_free rows) (heads rows) ≡ o → option_and_then (λ c. option_map (λ more. c ∷ more) (merge_by n (map (headless c) rows))) o ≡ Some result → ((c : ℕ) (more : List ℕ) → merge_by n (map (headless c) rows) ≡ Some more → differ more ≡ true) → differ result ≡ true
    found None q e rec = absurd (cc)
    found (Some c) q e rec = more_of c (merge_by n (map (headless c) rows)) (find_holds (is_free rows) (heads rows) c q) refl e rec

    by : (hs : List ℕ) → heads rows ≡ hs → merge_by (suc n) rows ≡ Some result → ((c : ℕ) (more : List ℕ) → merge_by n (map (headless c) rows) ≡ Some more → differ more ≡ true) → differ result ≡ true
    by [] q e rec = ap differ (some_same [] result (rw q at e))
    by (h ∷ hs) q e rec = found (find (is_free rows) (heads rows)) refl (subst (λ x. option_and_then (λ c. option_map (λ more. c ∷ more) (merge_by n (map (headless c) rows))) (find (is_free rows) x) ≡ Some result) (sym q) (rw q at e)) rec

-- ---- a class with one base

-- a row alone is merged to itself
row_alone : (n : ℕ) (front row : List ℕ) → length row ≤ n → differ row ≡ true → behind front (merge_by n (row ∷ [] ∷ [])) ≡ Some (front ++ row)
row_alone zero front [] l d = refl
row_alone zero front (x ∷ row) l d = absurd (omega (arith, l))
row_alone (suc n) front [] l d = refl
row_alone (suc n) front (x ∷ row) l d =
    let out : has_class x row ≡ false = not_true (has_class x row) (and_left (not (has_class x row)) (differ row) d) in
    let free : is_free ((x ∷ row) ∷ [] ∷ []) x ≡ true = ap not (nor (has_class x row) false out refl) in
    step_taken n front ((x ∷ row) ∷ [] ∷ []) x (ap (λ b. cond b (Some x) None) free)
    ∙ ap (λ b. behind (front ++ x ∷ []) (merge_by n ((if b then row else x ∷ row) ∷ [] ∷ []))) (eq-eqb x x refl)
    ∙ row_alone n (front ++ x ∷ []) row (omega (arith, l)) (and_right (not (has_class x row)) (differ row) d)
    ∙ ap Some (append_assoc front (x ∷ []) row)

not_behind : (o : Option (List ℕ)) (row : List ℕ) → behind [] o ≡ Some row → o ≡ Some row
not_behind None row e = absurd (cc)
not_behind (Some r) row e = e

-- the order of the one base, and behind it the row of that base
base_alone : (b : ℕ) (rest : List ℕ) → differ (b ∷ rest) ≡ true → merge ((b ∷ rest) ∷ (b ∷ []) ∷ []) ≡ Some (b ∷ rest)
base_alone b rest d =
    let out : has_class b rest ≡ false = not_true (has_class b rest) (and_left (not (has_class b rest)) (differ rest) d) in
    let free : is_free ((b ∷ rest) ∷ (b ∷ []) ∷ []) b ≡ true = ap not (nor (has_class b rest) false out refl) in
    let long = length-append rest (b ∷ []) in
    not_behind _ _
    (step_taken (length (rest ++ b ∷ [])) [] ((b ∷ rest) ∷ (b ∷ []) ∷ []) b (ap (λ t. cond t (Some b) (cond t (Some b) None)) free)
    ∙ ap (λ t. behind (b ∷ []) (merge_by (length (rest ++ b ∷ [])) ((if t then rest else b ∷ rest) ∷ (if t then [] else b ∷ []) ∷ []))) (eq-eqb b b refl)
    ∙ row_alone (length (rest ++ b ∷ [])) (b ∷ []) rest (omega (arith, long)) (and_right (not (has_class b rest)) (differ rest) d))

in_all : (n x : ℕ) (row : List ℕ) → list_all (λ b. nat_lt b n) row ≡ true → has_class x row ≡ true → x < n
in_all n x [] l h = absurd (cc)
in_all n x (b ∷ row) l h =
    choose (or_cases (b == x) (has_class x row) h)
    (λ q. subst (λ z. z < n) (eqb-true b x q) (ltb-true b n (and_left (nat_lt b n) (list_all (λ b. nat_lt b n) row) l)))
    (λ q. in_all n x row (and_right (nat_lt b n) (list_all (λ b. nat_lt b n) row) l) q)

pub below_all : (n : ℕ) (row : List ℕ) → ((x : ℕ) → has_class x row ≡ true → x < n) → is_below n row ≡ true
below_all n [] h = refl
below_all n (x ∷ row) h =
    let less : x < n = h x (or_left (x == x) (has_class x row) (eq-eqb x x refl)) in
    let first : nat_lt x n ≡ true = grind (arith, nat_tests, less) in
    both_hold (nat_lt x n) (is_below n row) first (below_all n row (λ y k. h y (or_right (x == y) (has_class y row) k)))

-- what is in one of two rows
in_two : (x : ℕ) (xs ys : List ℕ) → has_class x (xs ++ ys) ≡ true → (has_class x xs ≡ true) ⊎ (has_class x ys ≡ true)
in_two x xs ys h = or_cases (has_class x xs) (has_class x ys) (sym (list_any-append (λ d. d == x) xs ys) ∙ h)

-- the orders of bases with smaller numbers have smaller numbers alone, and so has the row of these bases
rows_small : (f : ℕ → Option (List ℕ)) (n : ℕ) (bs last : List ℕ) (rows : List (List ℕ)) → ((b x : ℕ) (row : List ℕ) → f b ≡ Some row → has_class x row ≡ true → x ≤ b)
    → list_all (λ b. nat_lt b n) bs ≡ true → list_all (λ b. nat_lt b n) last ≡ true → all_there (map f bs) ≡ Some rows → (x : ℕ) → has_class x (joined (rows ++ last ∷ [])) ≡ true → x < n
rows_small f n [] last rows small l k e x h =
    let q : has_class x (joined (last ∷ [])) ≡ true = sym (ap (λ z. has_class x (joined (z ++ last ∷ []))) (some_same [] rows e)) ∙ h in
    choose (in_two x last [] q) (λ i. in_all n x last k i) (λ i. absurd (cc))
rows_small f n (d ∷ bs) last rows small l k e x h = by (f d) refl (all_there (map f bs)) refl e (λ rs g i. rows_small f n bs last rs small (and_right (nat_lt d n) (list_all (λ b. nat_lt b n) bs) l) k g x i)
  where
    by : (o : Option (List ℕ)) → f d ≡ o → (p : Option (List (List ℕ))) → all_there (map f bs) ≡ p → option_and_then (λ a. option_map (λ more. a ∷ more) p) o ≡ Some rows
        → ((rs : List (List ℕ)) → all_there (map f bs) ≡ Some rs → has_class x (joined (rs ++ last ∷ [])) ≡ true → x < n) → x < n
    by None g p g' e' rec = absurd (cc)
    by (Some r) g None g' e' rec = absurd (cc)
    by (Some r) g (Some rs) g' e' rec =
        let less : d < n = ltb-true d n (and_left (nat_lt d n) (list_all (λ b. nat_lt b n) bs) l) in
        let q : has_class x (r ++ joined (rs ++ last ∷ [])) ≡ true = sym (ap (λ z. has_class x (joined (z ++ last ∷ []))) (some_same (r ∷ rs) rows e')) ∙ h in
        choose (in_two x r (joined (rs ++ last ∷ [])) q) (λ i. let small_one = small d x r g i in omega (arith, small_one, less)) (λ i. rec rs g' i)

-- an order begins with its class, and has no class twice
pub record IsLine (c : ℕ) (row : List ℕ) : Type 0 where
  pub rest : List ℕ
  pub begins : row ≡ c ∷ rest
  pub differs : differ row ≡ true

module _ (classes : List ClassEntry) (falls : (c : ℕ) → bases_fall classes c ≡ true) where
  pub order_line : (c : ℕ) (row : List ℕ) → order classes c ≡ Some row → IsLine c row
  order_line c row e = by (all_there (map (order classes) (bases_of classes c))) refl (sym (order_is classes falls c) ∙ e)
    where
      line : (rows : List (List ℕ)) (o : Option (List ℕ)) → all_there (map (order classes) (bases_of classes c)) ≡ Some rows → merge (rows ++ bases_of classes c ∷ []) ≡ o → option_map (λ above. c ∷ above) o ≡ Some row → IsLine c row
      line rows None g q k = absurd (cc)
      line rows (Some more) g q k =
          let same = some_same (c ∷ more) row k in
          let out : has_class c more ≡ false = is_false (has_class c more) (λ h.
          let inside = merged_from _ (rows ++ bases_of classes c ∷ []) more c q h in
          let less = rows_small (order classes) c (bases_of classes c) (bases_of classes c) rows (λ b x r i j. order_below classes falls b x r i j) (falls c) (falls c) g c inside in
          omega (arith, less)) in
          record {
            rest = more;
            begins = same;
            differs = ap differ same ∙ both_hold (not (has_class c more)) (differ more) (ap not out) (merged_differ _ (rows ++ bases_of classes c ∷ []) more q);
          }

      by : (o : Option (List (List ℕ))) → all_there (map (order classes) (bases_of classes c)) ≡ o → from_bases c (bases_of classes c) o ≡ Some row → IsLine c row
      by None g k = absurd (cc)
      by (Some rows) g k = line rows (merge (rows ++ bases_of classes c ∷ [])) g refl k

  -- of a class without bases, and of one with one base
  pub order_bare : (c : ℕ) → bases_of classes c ≡ [] → order classes c ≡ Some (c ∷ [])
  order_bare c e = order_is classes falls c ∙ ap (λ bs. from_bases c bs (all_there (map (order classes) bs))) e

  pub order_one : (c b : ℕ) → bases_of classes c ≡ b ∷ [] → is_some (order classes b) ≡ true → order classes c ≡ Some (c ∷ listed_order (order classes b))
  order_one c b e s =
      let o = there (order classes b) s in
      let line = order_line b (listed_order (order classes b)) o in
      let rest = line.rest in
      let whole : order classes b ≡ Some (b ∷ rest) = o ∙ ap Some line.begins in
      order_is classes falls c
      ∙ ap (λ bs. from_bases c bs (all_there (map (order classes) bs))) e
      ∙ ap (λ z. from_bases c (b ∷ []) (option_and_then (λ a. option_map (λ more. a ∷ more) (Some [])) z)) whole
      ∙ ap (λ z. option_map (λ above. c ∷ above) z) (base_alone b rest (sym (ap differ line.begins) ∙ line.differs))
      ∙ ap (λ z. Some (c ∷ listed_order z)) (sym whole)

-- ---- one class more

get_front : {A : Type 0} (xs ys : List A) (i : ℕ) → i < length xs → slice_get (xs ++ ys) i ≡ slice_get xs i
get_front [] ys i l = absurd (omega (arith, l))
get_front (x ∷ xs) ys zero l = refl
get_front (x ∷ xs) ys (suc i) l = get_front xs ys i (omega (arith, l))

get_last : {A : Type 0} (xs : List A) (y : A) → slice_get (xs ++ y ∷ []) (length xs) ≡ Some y
get_last [] y = refl
get_last (x ∷ xs) y = get_last xs y

pub get_behind : {A : Type 0} (xs : List A) (y : A) (i : ℕ) → length xs < i → slice_get (xs ++ y ∷ []) i ≡ None
get_behind [] y zero l = absurd (omega (arith, l))
get_behind [] y (suc i) l = refl
get_behind (x ∷ xs) y zero l = absurd (omega (arith, l))
get_behind (x ∷ xs) y (suc i) l = get_behind xs y i (omega (arith, l))

pub front_get : {A : Type 0} (xs : List A) (y : A) (i : ℕ) → i < length xs → slice_get (xs ++ y ∷ []) i ≡ slice_get xs i
front_get xs y i l = get_front xs (y ∷ []) i l

pub last_get : {A : Type 0} (xs : List A) (y : A) → slice_get (xs ++ y ∷ []) (length xs) ≡ Some y
last_get xs y = get_last xs y

-- where a number is, next to a length
pub data Where (n i : ℕ) : Type 0 where
  before : i < n → Where n i
  at : i ≡ n → Where n i
  past : n < i → Where n i

pub place : (n i : ℕ) → Where n i
place n i = by (nat_lt i n) refl (nat_lt n i) refl
  where
    by : (a : Bool) → nat_lt i n ≡ a → (b : Bool) → nat_lt n i ≡ b → Where n i
    by true p b q = before (ltb-true i n p)
    by false p true q = past (ltb-true n i q)
    by false p false q = at (grind (arith, nat_tests, p, q))

module _ (cs : List ClassEntry) (e : ClassEntry) where
  pub bases_before : (b : ℕ) → b < length cs → bases_of cs b ≡ bases_of (cs ++ e ∷ []) b
  bases_before b l = ap bases_in (sym (front_get cs e b l))

  pub bases_at : bases_of (cs ++ e ∷ []) (length cs) ≡ e.bases
  bases_at = ap bases_in (last_get cs e)

  module _ (falls : (c : ℕ) → bases_fall cs c ≡ true) where
    pub order_before : (c : ℕ) → c < length cs → order cs c ≡ order (cs ++ e ∷ []) c
    order_before c l = alike cs (cs ++ e ∷ []) c (λ b k. bases_before b (omega (arith, k, l))) falls c (omega arith)

    module _ (below : list_all (λ b. nat_lt b (length cs)) e.bases ≡ true) where
      pub falls_more : (c : ℕ) → bases_fall (cs ++ e ∷ []) c ≡ true
      falls_more c = by (place (length cs) c)
        where
          by : Where (length cs) c → list_all (λ b. nat_lt b c) (bases_of (cs ++ e ∷ []) c) ≡ true
          by (before l) = ap (list_all (λ b. nat_lt b c)) (sym (bases_before c l)) ∙ falls c
          by (at q) = subst (λ n. list_all (λ b. nat_lt b n) (bases_of (cs ++ e ∷ []) n) ≡ true) (sym q) (ap (list_all (λ b. nat_lt b (length cs))) bases_at ∙ below)
          by (past l) = ap (λ o. list_all (λ b. nat_lt b c) (bases_in o)) (get_behind cs e c l)

      module _ (ordered : (c : ℕ) → c < length cs → is_some (order cs c) ≡ true) where
        alone : (n : ℕ) (o : Option (List ℕ)) → option_map (λ above. n ∷ above) o ≡ behind (n ∷ []) o
        alone n None = refl
        alone n (Some row) = refl

        -- the order of a new class, from those of its bases
        pub order_new : behind (length cs ∷ []) (merge (rows_above cs e.bases ++ e.bases ∷ [])) ≡ order (cs ++ e ∷ []) (length cs)
        order_new = sym (
            order_is (cs ++ e ∷ []) falls_more (length cs)
            ∙ ap (λ bs. from_bases (length cs) bs (all_there (map (order (cs ++ e ∷ [])) bs))) bases_at
            ∙ ap (from_bases (length cs) e.bases)
            (same_all (order (cs ++ e ∷ [])) (order cs) (length cs) e.bases (λ b l. sym (order_before b l)) below
            ∙ all_listed (order cs) (length cs) e.bases ordered below)
            ∙ alone (length cs) (merge (rows_above cs e.bases ++ e.bases ∷ [])))

        row_small : (b : ℕ) → b < length cs → is_below (length cs) (listed_order (order cs b)) ≡ true
        row_small b l = below_all (length cs) (listed_order (order cs b)) (λ x h. let k = order_below cs falls b x (listed_order (order cs b)) (there (order cs b) (ordered b l)) h in omega (arith, k, l))

        all_small : (bs last : List ℕ) → list_all (λ b. nat_lt b (length cs)) bs ≡ true → is_below (length cs) last ≡ true → are_below (length cs) (map (λ b. listed_order (order cs b)) bs ++ last ∷ []) ≡ true
        all_small [] last l k = both_hold (is_below (length cs) last) true k refl
        all_small (b ∷ bs) last l k =
            let less : b < length cs = ltb-true b (length cs) (and_left (nat_lt b (length cs)) (list_all (λ b. nat_lt b (length cs)) bs) l) in
            both_hold (is_below (length cs) (listed_order (order cs b))) _ (row_small b less) (all_small bs last (and_right (nat_lt b (length cs)) (list_all (λ b. nat_lt b (length cs)) bs) l) k)

        -- and their numbers are below its own
        pub rows_below : are_below (length cs) (rows_above cs e.bases ++ e.bases ∷ []) ≡ true
        rows_below = all_small e.bases e.bases below below

-- ---- what is kept

pub kept_more : (cs : List ClassEntry) (e : ClassEntry) (orders : List (List ℕ)) (row : List ℕ) → AreKept cs orders → list_all (λ b. nat_lt b (length cs)) e.bases ≡ true
    → is_some (order (cs ++ e ∷ []) (length cs)) ≡ true → row ≡ kept_order (cs ++ e ∷ []) (length cs) → AreKept (cs ++ e ∷ []) (orders ++ row ∷ [])
kept_more cs e orders row k below there_is is_kept =
    let more = length-append cs (e ∷ []) in
    let more_orders = length-append orders (row ∷ []) in
    let long = k.long in
    record {
      long = omega (arith, more, more_orders, long);
      falls = falls_more cs e k.falls below;
      ordered = λ c l. one (place (length cs) c) l;
      kept = λ c l. two (place (length cs) c) l;
    }
  where
    many : length (cs ++ e ∷ []) ≡ length cs + 1
    many = length-append cs (e ∷ [])

    one : {c : ℕ} → Where (length cs) c → c < length (cs ++ e ∷ []) → is_some (order (cs ++ e ∷ []) c) ≡ true
    one {c = c} (before l) h = ap is_some (sym (order_before cs e k.falls c l)) ∙ k.ordered c l
    one {c = c} (at q) h = ap (λ n. is_some (order (cs ++ e ∷ []) n)) q ∙ there_is
    one {c = c} (past l) h = absurd (omega (arith, l, h, many))

    front_kept : (c : ℕ) → c < length cs → kept_order cs c ≡ kept_order (cs ++ e ∷ []) c
    front_kept c l =
        ap (λ bs. if nat_lt 1 (length bs) then listed_order (order cs c) else []) (bases_before cs e c l)
        ∙ ap (λ o. if nat_lt 1 (length (bases_of (cs ++ e ∷ []) c)) then listed_order o else []) (order_before cs e k.falls c l)

    two : {c : ℕ} → Where (length cs) c → c < length (cs ++ e ∷ []) → slice_get (orders ++ row ∷ []) c ≡ Some (kept_order (cs ++ e ∷ []) c)
    two {c = c} (before l) h = front_get orders row c (omega (arith, l, k.long)) ∙ k.kept c l ∙ ap Some (front_kept c l)
    two {c = c} (at q) h =
        ap (slice_get (orders ++ row ∷ [])) (q ∙ sym k.long) ∙ last_get orders row ∙ ap Some (is_kept ∙ ap (kept_order (cs ++ e ∷ [])) (sym q))
    two {c = c} (past l) h = absurd (omega (arith, l, h, many))

-- ---- the order of a class from what is kept

module _ (classes : List ClassEntry) (orders : List (List ℕ)) (k : AreKept classes orders) where
  one_of : (bs : List ℕ) (b : ℕ) → only_one bs ≡ Some b → bs ≡ b ∷ []
  one_of [] b e = absurd (cc)
  one_of (d ∷ []) b e = ap (λ z. z ∷ []) (sym (some_same d b e))
  one_of (d ∷ x ∷ more) b e = absurd (cc)

  -- a class with one base
  pub base_below : (c b : ℕ) → only_one (bases_of classes c) ≡ Some b → b < c
  base_below c b e =
      let fall = sym (ap (list_all (λ d. nat_lt d c)) (one_of (bases_of classes c) b e)) ∙ k.falls c in
      ltb-true b c (and_left (nat_lt b c) true fall)

  pub row_on : (c b : ℕ) (front : List ℕ) → c < length classes → only_one (bases_of classes c) ≡ Some b → (front ++ c ∷ []) ++ listed_order (order classes b) ≡ front ++ listed_order (order classes c)
  row_on c b front l e =
      let less = base_below c b e in
      append_assoc front (c ∷ []) (listed_order (order classes b))
      ∙ ap (λ o. front ++ listed_order o) (sym (order_one classes k.falls c b (one_of (bases_of classes c) b e) (k.ordered b (omega (arith, less, l)))))

  -- any other one
  pub row_end : (c : ℕ) → c < length classes → only_one (bases_of classes c) ≡ None → or_alone c (kept_in (slice_get orders c)) ≡ listed_order (order classes c)
  row_end c l e = ap (λ o. or_alone c (kept_in o)) (k.kept c l) ∙ by (bases_of classes c) refl e
    where
      whole : (row : List ℕ) → IsLine c row → or_alone c row ≡ row
      whole row line = ap (or_alone c) line.begins ∙ sym line.begins

      by : (bs : List ℕ) → bases_of classes c ≡ bs → only_one bs ≡ None → or_alone c (kept_order classes c) ≡ listed_order (order classes c)
      by [] q h = ap (λ bs. or_alone c (if nat_lt 1 (length bs) then listed_order (order classes c) else [])) q ∙ ap listed_order (sym (order_bare classes k.falls c q))
      by (b ∷ []) q h = absurd (cc)
      by (b ∷ d ∷ more) q h =
          let two : nat_lt 1 (length (b ∷ d ∷ more)) ≡ true = grind (arith, nat_tests) in
          ap (λ bs. or_alone c (if nat_lt 1 (length bs) then listed_order (order classes c) else [])) q
          ∙ ap (λ t. or_alone c (if t then listed_order (order classes c) else [])) two
          ∙ whole (listed_order (order classes c)) (order_line classes k.falls c (listed_order (order classes c)) (there (order classes c) (k.ordered c l)))

-- the law: an order hangs on bases alone
pub same_orders : (cs ds : List ClassEntry) → IsClassTree cs → ((c : ℕ) → bases_of cs c ≡ bases_of ds c) → (c : ℕ) → order cs c ≡ order ds c
same_orders cs ds tree same c = alike cs ds c (λ b l. same b) tree.falls c (omega arith)

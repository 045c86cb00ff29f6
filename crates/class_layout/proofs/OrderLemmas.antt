-- The order of a class from the orders of its bases.
use Rattle.std.proofs.Common.{◌≡◌, ℕ, zero, suc, ◌+◌, ◌<◌, ◌≤◌, Bool, true, false, ◌&&◌, ◌==◌, nat_lt, List, [], ◌∷◌, ◌++◌, length, map, slice_get, Option, Some, None, is_some, refl, sym, ap, subst, ◌∙◌, arith}
use Rattle.std.specs.List.{list_all}
use Rattle.std.specs.Option.{option_map, option_and_then}
use Rattle.std.proofs.lemmas.Bool.{ltb-true, eq-eqb}
use Rattle.std.proofs.lemmas.Bool.Decides.{nat_tests}
use Rattle.py_typed.specs.Classes.{ClassEntry, class_entry, bases_of, bases_fall, has_class, is_class_under}
use Rattle.py_typed.specs.Order.{all_there, merge, order_by, order, listed_order}
use Rattle.py_typed.proofs.FitLemmas.{and_left, and_right}
use Rattle.py_typed.proofs.ClassLemmas.{choose, under_falls, or_left, or_right}
use Rattle.source_soundness.proofs.Linear.{order_under}
use Rattle.class_layout.specs.Merging.{is_below, are_below, behind}
use Rattle.class_layout.specs.Orders.{rows_above, order_from, IsFirstWithout, AreOrders}
use Rattle.py_typed.specs.declared.classes.ClassInfo.{ClassInfo}

missing : (orders : List (List ℕ)) (c : ℕ) → c < length orders → slice_get orders c ≡ None → ⊥
missing [] c l e = omega (arith, l)
missing (o ∷ orders) zero l e = cc
missing (o ∷ orders) (suc c) l e = missing orders c (omega (arith, l)) e

same_all : (f g : ℕ → Option (List ℕ)) (c : ℕ) (bs : List ℕ) → ((b : ℕ) → b < c → f b ≡ g b) → list_all (λ b. nat_lt b c) bs ≡ true → all_there (map f bs) ≡ all_there (map g bs)
same_all f g c [] h l = refl
same_all f g c (b ∷ bs) h l =
    ap (λ o. option_and_then (λ a. option_map (λ more. a ∷ more) (all_there (map f bs))) o) (h b (ltb-true b c (and_left (nat_lt b c) (list_all (λ b. nat_lt b c) bs) l)))
    ∙ ap (λ p. option_and_then (λ a. option_map (λ more. a ∷ more) p) (g b)) (same_all f g c bs h (and_right (nat_lt b c) (list_all (λ b. nat_lt b c) bs) l))

none_below : (bs : List ℕ) → list_all (λ b. nat_lt b 0) bs ≡ true → bs ≡ []
none_below [] l = refl
none_below (b ∷ bs) l = let k = and_left (nat_lt b 0) (list_all (λ b. nat_lt b 0) bs) l in absurd (grind (arith, nat_tests, k))

module _ (classes : List ClassEntry) (falls : (c : ℕ) → bases_fall classes c ≡ true) where
  abbrev from_bases : ℕ → List ℕ → Option (List (List ℕ)) → Option (List ℕ)
  from_bases c bs o = option_map (λ above. c ∷ above) (option_and_then (λ rows. merge (rows ++ bs ∷ [])) o)

  first_alone : (l : ℕ) → order_by classes (suc l) 0 ≡ Some (0 ∷ [])
  first_alone l = ap (λ bs. from_bases 0 bs (all_there (map (order_by classes l) bs))) (none_below (bases_of classes 0) (falls 0))

  levels : (n m c : ℕ) → c ≤ n → c ≤ m → order_by classes n c ≡ order_by classes m c
  levels zero zero c p q = refl
  levels zero (suc m) zero p q = sym (first_alone m)
  levels zero (suc m) (suc c) p q = absurd (omega (arith, p))
  levels (suc n) zero zero p q = first_alone n
  levels (suc n) zero (suc c) p q = absurd (omega (arith, q))
  levels (suc n) (suc m) c p q =
      ap (from_bases c (bases_of classes c))
      (same_all (order_by classes n) (order_by classes m) c (bases_of classes c) (λ b less. levels n m b (omega (arith, p, less)) (omega (arith, q, less))) (falls c))

  order_is : (c : ℕ) → order classes c ≡ from_bases c (bases_of classes c) (all_there (map (order classes) (bases_of classes c)))
  order_is c =
      levels c (suc c) c (omega arith) (omega arith)
      ∙ ap (from_bases c (bases_of classes c))
      (same_all (order_by classes c) (order classes) c (bases_of classes c) (λ b less. levels c b b (omega (arith, less)) (omega arith)) (falls c))

  module _ (orders : List (List ℕ)) (each : (c : ℕ) → c < length orders → slice_get orders c ≡ order classes c) where
    there : (c : ℕ) → c < length orders → slice_get orders c ≡ Some (listed_order (slice_get orders c))
    there c l = by (slice_get orders c) refl
      where
        by : (o : Option (List ℕ)) → slice_get orders c ≡ o → o ≡ Some (listed_order o)
        by None e = absurd (missing orders c l e)
        by (Some row) e = refl

    all_of : (bs : List ℕ) → list_all (λ b. nat_lt b (length orders)) bs ≡ true → all_there (map (order classes) bs) ≡ Some (map (λ b. listed_order (slice_get orders b)) bs)
    all_of [] l = refl
    all_of (b ∷ bs) l =
        let less : b < length orders = ltb-true b (length orders) (and_left (nat_lt b (length orders)) (list_all (λ b. nat_lt b (length orders)) bs) l) in
        ap (λ o. option_and_then (λ a. option_map (λ more. a ∷ more) (all_there (map (order classes) bs))) o) (sym (each b less) ∙ there b less)
        ∙ ap (λ p. option_and_then (λ a. option_map (λ more. a ∷ more) p) (Some (listed_order (slice_get orders b)))) (all_of bs (and_right (nat_lt b (length orders)) (list_all (λ b. nat_lt b (length orders)) bs) l))

    alone : (c : ℕ) (o : Option (List ℕ)) → option_map (λ above. c ∷ above) o ≡ behind (c ∷ []) o
    alone c None = refl
    alone c (Some row) = refl

    -- the orders that are known give that of the next class
    pub order_next : (bases : List ℕ) → bases ≡ bases_of classes (length orders) → order_from orders (length orders) bases ≡ order classes (length orders)
    order_next bases q =
        ap (order_from orders (length orders)) q
        ∙ sym (order_is (length orders) ∙ ap (from_bases (length orders) (bases_of classes (length orders))) (all_of (bases_of classes (length orders)) (falls (length orders))) ∙ alone (length orders) (merge (rows_above orders (bases_of classes (length orders)))))

    -- and they have smaller numbers
    order_below : (b x : ℕ) → b < length orders → has_class x (listed_order (slice_get orders b)) ≡ true → x < length orders
    order_below b x l h =
        let under : is_class_under classes b x ≡ true = order_under classes record { falls = falls } b b (listed_order (slice_get orders b)) x (sym (each b l) ∙ there b l) h in
        choose (under_falls classes b x under) (λ q. subst (λ z. z < length orders) q l) (λ q. omega (arith, q, l))

    row_below : (n : ℕ) (row : List ℕ) → ((x : ℕ) → has_class x row ≡ true → x < n) → is_below n row ≡ true
    row_below n [] h = refl
    row_below n (x ∷ row) h =
        let less : x < n = h x (or_left (x == x) (has_class x row) (eq-eqb x x refl)) in
        let first : nat_lt x n ≡ true = grind (arith, nat_tests, less) in
        ap (λ b. b && is_below n row) first ∙ row_below n row (λ y k. h y (or_right (x == y) (has_class y row) k))

    bases_below : (bs : List ℕ) → list_all (λ b. nat_lt b (length orders)) bs ≡ true → (last : List ℕ) → is_below (length orders) last ≡ true → are_below (length orders) (map (λ b. listed_order (slice_get orders b)) bs ++ last ∷ []) ≡ true
    bases_below [] l last k = ap (λ b. b && true) k
    bases_below (b ∷ bs) l last k =
        let less : b < length orders = ltb-true b (length orders) (and_left (nat_lt b (length orders)) (list_all (λ b. nat_lt b (length orders)) bs) l) in
        ap (λ x. x && are_below (length orders) (map (λ b. listed_order (slice_get orders b)) bs ++ last ∷ [])) (row_below (length orders) (listed_order (slice_get orders b)) (λ x h. order_below b x less h))
        ∙ bases_below bs (and_right (nat_lt b (length orders)) (list_all (λ b. nat_lt b (length orders)) bs) l) last k

    pub rows_below : (bases : List ℕ) → bases ≡ bases_of classes (length orders) → are_below (length orders) (rows_above orders bases) ≡ true
    rows_below bases q = ap (λ bs. are_below (length orders) (rows_above orders bs)) q ∙ bases_below (bases_of classes (length orders)) (falls (length orders)) (bases_of classes (length orders)) (falls (length orders))

    -- the same for the number of the next class
    pub next_rows : (n : ℕ) (bases : List ℕ) → n ≡ length orders → bases ≡ bases_of classes n → are_below n (rows_above orders bases) ≡ true
    next_rows n bases p q = ap (λ k. are_below k (rows_above orders bases)) p ∙ rows_below bases (q ∙ ap (bases_of classes) p)

    pub next_is : (n : ℕ) (bases : List ℕ) → n ≡ length orders → bases ≡ bases_of classes n → order_from orders n bases ≡ order classes n
    next_is n bases p q = ap (λ k. order_from orders k bases) p ∙ order_next bases (q ∙ ap (bases_of classes) p) ∙ ap (order classes) (sym p)

-- ---- the orders of declared classes

pub as_many : (infos : List ClassInfo) → length (map class_entry infos) ≡ length infos
as_many [] = refl
as_many (i ∷ infos) = ap suc (as_many infos)

is_there : (orders : List (List ℕ)) (c : ℕ) → c < length orders → is_some (slice_get orders c) ≡ true
is_there [] c l = absurd (omega (arith, l))
is_there (o ∷ orders) zero l = refl
is_there (o ∷ orders) (suc c) l = is_there orders c (omega (arith, l))

pub first_without : (infos : List ClassInfo) (orders : List (List ℕ)) (n : ℕ) → n < length infos → n ≡ length orders
    → ((c : ℕ) → c < length orders → slice_get orders c ≡ order (map class_entry infos) c) → order (map class_entry infos) n ≡ None → IsFirstWithout (map class_entry infos) n
first_without infos orders n l p each e =
    let many = as_many infos in
    record {
      there = omega (arith, l, many);
      none = e;
      before = λ b less. let inside : b < length orders = omega (arith, less, p) in sym (ap is_some (each b inside)) ∙ is_there orders b inside;
    }

pub all_ordered : (infos : List ClassInfo) (orders : List (List ℕ)) (n : ℕ) → n ≡ length infos → n ≡ length orders
    → ((c : ℕ) → c < length orders → slice_get orders c ≡ order (map class_entry infos) c) → AreOrders (map class_entry infos) orders
all_ordered infos orders n p q each =
    let many = as_many infos in
    record {
      long = omega (arith, p, q, many);
      each = λ c l. each c (omega (arith, l, p, q, many));
    }

-- ---- one more behind a list

pub one_longer : {A : Type 0} (xs : List A) (x : A) → length (xs ++ x ∷ []) ≡ suc (length xs)
one_longer [] x = refl
one_longer (y ∷ xs) x = ap suc (one_longer xs x)

get_before : {A : Type 0} (xs : List A) (x : A) (c : ℕ) → c < length xs → slice_get (xs ++ x ∷ []) c ≡ slice_get xs c
get_before [] x c l = absurd (omega (arith, l))
get_before (y ∷ xs) x zero l = refl
get_before (y ∷ xs) x (suc c) l = get_before xs x c (omega (arith, l))

get_at : {A : Type 0} (xs : List A) (x : A) (c : ℕ) → c ≡ length xs → slice_get (xs ++ x ∷ []) c ≡ Some x
get_at [] x zero l = refl
get_at [] x (suc c) l = absurd (omega (arith, l))
get_at (y ∷ xs) x zero l = absurd (omega (arith, l))
get_at (y ∷ xs) x (suc c) l = get_at xs x c (omega (arith, l))

-- what is seen of each element, and of the one behind them
each_more : {A B : Type 0} (view : Option A → B) (f : ℕ → B) (xs : List A) (x : A) → ((c : ℕ) → c < length xs → view (slice_get xs c) ≡ f c) → view (Some x) ≡ f (length xs)
    → (c : ℕ) → c < length (xs ++ x ∷ []) → view (slice_get (xs ++ x ∷ []) c) ≡ f c
each_more {A = A} {B = B} view f xs x each e c l = by (nat_lt c (length xs)) refl
  where
    by : (b : Bool) → nat_lt c (length xs) ≡ b → view (slice_get (xs ++ x ∷ []) c) ≡ f c
    by true p = let less : c < length xs = ltb-true c (length xs) p in ap view (get_before xs x c less) ∙ each c less
    by false p =
        let longer = one_longer xs x in
        let same : c ≡ length xs = grind (arith, nat_tests, p, l, longer) in
        ap view (get_at xs x c same) ∙ e ∙ ap f (sym same)

pub next_each : {A B : Type 0} (view : Option A → B) (f : ℕ → B) (xs xs' : List A) (x : A) (n : ℕ) → xs' ≡ xs ++ x ∷ [] → n ≡ length xs
    → ((c : ℕ) → c < length xs → view (slice_get xs c) ≡ f c) → view (Some x) ≡ f n → (n + 1 ≡ length xs') × ((c : ℕ) → c < length xs' → view (slice_get xs' c) ≡ f c)
next_each view f xs xs' x n p q each e =
    let longer = one_longer xs x in
    let long = ap length p in (
      omega (arith, longer, long, q),
      λ c l. ap (λ z. view (slice_get z c)) p ∙ each_more view f xs x each (e ∙ ap f q) c (subst (λ z. c < length z) p l),
    )

-- one class more
pub step : (infos : List ClassInfo) (orders orders' : List (List ℕ)) (row : List ℕ) (n : ℕ) → orders' ≡ orders ++ row ∷ [] → n ≡ length orders
    → ((c : ℕ) → c < length orders → slice_get orders c ≡ order (map class_entry infos) c) → order (map class_entry infos) n ≡ Some row
    → (n + 1 ≡ length orders') × ((c : ℕ) → c < length orders' → slice_get orders' c ≡ order (map class_entry infos) c)
step infos orders orders' row n p q each e = next_each (λ o. o) (order (map class_entry infos)) orders orders' row n p q each (sym e)

-- Rows: what stands at a place of several in a row, and rows of names and values, each name once.
use Rattle.std.proofs.Common.{◌≡◌, ℕ, zero, suc, ◌+◌, Bool, true, false, not, ◌||◌, cond, List, [], ◌∷◌, ◌++◌, map, length, Option, Some, None, refl, ap, ap₂, sym, ◌∙◌, subst, arith, ◌⊎◌, inl, inr, if◌then◌else◌}
use Rattle.std.proofs.lemmas.Bool.{and_from, and_parts, or_parts}
use Rattle.std.proofs.lemmas.List.Folds.{list_any-append}
use Rattle.std.proofs.lemmas.List.{map-append}
use Rattle.std.proofs.lemmas.Option.{same_Some}
use Rattle.std.proofs.lemmas.Slice.Eq.{bytes_eq-Decides}
use Rattle.std.specs.Cmp.Lexicographic.{nat_list_eq_equiv}
use Rattle.std.specs.Prelude.{slice_get, nat_lt}
use Rattle.std.specs.List.{list_any, position_from, AllByRecursion}
use Rattle.std.specs.Map.{lookup}
use Rattle.std.specs.Str.{bytes_eq}
use Rattle.py_typed.specs.WellTyped.{all_differ, is_called_in}
use Rattle.py_check_members.specs.Members.{is_named_in, with_new, each_once, stands_before}

pub clash : {A : Type 0} (b : Bool) → b ≡ true → b ≡ false → A
clash true p q = absurd (cc)
clash false p q = absurd (cc)

pub same_text : (x y : List ℕ) → bytes_eq x y ≡ true → x ≡ y
same_text x y e = (bytes_eq-Decides x y).0 e

pub text_is_itself : (x : List ℕ) → bytes_eq x x ≡ true
text_is_itself x = (bytes_eq-Decides x x).1 refl

pub swapped : (x y : List ℕ) → bytes_eq x y ≡ bytes_eq y x
swapped x y = nat_list_eq_equiv.symm x y

lost_by : (b : Bool) → not b ≡ true → b ≡ false
lost_by true h = absurd (cc)
lost_by false h = refl

-- ---- sums

pub none_more : (a : ℕ) → 0 + a ≡ a
none_more a = omega arith

pub zero_more : (a : ℕ) → a + 0 ≡ a
zero_more a = omega arith

pub one_before : (a b : ℕ) → suc a + b ≡ suc (a + b)
one_before a b = omega arith

pub one_behind : (a b : ℕ) → (a + 1) + b ≡ a + suc b
one_behind a b = omega arith

pub grouped : (a b c : ℕ) → a + (b + c) ≡ (a + b) + c
grouped a b c = omega arith

-- ---- places

pub at_front : {A : Type 0} (xs ys : List A) (k : ℕ) (a : A) → slice_get xs k ≡ Some a → slice_get (xs ++ ys) k ≡ Some a
at_front [] ys k a h = absurd (cc)
at_front (x ∷ xs) ys zero a h = h
at_front (x ∷ xs) ys (suc k) a h = at_front xs ys k a h

pub at_back : {A : Type 0} (xs ys : List A) (k : ℕ) → slice_get (xs ++ ys) (length xs + k) ≡ slice_get ys k
at_back [] ys k = ap (slice_get ys) (none_more k)
at_back (x ∷ xs) ys k = ap (slice_get (x ∷ (xs ++ ys))) (one_before (length xs) k) ∙ at_back xs ys k

-- just behind the front of a row
pub at_seam : {A : Type 0} (xs : List A) (y : A) (ys : List A) → slice_get (xs ++ y ∷ ys) (length xs) ≡ Some y
at_seam xs y ys = ap (slice_get (xs ++ y ∷ ys)) (sym (zero_more (length xs))) ∙ at_back xs (y ∷ ys) 0

-- behind the front of a row
pub record Behind {A : Type 0} (xs ys : List A) (k : ℕ) (a : A) : Type 0 where
  pub rest : ℕ
  pub place : k ≡ length xs + rest
  pub there : slice_get ys rest ≡ Some a

further : {A : Type 0} (x : A) (xs ys : List A) (k : ℕ) (a : A) → (slice_get xs k ≡ Some a) ⊎ Behind xs ys k a → (slice_get (x ∷ xs) (suc k) ≡ Some a) ⊎ Behind (x ∷ xs) ys (suc k) a
further x xs ys k a (inl q) = inl q
further x xs ys k a (inr b) = inr (record { rest = b.rest; place = ap suc b.place ∙ sym (one_before (length xs) b.rest); there = b.there })

pub at_either : {A : Type 0} (xs ys : List A) (k : ℕ) (a : A) → slice_get (xs ++ ys) k ≡ Some a → (slice_get xs k ≡ Some a) ⊎ Behind xs ys k a
at_either [] ys k a h = inr (record { rest = k; place = sym (none_more k); there = h })
at_either (x ∷ xs) ys zero a h = inl h
at_either (x ∷ xs) ys (suc k) a h = further x xs ys k a (at_either xs ys k a h)

-- ---- the first that passes a test

pub first_is_there : {A : Type 0} (test : A → Bool) (i : ℕ) (xs : List A) (v : A) (ys : List A) → list_any test xs ≡ false → test v ≡ true → position_from test i (xs ++ v ∷ ys) ≡ Some (i + length xs)
first_is_there test i [] v ys h q = ap (λ b. cond b (Some i) (position_from test (i + 1) ys)) q ∙ ap Some (sym (zero_more i))
first_is_there test i (x ∷ xs) v ys h q =
    let p = or_parts (test x) (list_any test xs) h in
    ap (λ b. cond b (Some i) (position_from test (i + 1) (xs ++ v ∷ ys))) p.0 ∙ first_is_there test (i + 1) xs v ys p.1 q ∙ ap Some (one_behind i (length xs))

less_than_sum : (i n : ℕ) → nat_lt i (i + suc n) ≡ true
less_than_sum i n = search arith

in_front : (b : Bool) (i n : ℕ) (rest : Option ℕ) → (b ≡ false → stands_before (i + suc n) rest ≡ true) → stands_before (i + suc n) (cond b (Some i) rest) ≡ true
in_front true i n rest h = less_than_sum i n
in_front false i n rest h = h refl

right_one : (b c : Bool) → (b || c) ≡ true → b ≡ false → c ≡ true
right_one b c h e = cc

-- one stands in the front of a row: so does the first
pub stands_in_front : {A : Type 0} (test : A → Bool) (i : ℕ) (xs ys : List A) → list_any test xs ≡ true → stands_before (i + length xs) (position_from test i (xs ++ ys)) ≡ true
stands_in_front test i [] ys h = absurd (cc)
stands_in_front test i (x ∷ xs) ys h =
    in_front (test x) i (length xs) (position_from test (i + 1) (xs ++ ys))
    (λ e. ap (λ n. stands_before n (position_from test (i + 1) (xs ++ ys))) (sym (one_behind i (length xs))) ∙ stands_in_front test (i + 1) xs ys (right_one (test x) (list_any test xs) h e))

-- ---- what holds of all

pub both : {A : Type 0} (P : A → Type 0) (xs ys : List A) → AllByRecursion P xs → AllByRecursion P ys → AllByRecursion P (xs ++ ys)
both P [] ys h k = k
both P (x ∷ xs) ys h k = (h.0, both P xs ys h.1 k)

-- ---- rows of names and values

named_same : {A : Type 0} (row : List (List ℕ × A)) (name : List ℕ) → is_called_in (map (λ p. p.0) row) name ≡ is_named_in row name
named_same [] name = refl
named_same (p ∷ row) name = ap (λ b. bytes_eq name p.0 || b) (named_same row name)

none_of : (c d : Bool) → c ≡ false → d ≡ false → (c || (d || false)) ≡ false
none_of c d u v = cc

one_new : (ns : List (List ℕ)) (x : List ℕ) → all_differ ns ≡ true → is_called_in ns x ≡ false → all_differ (ns ++ x ∷ []) ≡ true
one_new [] x h k = refl
one_new (n ∷ ns) x h k =
    let p = or_parts (bytes_eq x n) (is_called_in ns x) k in
    let q = and_parts (not (is_called_in ns n)) (all_differ ns) h in
    let out : is_called_in (ns ++ x ∷ []) n ≡ false =
    list_any-append (bytes_eq n) ns (x ∷ []) ∙ none_of (is_called_in ns n) (bytes_eq n x) (lost_by (is_called_in ns n) q.0) (swapped n x ∙ p.0) in
    and_from (not (is_called_in (ns ++ x ∷ []) n)) (all_differ (ns ++ x ∷ [])) (ap not out) (one_new ns x q.1 p.1)

one_kept : {A : Type 0} (row more : List (List ℕ × A)) (p : List ℕ × A) (b : Bool) → is_named_in row p.0 ≡ b → all_differ (map (λ q. q.0) row) ≡ true → ((r : List (List ℕ × A)) → all_differ (map (λ q. q.0) r) ≡ true → all_differ (map (λ q. q.0) (with_new r more)) ≡ true) → all_differ (map (λ q. q.0) (with_new (if b then row else row ++ p ∷ []) more)) ≡ true
one_kept row more p true q h next = next row h
one_kept {A = A} row more p false q h next =
    next (row ++ p ∷ []) (ap all_differ (map-append (λ (z : List ℕ × A). z.0) row (p ∷ [])) ∙ one_new (map (λ (z : List ℕ × A). z.0) row) p.0 h (named_same row p.0 ∙ q))

pub new_differ : {A : Type 0} (row more : List (List ℕ × A)) → all_differ (map (λ p. p.0) row) ≡ true → all_differ (map (λ p. p.0) (with_new row more)) ≡ true
new_differ row [] h = h
new_differ row (p ∷ more) h = one_kept row more p (is_named_in row p.0) refl h (λ r k. new_differ r more k)

pub once_differ : {A : Type 0} (row : List (List ℕ × A)) → all_differ (map (λ p. p.0) (each_once row)) ≡ true
once_differ row = new_differ [] row refl

-- what holds of each pair holds of those that are kept
one_holds : {A : Type 0} (P : List ℕ × A → Type 0) (row more : List (List ℕ × A)) (p : List ℕ × A) (b : Bool) → AllByRecursion P row → P p → ((r : List (List ℕ × A)) → AllByRecursion P r → AllByRecursion P (with_new r more)) → AllByRecursion P (with_new (if b then row else row ++ p ∷ []) more)
one_holds P row more p true h k next = next row h
one_holds P row more p false h k next = next (row ++ p ∷ []) (both P row (p ∷ []) h (k, tt))

pub new_hold : {A : Type 0} (P : List ℕ × A → Type 0) (row more : List (List ℕ × A)) → AllByRecursion P row → AllByRecursion P more → AllByRecursion P (with_new row more)
new_hold P row [] h k = h
new_hold P row (p ∷ more) h k = one_holds P row more p (is_named_in row p.0) h k.0 (λ r q. new_hold P r more q k.1)

pub record Found {A : Type 0} (P : List ℕ × A → Type 0) (name : List ℕ) (a : A) : Type 0 where
  pub called : List ℕ
  pub same : called ≡ name
  pub holds : P (called, a)

one_found : {A : Type 0} (P : List ℕ × A → Type 0) (p : List ℕ × A) (name : List ℕ) (a : A) (rest : Option A) (b : Bool) → bytes_eq name p.0 ≡ b → P p → cond b (Some p.1) rest ≡ Some a → (rest ≡ Some a → Found P name a) → Found P name a
one_found P p name a rest true e h r next = record { called = p.0; same = sym (same_text name p.0 e); holds = subst (λ x. P (p.0, x)) (same_Some p.1 a r) h }
one_found P p name a rest false e h r next = next r

pub found_holds : {A : Type 0} (P : List ℕ × A → Type 0) (row : List (List ℕ × A)) (name : List ℕ) (a : A) → AllByRecursion P row → lookup (bytes_eq name) row ≡ Some a → Found P name a
found_holds P [] name a h q = absurd (cc)
found_holds P (p ∷ row) name a h q = one_found P p name a (lookup (bytes_eq name) row) (bytes_eq name p.0) refl h.0 q (λ r. found_holds P row name a h.1 r)

-- ---- the first of a name stays the first

still_found : {A : Type 0} (b : Bool) (x a : A) (one two : Option A) → cond b (Some x) one ≡ Some a → (one ≡ Some a → two ≡ Some a) → cond b (Some x) two ≡ Some a
still_found true x a one two h next = h
still_found false x a one two h next = next h

lookup_two : {A : Type 0} (name : List ℕ) (xs ys : List (List ℕ × A)) (a : A) → lookup (bytes_eq name) xs ≡ Some a → lookup (bytes_eq name) (xs ++ ys) ≡ Some a
lookup_two name [] ys a h = absurd (cc)
lookup_two name (p ∷ xs) ys a h = still_found (bytes_eq name p.0) p.1 a (lookup (bytes_eq name) xs) (lookup (bytes_eq name) (xs ++ ys)) h (λ q. lookup_two name xs ys a q)

one_first : {A : Type 0} (name : List ℕ) (row more : List (List ℕ × A)) (p : List ℕ × A) (a : A) (b : Bool) → lookup (bytes_eq name) row ≡ Some a → ((r : List (List ℕ × A)) → lookup (bytes_eq name) r ≡ Some a → lookup (bytes_eq name) (with_new r more) ≡ Some a) → lookup (bytes_eq name) (with_new (if b then row else row ++ p ∷ []) more) ≡ Some a
one_first name row more p a true h next = next row h
one_first name row more p a false h next = next (row ++ p ∷ []) (lookup_two name row (p ∷ []) a h)

kept_first : {A : Type 0} (name : List ℕ) (row more : List (List ℕ × A)) (a : A) → lookup (bytes_eq name) row ≡ Some a → lookup (bytes_eq name) (with_new row more) ≡ Some a
kept_first name row [] a h = h
kept_first name row (p ∷ more) a h = one_first name row more p a (is_named_in row p.0) h (λ r q. kept_first name r more a q)

lookup_last : {A : Type 0} (name : List ℕ) (xs : List (List ℕ × A)) (q : List ℕ × A) → is_named_in xs name ≡ false → bytes_eq name q.0 ≡ true → lookup (bytes_eq name) (xs ++ q ∷ []) ≡ Some q.1
lookup_last name [] q h e = ap (λ b. cond b (Some q.1) None) e
lookup_last name (p ∷ xs) q h e =
    let r = or_parts (bytes_eq name p.0) (is_named_in xs name) h in ap (λ b. cond b (Some p.1) (lookup (bytes_eq name) (xs ++ q ∷ []))) r.0 ∙ lookup_last name xs q r.1 e

still_new : {A : Type 0} (xs : List (List ℕ × A)) (q : List ℕ × A) (name : List ℕ) → is_named_in xs name ≡ false → bytes_eq name q.0 ≡ false → is_named_in (xs ++ q ∷ []) name ≡ false
still_new {A = A} xs q name h e = list_any-append (λ (p : List ℕ × A). bytes_eq name p.0) xs (q ∷ []) ∙ none_of (is_named_in xs name) (bytes_eq name q.0) h e

new_one : {A : Type 0} (name : List ℕ) (row more : List (List ℕ × A)) (p : List ℕ × A) (a : A) (b c : Bool) → is_named_in row p.0 ≡ b → bytes_eq name p.0 ≡ c → is_named_in row name ≡ false → cond c (Some p.1) (lookup (bytes_eq name) more) ≡ Some a
    → ((r : List (List ℕ × A)) → is_named_in r name ≡ false → lookup (bytes_eq name) more ≡ Some a → lookup (bytes_eq name) (with_new r more) ≡ Some a)
    → lookup (bytes_eq name) (with_new (if b then row else row ++ p ∷ []) more) ≡ Some a
new_one name row more p a true true d e h q next = clash (is_named_in row p.0) d (ap (is_named_in row) (sym (same_text name p.0 e)) ∙ h)
new_one name row more p a false true d e h q next = kept_first name (row ++ p ∷ []) more a (lookup_last name row p h e ∙ q)
new_one name row more p a true false d e h q next = next row h q
new_one name row more p a false false d e h q next = next (row ++ p ∷ []) (still_new row p name h e) q

pub new_first : {A : Type 0} (name : List ℕ) (row more : List (List ℕ × A)) (a : A) → is_named_in row name ≡ false → lookup (bytes_eq name) more ≡ Some a → lookup (bytes_eq name) (with_new row more) ≡ Some a
new_first name row [] a h k = absurd (cc)
new_first name row (p ∷ more) a h k = new_one name row more p a (is_named_in row p.0) (bytes_eq name p.0) refl refl h k (λ r n q. new_first name r more a n q)

pub once_first : {A : Type 0} (name : List ℕ) (row : List (List ℕ × A)) (a : A) → lookup (bytes_eq name) row ≡ Some a → lookup (bytes_eq name) (each_once row) ≡ Some a
once_first name row a h = new_first name [] row a refl h

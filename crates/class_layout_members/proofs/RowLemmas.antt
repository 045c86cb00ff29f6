-- Rows of names: names that are put behind others, and the places of names.
use Rattle.std.proofs.Common.{◌≡◌, ℕ, zero, suc, ◌+◌, ◌<◌, Bool, true, false, not, cond, ◌||◌, ◌&&◌, List, [], ◌∷◌, ◌++◌, length, drop, get_or, drop-cons, add-one, position, slice_get, nat_lt, Option, Some, None, is_some, option_map, refl, sym, ap, ap₂, subst, ◌∙◌, if◌then◌else◌, append-nil, append_assoc, arith}
use Rattle.std.specs.List.{list_any, position_or_len}
use Rattle.std.specs.Str.{bytes_eq}
use Rattle.std.proofs.lemmas.Bool.Decides.{nat_tests}
use Rattle.std.proofs.lemmas.List.Folds.{list_any-append}
use Rattle.std.proofs.lemmas.List.Sums.{fold-append}
use Rattle.std.proofs.lemmas.Option.{same_Some}
use Rattle.std.proofs.lemmas.Slice.Eq.{bytes_eq-Decides}
use Rattle.indexmap.specs.IndexSet.{insert_key, insert_all}
use Rattle.py_typed.specs.WellTyped.{all_differ}
use Rattle.py_typed.proofs.FitLemmas.{and_left, and_right}
use Rattle.class_layout_members.specs.Names.{each_once, place_of}

-- ---- loops over a row

-- an element, and what is behind it
pub from_place : {A : Type 0} (xs : List A) (i : ℕ) (x : A) → i < length xs → x ≡ get_or xs i x → drop i xs ≡ x ∷ drop (i + 1) xs
from_place xs i x h at = drop-cons xs i x h ∙ ap (λ y. y ∷ drop (suc i) xs) (sym at) ∙ ap (λ n. x ∷ drop n xs) (sym (add-one i))

-- the same of a row of numbers
pub from_number : (xs : List ℕ) (i : ℕ) → i < length xs → drop i xs ≡ get_or xs i 0 ∷ drop (i + 1) xs
from_number xs i h = drop-cons xs i 0 h ∙ ap (λ n. get_or xs i 0 ∷ drop n xs) (sym (add-one i))

-- one name is put behind others
pub put_next : (ks ks2 : List (List ℕ)) (n m : List ℕ) (rest whole : List (List ℕ)) → m ≡ n → ks2 ≡ insert_key bytes_eq ks m → insert_all bytes_eq ks (n ∷ rest) ≡ whole → insert_all bytes_eq ks2 rest ≡ whole
put_next ks ks2 n m rest whole is put before = ap (λ l. insert_all bytes_eq l rest) (put ∙ ap (insert_key bytes_eq ks) is) ∙ before

-- and a row of them
pub put_row : (ks ks2 row more rest whole : List (List ℕ)) → row ≡ more → ks2 ≡ insert_all bytes_eq ks row → insert_all bytes_eq ks (more ++ rest) ≡ whole → insert_all bytes_eq ks2 rest ≡ whole
put_row ks ks2 row more rest whole is put before =
    ap (λ l. insert_all bytes_eq l rest) (put ∙ ap (insert_all bytes_eq ks) is) ∙ sym (fold-append (insert_key bytes_eq) ks more rest) ∙ before

-- ---- truth values

pub not_false : (b : Bool) → not b ≡ true → b ≡ false
not_false true e = absurd (cc)
not_false false e = refl

pub or_none_left : (a b : Bool) → (a || b) ≡ false → a ≡ false
or_none_left true b e = e
or_none_left false b e = refl

pub or_none_right : (a b : Bool) → (a || b) ≡ false → b ≡ false
or_none_right true b e = absurd (cc)
or_none_right false b e = e

pub or_no : (b : Bool) → (b || false) ≡ b
or_no true = refl
or_no false = refl

pub or_more : (a b c : Bool) → ((a || b) || c) ≡ (a || (b || c))
or_more true b c = refl
or_more false b c = refl

-- ---- names

pub same : (x y : List ℕ) → bytes_eq x y ≡ true → x ≡ y
same x y e = (bytes_eq-Decides x y).0 e

pub itself : (x : List ℕ) → bytes_eq x x ≡ true
itself x = (bytes_eq-Decides x x).1 refl

pub either_way : (x y : List ℕ) → bytes_eq x y ≡ bytes_eq y x
either_way x y = by (bytes_eq x y) refl (bytes_eq y x) refl
  where
    by : (b : Bool) → bytes_eq x y ≡ b → (c : Bool) → bytes_eq y x ≡ c → b ≡ c
    by true e true f = refl
    by true e false f = sym (subst (λ z. bytes_eq z x ≡ true) (same x y e) (itself x)) ∙ f
    by false e true f = sym e ∙ subst (λ z. bytes_eq z y ≡ true) (same y x f) (itself y)
    by false e false f = refl

-- a name is in a row
abbrev pub has : List ℕ → List (List ℕ) → Bool
has q names = list_any (bytes_eq q) names

pub has_added : (ks : List (List ℕ)) (v q : List ℕ) → has q (insert_key bytes_eq ks v) ≡ (has q ks || bytes_eq q v)
has_added ks v q = by (has v ks) refl
  where
    told : has v ks ≡ true → (c : Bool) → bytes_eq q v ≡ c → has q ks ≡ (has q ks || c)
    told e true f =
        let h : has q ks ≡ true = ap (λ z. has z ks) (same q v f) ∙ e in h ∙ sym (ap (λ b. b || true) h)
    told e false f = sym (or_no (has q ks))

    by : (b : Bool) → has v ks ≡ b → has q (if b then ks else ks ++ v ∷ []) ≡ (has q ks || bytes_eq q v)
    by true e = told e (bytes_eq q v) refl
    by false e = list_any-append (bytes_eq q) ks (v ∷ []) ∙ ap (λ b. has q ks || b) (or_no (bytes_eq q v))

pub has_all : (ks xs : List (List ℕ)) (q : List ℕ) → has q (insert_all bytes_eq ks xs) ≡ (has q ks || has q xs)
has_all ks [] q = sym (or_no (has q ks))
has_all ks (x ∷ xs) q = has_all (insert_key bytes_eq ks x) xs q ∙ ap (λ b. b || has q xs) (has_added ks x q) ∙ or_more (has q ks) (bytes_eq q x) (has q xs)

pub has_once : (xs : List (List ℕ)) (q : List ℕ) → has q (each_once xs) ≡ has q xs
has_once xs q = has_all [] xs q

-- ---- names that all differ

differ_behind : (ks : List (List ℕ)) (x : List ℕ) → all_differ ks ≡ true → has x ks ≡ false → all_differ (ks ++ x ∷ []) ≡ true
differ_behind [] x d h = refl
differ_behind (k ∷ ks) x d h =
    let n : has k ks ≡ false = not_false (has k ks) (and_left (not (has k ks)) (all_differ ks) d) in
    let e : bytes_eq k x ≡ false = either_way k x ∙ or_none_left (bytes_eq x k) (has x ks) h in
    let here : has k (ks ++ x ∷ []) ≡ false = list_any-append (bytes_eq k) ks (x ∷ []) ∙ ap₂ (λ a b. a || (b || false)) n e in
    ap₂ (λ a b. not a && b) here (differ_behind ks x (and_right (not (has k ks)) (all_differ ks) d) (or_none_right (bytes_eq x k) (has x ks) h))

pub differ_all : (ks xs : List (List ℕ)) → all_differ ks ≡ true → all_differ (insert_all bytes_eq ks xs) ≡ true
differ_all ks [] d = d
differ_all ks (x ∷ xs) d = differ_all (insert_key bytes_eq ks x) xs (by (has x ks) refl)
  where
    by : (b : Bool) → has x ks ≡ b → all_differ (if b then ks else ks ++ x ∷ []) ≡ true
    by true e = d
    by false e = differ_behind ks x d e

pub differ_once : (xs : List (List ℕ)) → all_differ (each_once xs) ≡ true
differ_once xs = differ_all [] xs refl

not_before : (ks : List (List ℕ)) (x : List ℕ) (xs : List (List ℕ)) → all_differ (ks ++ x ∷ xs) ≡ true → has x ks ≡ false
not_before [] x xs d = refl
not_before (k ∷ ks) x xs d =
    let n : has k (ks ++ x ∷ xs) ≡ false = not_false (has k (ks ++ x ∷ xs)) (and_left (not (has k (ks ++ x ∷ xs))) (all_differ (ks ++ x ∷ xs)) d) in
    let m : (has k ks || has k (x ∷ xs)) ≡ false = sym (list_any-append (bytes_eq k) ks (x ∷ xs)) ∙ n in
    let e : bytes_eq k x ≡ false = or_none_left (bytes_eq k x) (has k xs) (or_none_right (has k ks) (has k (x ∷ xs)) m) in
    ap₂ (λ a b. a || b) (either_way x k ∙ e) (not_before ks x xs (and_right (not (has k (ks ++ x ∷ xs))) (all_differ (ks ++ x ∷ xs)) d))

-- names that all differ are put behind others as they are
pub put_as_they_are : (ks xs : List (List ℕ)) → all_differ (ks ++ xs) ≡ true → insert_all bytes_eq ks xs ≡ ks ++ xs
put_as_they_are ks [] d = sym (append-nil ks)
put_as_they_are ks (x ∷ xs) d =
    let new : insert_key bytes_eq ks x ≡ ks ++ x ∷ [] = ap (λ b. if b then ks else ks ++ x ∷ []) (not_before ks x xs d) in
    ap (λ l. insert_all bytes_eq l xs) new
    ∙ put_as_they_are (ks ++ x ∷ []) xs (subst (λ l. all_differ l ≡ true) (sym (append_assoc ks (x ∷ []) xs)) d)
    ∙ append_assoc ks (x ∷ []) xs

-- ---- places

next_place : (p l : ℕ) (b : Bool) → nat_lt p l ≡ b → cond (nat_lt (1 + p) (suc l)) (Some (1 + p)) None ≡ option_map suc (cond b (Some p) None)
next_place p l true e =
    let less : nat_lt (1 + p) (suc l) ≡ true = grind (arith, nat_tests, e) in
    let one : 1 + p ≡ suc p = omega arith in
    ap (λ c. cond {A = Option ℕ} c (Some (1 + p)) None) less ∙ ap Some one
next_place p l false e =
    let less : nat_lt (1 + p) (suc l) ≡ false = grind (arith, nat_tests, e) in
    ap (λ c. cond {A = Option ℕ} c (Some (1 + p)) None) less

place_zero : (l : ℕ) → cond {A = Option ℕ} (nat_lt 0 (suc l)) (Some 0) None ≡ Some 0
place_zero l =
    let less : nat_lt 0 (suc l) ≡ true = grind (arith, nat_tests) in
    ap (λ c. cond {A = Option ℕ} c (Some 0) None) less

pub position_cons : (p : List ℕ → Bool) (x : List ℕ) (xs : List (List ℕ)) → position p (x ∷ xs) ≡ cond {A = Option ℕ} (p x) (Some 0) (option_map suc (position p xs))
position_cons p x xs = by (p x)
  where
    by : (b : Bool) → cond {A = Option ℕ} (nat_lt (cond {A = ℕ} (not b) (1 + position_or_len p xs) 0) (suc (length xs))) (Some (cond {A = ℕ} (not b) (1 + position_or_len p xs) 0)) None ≡ cond {A = Option ℕ} b (Some 0) (option_map suc (position p xs))
    by true = place_zero (length xs)
    by false = next_place (position_or_len p xs) (length xs) (nat_lt (position_or_len p xs) (length xs)) refl

pub place_there : (q : List ℕ) (names : List (List ℕ)) → is_some (place_of q names) ≡ has q names
place_there q [] = refl
place_there q (x ∷ names) = ap is_some (position_cons (bytes_eq q) x names) ∙ by (bytes_eq q x) (place_there q names)
  where
    mapped : (o : Option ℕ) → is_some (option_map suc o) ≡ is_some o
    mapped None = refl
    mapped (Some j) = refl

    by : (b : Bool) → is_some (place_of q names) ≡ has q names → is_some (cond {A = Option ℕ} b (Some 0) (option_map suc (place_of q names))) ≡ (b || has q names)
    by true r = refl
    by false r = mapped (place_of q names) ∙ r

-- a place stays where names are put behind
pub place_kept : (q : List ℕ) (ks more : List (List ℕ)) (i : ℕ) → place_of q ks ≡ Some i → place_of q (ks ++ more) ≡ Some i
place_kept q [] more i e = absurd (cc)
place_kept q (k ∷ ks) more i e = position_cons (bytes_eq q) k (ks ++ more) ∙ by (bytes_eq q k) (λ j r. place_kept q ks more j r) (sym (position_cons (bytes_eq q) k ks) ∙ e)
  where
    inner : (o : Option ℕ) → place_of q ks ≡ o → ((j : ℕ) → place_of q ks ≡ Some j → place_of q (ks ++ more) ≡ Some j) → option_map suc o ≡ Some i → option_map suc (place_of q (ks ++ more)) ≡ Some i
    inner None r rec f = absurd (cc)
    inner (Some j) r rec f = ap (option_map suc) (rec j r) ∙ f

    by : (b : Bool) → ((j : ℕ) → place_of q ks ≡ Some j → place_of q (ks ++ more) ≡ Some j) → cond {A = Option ℕ} b (Some 0) (option_map suc (place_of q ks)) ≡ Some i → cond {A = Option ℕ} b (Some 0) (option_map suc (place_of q (ks ++ more))) ≡ Some i
    by true rec f = f
    by false rec f = inner (place_of q ks) refl rec f

pub place_in_all : (q : List ℕ) (ks xs : List (List ℕ)) (i : ℕ) → place_of q ks ≡ Some i → place_of q (insert_all bytes_eq ks xs) ≡ Some i
place_in_all q ks [] i e = e
place_in_all q ks (x ∷ xs) i e = place_in_all q (insert_key bytes_eq ks x) xs i (by (has x ks))
  where
    by : (b : Bool) → place_of q (if b then ks else ks ++ x ∷ []) ≡ Some i
    by true = e
    by false = place_kept q ks (x ∷ []) i e

-- names that are put down first, each once, keep their places
pub place_from_first : (q : List ℕ) (xs more : List (List ℕ)) (i : ℕ) → place_of q (each_once xs) ≡ Some i → place_of q (each_once (each_once xs ++ more)) ≡ Some i
place_from_first q xs more i e =
    ap (place_of q) (fold-append (insert_key bytes_eq) [] (each_once xs) more ∙ ap (λ l. insert_all bytes_eq l more) (put_as_they_are [] (each_once xs) (differ_once xs)))
    ∙ place_in_all q (each_once xs) more i e

-- the name at a place
pub at_place : (names : List (List ℕ)) (i : ℕ) (n : List ℕ) → place_of n names ≡ Some i → slice_get names i ≡ Some n
at_place [] i n e = absurd (cc)
at_place (x ∷ names) i n e = by (bytes_eq n x) refl (λ j r. at_place names j n r) (sym (position_cons (bytes_eq n) x names) ∙ e)
  where
    inner : (o : Option ℕ) → place_of n names ≡ o → ((j : ℕ) → place_of n names ≡ Some j → slice_get names j ≡ Some n) → option_map suc o ≡ Some i → slice_get (x ∷ names) i ≡ Some n
    inner None r rec f = absurd (cc)
    inner (Some j) r rec f = ap (slice_get (x ∷ names)) (sym (same_Some (suc j) i f)) ∙ rec j r

    by : (b : Bool) → bytes_eq n x ≡ b → ((j : ℕ) → place_of n names ≡ Some j → slice_get names j ≡ Some n) → cond {A = Option ℕ} b (Some 0) (option_map suc (place_of n names)) ≡ Some i → slice_get (x ∷ names) i ≡ Some n
    by true r rec f = ap (slice_get (x ∷ names)) (sym (same_Some 0 i f)) ∙ ap Some (sym (same n x r))
    by false r rec f = inner (place_of n names) refl rec f

other : (x n : List ℕ) (names : List (List ℕ)) (i : ℕ) → has x names ≡ false → slice_get names i ≡ Some n → bytes_eq n x ≡ false
other x n [] i h e = absurd (cc)
other x n (y ∷ names) zero h e = either_way n x ∙ subst (λ z. bytes_eq x z ≡ false) (same_Some y n e) (or_none_left (bytes_eq x y) (has x names) h)
other x n (y ∷ names) (suc i) h e = other x n names i (or_none_right (bytes_eq x y) (has x names) h) e

-- and the place of a name in names that all differ
pub place_at : (names : List (List ℕ)) (i : ℕ) (n : List ℕ) → all_differ names ≡ true → slice_get names i ≡ Some n → place_of n names ≡ Some i
place_at [] i n d e = absurd (cc)
place_at (x ∷ names) zero n d e =
    position_cons (bytes_eq n) x names
    ∙ ap (λ b. cond {A = Option ℕ} b (Some 0) (option_map suc (place_of n names))) (subst (λ z. bytes_eq z x ≡ true) (same_Some x n e) (itself x))
place_at (x ∷ names) (suc i) n d e =
    let new : has x names ≡ false = not_false (has x names) (and_left (not (has x names)) (all_differ names) d) in
    position_cons (bytes_eq n) x names
    ∙ ap₂ (λ b o. cond {A = Option ℕ} b (Some 0) (option_map suc o)) (other x n names i new e) (place_at names i n (and_right (not (has x names)) (all_differ names) d) e)

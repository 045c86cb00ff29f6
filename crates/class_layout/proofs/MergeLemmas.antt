-- Counts of the classes behind the heads of rows, and what a step of a merge changes of them.
use Rattle.std.proofs.Common.{◌≡◌, ℕ, zero, suc, ◌+◌, ◌-◌, ◌<◌, ◌≤◌, Bool, true, false, not, ◌||◌, ◌==◌, cond, List, [], ◌∷◌, ◌++◌, length, map, drop, take, find, get_or, slice_get, add-one, drop-cons, Option, Some, None, refl, sym, ap, ◌∙◌, if◌then◌else◌, arith, length-append}
use Rattle.std.specs.List.{list_any, flat_map}
use Rattle.std.specs.Option.{option_map, option_or}
use Rattle.std.specs.Borrow.{Bor}
use Rattle.std.proofs.lemmas.Bool.{eq-eqb}
use Rattle.std.proofs.lemmas.Bool.Decides.{nat_tests}
use Rattle.py_typed.specs.Classes.{has_class}
use Rattle.py_typed.specs.Order.{is_free, heads, headless, merge_by, merge}
use Rattle.class_layout.specs.Merging.{has_first, next, once, rows_of, entries, times, times_behind, behind}

pub none_or : (xs : List ℕ) (c : ℕ) → slice_get xs c ≡ None → 0 ≡ get_or xs c 0
none_or [] c e = refl
none_or (x ∷ xs) zero e = absurd (cc)
none_or (x ∷ xs) (suc c) e = none_or xs c e

pub entries_joined : (rows : List (List ℕ)) → entries rows ≡ length (flat_map (λ row. row) rows)
entries_joined [] = refl
entries_joined (row ∷ rows) = ap (λ n. length row + n) (entries_joined rows) ∙ sym (length-append row (flat_map (λ row. row) rows))

-- ---- a class is free exactly where it stands behind no head

none_of : (c : ℕ) (row : List ℕ) → (times c row == 0) ≡ not (has_class c row)
none_of c [] = refl
none_of c (d ∷ row) = by (d == c) (none_of c row)
  where
    by : (b : Bool) → (times c row == 0) ≡ not (has_class c row) → ((if b then suc (times c row) else times c row) == 0) ≡ not (b || has_class c row)
    by true e = grind (arith, nat_tests)
    by false e = e

sum_none : (a b : ℕ) (p q : Bool) → (a == 0) ≡ not p → (b == 0) ≡ not q → ((a + b) == 0) ≡ not (p || q)
sum_none a b p q e f = grind (arith, nat_tests, e, f)

pub free_where_none : (c : ℕ) (rows : List (List ℕ)) → (times_behind c rows == 0) ≡ is_free rows c
free_where_none c [] = refl
free_where_none c (row ∷ rows) = sum_none (times c (drop 1 row)) (times_behind c rows) (has_class c (drop 1 row)) (list_any (λ row. has_class c (drop 1 row)) rows) (none_of c (drop 1 row)) (free_where_none c rows)

-- ---- what comes to the head is counted off

pub one_by_one : (k e : ℕ) (row : List ℕ) → times k (e ∷ row) ≡ times k row + times k (e ∷ [])
one_by_one k e row = by (e == k)
  where
    by : (b : Bool) → (if b then suc (times k row) else times k row) ≡ times k row + (if b then suc 0 else 0)
    by true = omega arith
    by false = omega arith

first_off : (k : ℕ) (row : List ℕ) → times k row ≡ times k (drop 1 row) + once k (slice_get row 0)
first_off k [] = refl
first_off k (e ∷ row) = one_by_one k e row

pub next_off : (k c : ℕ) (row : List ℕ) → times k (drop 1 row) ≡ times k (drop 1 (headless c row)) + once k (next row c)
next_off k c [] = refl
next_off k c (d ∷ row) = by (d == c)
  where
    by : (b : Bool) → times k row ≡ times k (drop 1 (if b then row else d ∷ row)) + once k (if b then slice_get row 0 else None)
    by true = first_off k row
    by false = omega arith

pub headless_less : (k c : ℕ) (rows : List (List ℕ)) → times_behind k (map (headless c) rows) ≤ times_behind k rows
headless_less k c [] = omega arith
headless_less k c (row ∷ rows) =
    let a = next_off k c row in
    let b = headless_less k c rows in
    omega (arith, a, b)

-- a step of counting off: what was counted for a row and those behind it
pub counted_on : (k c : ℕ) (row : List ℕ) (rows : List (List ℕ)) (before after whole : ℕ) → before ≡ after + once k (next row c)
    → before + times_behind k (map (headless c) (row ∷ rows)) ≡ whole + times_behind k (row ∷ rows)
    → after + times_behind k (map (headless c) rows) ≡ whole + times_behind k rows
counted_on k c row rows before after whole p q =
    let a = next_off k c row in
    omega (arith, a, p, q)

itself_once : (x : ℕ) → times x (x ∷ []) ≡ suc 0
itself_once x = by (x == x) (eq-eqb x x refl)
  where
    by : (b : Bool) → b ≡ true → (if b then suc 0 else 0) ≡ suc 0
    by true e = refl
    by false e = absurd (cc)

pub is_counted : (x c : ℕ) (row : List ℕ) (rows : List (List ℕ)) (before whole : ℕ) → next row c ≡ Some x
    → before + times_behind x (map (headless c) (row ∷ rows)) ≡ whole + times_behind x (row ∷ rows) → 0 < before
is_counted x c row rows before whole p q =
    let a = next_off x c row in
    let b : once x (next row c) ≡ suc 0 = ap (once x) p ∙ itself_once x in
    let d = headless_less x c rows in
    omega (arith, a, b, d, q)

-- ---- a step of a merge

together : (xs more : List ℕ) (c : ℕ) → xs ++ c ∷ more ≡ (xs ++ c ∷ []) ++ more
together [] more c = refl
together (x ∷ xs) more c = ap (λ ys. x ∷ ys) (together xs more c)

further : (merged : List ℕ) (c : ℕ) (o : Option (List ℕ)) → behind merged (option_map (λ more. c ∷ more) o) ≡ behind (merged ++ c ∷ []) o
further merged c None = refl
further merged c (Some more) = ap Some (together merged more c)

-- where a head is free it is taken
taken : (n : ℕ) (rows : List (List ℕ)) (c : ℕ) → find (is_free rows) (heads rows) ≡ Some c → merge_by (suc n) rows ≡ option_map (λ more. c ∷ more) (merge_by n (map (headless c) rows))
taken n rows c e = by (heads rows) refl
  where
    by : (hs : List ℕ) → heads rows ≡ hs → merge_by (suc n) rows ≡ option_map (λ more. c ∷ more) (merge_by n (map (headless c) rows))
    by [] q = absurd (cc (sym (ap (find (is_free rows)) q) ∙ e))
    by (h ∷ hs) q = rw (q, sym (ap (find (is_free rows)) q) ∙ e) refl

pub step_taken : (n : ℕ) (merged : List ℕ) (rows : List (List ℕ)) (c : ℕ) → find (is_free rows) (heads rows) ≡ Some c
    → behind merged (merge_by (suc n) rows) ≡ behind (merged ++ c ∷ []) (merge_by n (map (headless c) rows))
step_taken n merged rows c e = ap (behind merged) (taken n rows c e) ∙ further merged c (merge_by n (map (headless c) rows))

none_behind : (xs : List ℕ) → xs ++ [] ≡ xs
none_behind [] = refl
none_behind (x ∷ xs) = ap (λ ys. x ∷ ys) (none_behind xs)

-- where no head is free the merge is at its end, or there is none
pub step_ended : (n : ℕ) (merged : List ℕ) (rows : List (List ℕ)) → find (is_free rows) (heads rows) ≡ None
    → behind merged (merge_by (suc n) rows) ≡ (if has_first (heads rows) then None else Some merged)
step_ended n merged rows e = by (heads rows) refl
  where
    by : (hs : List ℕ) → heads rows ≡ hs → behind merged (merge_by (suc n) rows) ≡ (if has_first (heads rows) then None else Some merged)
    by [] q = rw (q) (ap Some (none_behind merged))
    by (h ∷ hs) q = rw (q, sym (ap (find (is_free rows)) q) ∙ e) refl

pub all_taken : (merged : List ℕ) (rows : List (List ℕ)) → behind merged (merge_by 0 rows) ≡ Some merged
all_taken merged rows = ap Some (none_behind merged)

-- ---- the rows of the program from one on

pub rows_from : (rows : List (Bor (List ℕ))) (i : ℕ) (d : Bor (List ℕ)) → i < length rows → rows_of (drop i rows) ≡ (get_or rows i d).now ∷ rows_of (drop (i + 1) rows)
rows_from rows i d h = rw add-one (ap rows_of (drop-cons rows i d h))

in_first_row : (test : ℕ → Bool) (row : List ℕ) (rest : List ℕ) (o : Option ℕ) → find test (take 1 row) ≡ o → find test (take 1 row ++ rest) ≡ option_or o (find test rest)
in_first_row test [] rest o e = ap (λ x. option_or x (find test rest)) e
in_first_row test (d ∷ row) rest o e = by (test d) e
  where
    by : (b : Bool) → cond b (Some d) None ≡ o → cond b (Some d) (find test rest) ≡ option_or o (find test rest)
    by true q = ap (λ x. option_or x (find test rest)) q
    by false q = ap (λ x. option_or x (find test rest)) q

-- a test that is the same has the same first
pub find_alike : (f g : ℕ → Bool) → ((c : ℕ) → f c ≡ g c) → (cs : List ℕ) → find f cs ≡ find g cs
find_alike f g h [] = refl
find_alike f g h (c ∷ cs) = ap (λ b. cond b (Some c) (find f cs)) (h c) ∙ ap (λ o. cond (g c) (Some c) o) (find_alike f g h cs)

pub found_here : (all rows more : List (List ℕ)) (row : List ℕ) (c : ℕ) (whole : Option ℕ) → rows ≡ row ∷ more → find (is_free all) (heads rows) ≡ whole → find (is_free all) (take 1 row) ≡ Some c → Some c ≡ whole
found_here all rows more row c whole p q r = sym (in_first_row (is_free all) row (heads more) (Some c) r) ∙ ap (λ x. find (is_free all) (heads x)) (sym p) ∙ q

pub not_here : (all rows more : List (List ℕ)) (row : List ℕ) (whole : Option ℕ) → rows ≡ row ∷ more → find (is_free all) (heads rows) ≡ whole → find (is_free all) (take 1 row) ≡ None → find (is_free all) (heads more) ≡ whole
not_here all rows more row whole p q r = sym (in_first_row (is_free all) row (heads more) None r) ∙ ap (λ x. find (is_free all) (heads x)) (sym p) ∙ q

-- what was counted nowhere is free
pub unmet_is_free : (rows : List (List ℕ)) (counts : List ℕ) (cs : List ℕ) → ((c : ℕ) → get_or counts c 0 ≡ times_behind c rows) → find (λ c. get_or counts c 0 == 0) cs ≡ find (is_free rows) cs
unmet_is_free rows counts cs h = find_alike (λ c. get_or counts c 0 == 0) (is_free rows) (λ c. ap (λ n. n == 0) (h c) ∙ free_where_none c rows) cs

pub starts : (n : ℕ) (merged : List ℕ) (rows : List (List ℕ)) → n ≡ entries rows → behind merged (merge_by (n - 0) rows) ≡ behind merged (merge rows)
starts n merged rows q =
    let whole : n - 0 ≡ n = omega arith in
    ap (λ k. behind merged (merge_by k rows)) (whole ∙ q ∙ entries_joined rows)

-- The clash along a row of classes.
use Rattle.std.proofs.Common.{◌≡◌, ℕ, Bool, true, false, cond, ◌||◌, ◌&&◌, List, [], ◌∷◌, find, flat_map, Option, Some, None, refl, sym, ap, ap₂, ◌∙◌, option_map}
use Rattle.std.specs.List.{list_any}
use Rattle.std.specs.Option.{option_and_then}
use Rattle.std.specs.Map.{lookup}
use Rattle.std.specs.Str.{bytes_eq}
use Rattle.std.proofs.lemmas.List.Folds.{list_any-append}
use Rattle.class_layout_members.specs.Clashes.{Definition, differs, clashes, is_other}
use Rattle.std.proofs.lemmas.Option.{same_Some}
use Rattle.class_layout_members.proofs.RowLemmas.{same}
use Rattle.py_check_overrides.specs.Overrides.{Own, clash_in, defined, own_of, all_along, defined_along, clashing, says_other, clash_along}

-- ---- rows

find_none : {A : Type 0} (test : A → Bool) (row : List A) → find test row ≡ None → list_any test row ≡ false
find_none test [] e = refl
find_none test (a ∷ row) e = by (test a) e (λ r. find_none test row r)
  where
    by : (b : Bool) → cond b (Some a) (find test row) ≡ None → (find test row ≡ None → list_any test row ≡ false) → (b || list_any test row) ≡ false
    by true e rec = absurd (cc)
    by false e rec = rec e

find_some : {A : Type 0} (test : A → Bool) (row : List A) (a : A) → find test row ≡ Some a → test a ≡ true
find_some test [] a e = absurd (cc)
find_some {A = A} test (b ∷ row) a e = by (test b) refl e (λ r. find_some test row a r)
  where
    by : (t : Bool) → test b ≡ t → cond t (Some b) (find test row) ≡ Some a → (find test row ≡ Some a → test a ≡ true) → test a ≡ true
    by true is e rec = ap test (sym (same_Some b a e)) ∙ is
    by false is e rec = rec e

any_flat : {A B : Type 0} (test : B → Bool) (f : A → List B) (row : List A) → list_any test (flat_map f row) ≡ list_any (λ a. list_any test (f a)) row
any_flat test f [] = refl
any_flat test f (a ∷ row) = list_any-append test (f a) (flat_map f row) ∙ ap (λ b. list_any test (f a) || b) (any_flat test f row)

both_false : (a b : Bool) → (a || b) ≡ false → (a ≡ false) × (b ≡ false)
both_false true b e = absurd (cc)
both_false false b e = (refl, e)

pub not_both : (b : Bool) → b ≡ true → b ≡ false → ⊥
not_both true e f = cc
not_both false e f = cc

-- a test of names
names_any : (g : List ℕ → Bool) (row : List Own) → list_any (λ p. g p.0) row ≡ false → list_any (λ p. g p.0) (defined row) ≡ false
names_any g [] h = refl
names_any g (p ∷ row) h =
    let parts : _ = both_false (g p.0) (list_any (λ (r : Own). g r.0) row) h in
    by p.1 parts.0 (names_any g row parts.1)
  where
    by : (o : Option Definition) → g p.0 ≡ false → list_any (λ r. g r.0) (defined row) ≡ false → list_any (λ r. g r.0) (defined ((p.0, o) ∷ row)) ≡ false
    by None n rec = rec
    by (Some d) n rec = ap₂ (λ a b. a || b) n rec

names_along : (owns : List (List Own)) (g : List ℕ → Bool) (row : List ℕ) → list_any (λ p. g p.0) (all_along owns row) ≡ false → list_any (λ p. g p.0) (defined_along owns row) ≡ false
names_along owns g [] h = refl
names_along owns g (c ∷ row) h =
    let parts : _ = both_false (list_any (λ (p : Own). g p.0) (own_of owns c)) (list_any (λ (p : Own). g p.0) (all_along owns row)) (sym (list_any-append (λ (p : Own). g p.0) (own_of owns c) (all_along owns row)) ∙ h) in
    list_any-append (λ (p : List ℕ × Definition). g p.0) (defined (own_of owns c)) (defined_along owns row)
    ∙ ap₂ (λ a b. a || b) (names_any g (own_of owns c) parts.0) (names_along owns g row parts.1)

-- ---- where nothing is told, none clashes

none_named : (g : List ℕ → Bool) (test : List ℕ × Definition → Bool) (q : List ℕ) (row : List (List ℕ × Definition)) → g q ≡ true → list_any (λ p. g p.0) row ≡ false → list_any (λ p. bytes_eq q p.0 && test p) row ≡ false
none_named g test q [] is h = refl
none_named g test q (p ∷ row) is h =
    let parts : _ = both_false (g p.0) (list_any (λ (r : List ℕ × Definition). g r.0) row) h in
    ap₂ (λ a b. a || b) (by (bytes_eq q p.0) refl parts.0) (none_named g test q row is parts.1)
  where
    by : (b : Bool) → bytes_eq q p.0 ≡ b → g p.0 ≡ false → (b && test p) ≡ false
    by true e n = absurd (not_both (g q) is (ap g (same q p.0 e) ∙ n))
    by false e n = refl

pub quiet : (owns : List (List Own)) (row : List ℕ) → clash_along owns row ≡ None → (q : List ℕ) → clashes (defined_along owns row) q ≡ false
quiet owns row e q = by (find (λ p. clashes (defined_along owns row) p.0) (all_along owns row)) refl e
  where
    all : List (List ℕ × Definition)
    all = defined_along owns row

    class_none : (name : List ℕ) (o : Option ℕ) → option_map (clash_in name) o ≡ None → o ≡ None
    class_none name None e = refl
    class_none name (Some c) e = absurd (cc)

    is_clashing : (b : Bool) → clashes all q ≡ b → list_any (λ p. clashes all p.0) all ≡ false → clashes all q ≡ false
    is_clashing true is none = none_named (clashes all) (differs all) q all is none
    is_clashing false is none = is

    by : (o : Option Own) → find (λ p. clashes all p.0) (all_along owns row) ≡ o → option_and_then (λ name. option_map (clash_in name) (find (says_other owns row name) row)) (option_map (λ (p : Own). p.0) o) ≡ None → clashes all q ≡ false
    by None is e = is_clashing (clashes all q) refl (names_along owns (clashes all) row (find_none (λ (p : Own). clashes all p.0) (all_along owns row) is))
    by (Some p) is e =
        let yes : clashes all p.0 ≡ true = find_some (λ (r : Own). clashes all r.0) (all_along owns row) p is in
        let no : clashes all p.0 ≡ false =
        any_flat (λ r. bytes_eq p.0 r.0 && differs all r) (λ c. defined (own_of owns c)) row ∙ find_none (says_other owns row p.0) row (class_none p.0 (find (says_other owns row p.0) row) e) in
        absurd (not_both (clashes all p.0) yes no)

-- and the other way round
pub none_told : (owns : List (List Own)) (row : List ℕ) → ((q : List ℕ) → clashes (defined_along owns row) q ≡ false) → clash_along owns row ≡ None
none_told owns row h = ap (λ o. option_and_then (λ name. option_map (clash_in name) (find (says_other owns row name) row)) (option_map (λ (p : Own). p.0) o)) (none (all_along owns row))
  where
    none : (rest : List Own) → find (λ p. clashes (defined_along owns row) p.0) rest ≡ None
    none [] = refl
    none (p ∷ rest) = ap (λ b. cond b (Some p) (find (λ r. clashes (defined_along owns row) r.0) rest)) (h p.0) ∙ none rest

-- ---- the same tests

any_alike : {A : Type 0} (f g : A → Bool) → ((a : A) → f a ≡ g a) → (row : List A) → list_any f row ≡ list_any g row
any_alike f g h [] = refl
any_alike f g h (a ∷ row) = ap₂ (λ x y. x || y) (h a) (any_alike f g h row)

find_alike : {A : Type 0} (f g : A → Bool) → ((a : A) → f a ≡ g a) → (row : List A) → find f row ≡ find g row
find_alike f g h [] = refl
find_alike f g h (a ∷ row) = ap₂ (λ b o. cond b (Some a) o) (h a) (find_alike f g h row)

pub says_other_is : (owns : List (List Own)) (row : List ℕ) (name : List ℕ) (firsts : List ℕ → Option Definition) → ((q : List ℕ) → firsts q ≡ lookup (bytes_eq q) (defined_along owns row))
    → (c : ℕ) → list_any (λ p. bytes_eq name p.0 && is_other p.0 (firsts p.0) p.1) (defined (own_of owns c)) ≡ says_other owns row name c
says_other_is owns row name firsts h c =
    any_alike (λ p. bytes_eq name p.0 && is_other p.0 (firsts p.0) p.1) (λ p. bytes_eq name p.0 && differs (defined_along owns row) p) (λ p. ap (λ o. bytes_eq name p.0 && is_other p.0 o p.1) (h p.0)) (defined (own_of owns c))

pub clashing_is : (owns : List (List Own)) (row : List ℕ) (all : List Own) (row_defined : List (List ℕ × Definition)) (f : List ℕ → Bool) → all ≡ all_along owns row → row_defined ≡ defined_along owns row
    → ((q : List ℕ) → f q ≡ clashes row_defined q) → option_map (λ (p : Own). p.0) (find (λ p. f p.0) all) ≡ clashing owns row
clashing_is owns row all row_defined f is are h =
    ap (λ l. option_map (λ (p : Own). p.0) (find (λ p. f p.0) l)) is
    ∙ ap (option_map (λ (p : Own). p.0)) (find_alike (λ p. f p.0) (λ p. clashes (defined_along owns row) p.0) (λ p. h p.0 ∙ ap (λ l. clashes l p.0) are) (all_along owns row))

-- Rows of names, each once, and the places of names in them.
use Rattle.std.proofs.Common.{◌≡◌, ℕ, zero, suc, ◌+◌, Bool, true, false, not, ◌||◌, cond, List, [], ◌∷◌, ◌++◌, map, filter, slice_get, Some, refl, ap, sym, ◌∙◌, one-add}
use Rattle.std.proofs.lemmas.Bool.{and_from, or_parts, or_left, or_right}
use Rattle.std.proofs.lemmas.Slice.Eq.{bytes_eq-Decides}
use Rattle.std.specs.Cmp.Lexicographic.{nat_list_eq_equiv}
use Rattle.std.specs.List.{list_all}
use Rattle.std.specs.Str.{bytes_eq}
use Rattle.py_typed.specs.WellTyped.{is_called_in, all_differ}
use Rattle.py_typed.proofs.FitLemmas.{and_left, and_right}
use Rattle.py_binder.specs.declared.scope.Role.{Role}
use Rattle.py_binder.specs.Scope.{contains, Roles, first_sights, scope_of}
use Rattle.py_check_names.specs.Meanings.{names_of, number}

clash : {A : Type 0} (b : Bool) → b ≡ true → b ≡ false → A
clash true p q = absurd (cc)
clash false p q = absurd (cc)

pub same_text : (x y : List ℕ) → bytes_eq x y ≡ true → x ≡ y
same_text x y e = (bytes_eq-Decides x y).0 e

pub text_is_itself : (x : List ℕ) → bytes_eq x x ≡ true
text_is_itself x = (bytes_eq-Decides x x).1 refl

pub swapped : (x y : List ℕ) → bytes_eq x y ≡ bytes_eq y x
swapped x y = nat_list_eq_equiv.symm x y

not_not : (b : Bool) → not b ≡ true → b ≡ false
not_not true h = absurd (cc)
not_not false h = refl

-- ---- what passes a test

module _ (p : List ℕ → Bool) where
  pub filter_keeps : (ys : List (List ℕ)) (x : List ℕ) → p x ≡ true → contains (filter p ys) x ≡ contains ys x
  filter_keeps [] x h = refl
  filter_keeps (y ∷ ys) x h = by (p y) refl (bytes_eq x y) refl (filter_keeps ys x h)
    where
      by : (b : Bool) → p y ≡ b → (c : Bool) → bytes_eq x y ≡ c → contains (filter p ys) x ≡ contains ys x → contains (cond b (y ∷ filter p ys) (filter p ys)) x ≡ (bytes_eq x y || contains ys x)
      by true q c r rest = ap (λ b. bytes_eq x y || b) rest
      by false q true r rest = clash (p y) (ap p (sym (same_text x y r)) ∙ h) q
      by false q false r rest = rest ∙ sym (ap (λ b. b || contains ys x) r)

  pub filter_drops : (ys : List (List ℕ)) (x : List ℕ) → p x ≡ false → contains (filter p ys) x ≡ false
  filter_drops [] x h = refl
  filter_drops (y ∷ ys) x h = by (p y) refl (bytes_eq x y) refl (filter_drops ys x h)
    where
      by : (b : Bool) → p y ≡ b → (c : Bool) → bytes_eq x y ≡ c → contains (filter p ys) x ≡ false → contains (cond b (y ∷ filter p ys) (filter p ys)) x ≡ false
      by true q true r rest = clash (p y) q (ap p (sym (same_text x y r)) ∙ h)
      by true q false r rest = ap (λ b. b || contains (filter p ys) x) r ∙ rest
      by false q c r rest = rest

  pub filtered : (ys : List (List ℕ)) (x : List ℕ) → contains (filter p ys) x ≡ true → (p x ≡ true) × (contains ys x ≡ true)
  filtered ys x h = by (p x) refl
    where
      by : (b : Bool) → p x ≡ b → (p x ≡ true) × (contains ys x ≡ true)
      by true q = (q, sym (filter_keeps ys x q) ∙ h)
      by false q = clash (contains (filter p ys) x) h (filter_drops ys x q)

  pub filter_less : (ys : List (List ℕ)) (x : List ℕ) → contains ys x ≡ false → contains (filter p ys) x ≡ false
  filter_less [] x h = refl
  filter_less (y ∷ ys) x h = let r = or_parts (bytes_eq x y) (contains ys x) h in by (p y) r.0 (filter_less ys x r.1)
    where
      by : (b : Bool) → bytes_eq x y ≡ false → contains (filter p ys) x ≡ false → contains (cond b (y ∷ filter p ys) (filter p ys)) x ≡ false
      by true q rest = ap (λ b. b || contains (filter p ys) x) q ∙ rest
      by false q rest = rest

  pub differ_filter : (ys : List (List ℕ)) → all_differ ys ≡ true → all_differ (filter p ys) ≡ true
  differ_filter [] h = refl
  differ_filter (y ∷ ys) h = by (p y) (differ_filter ys (and_right (not (is_called_in ys y)) (all_differ ys) h))
    where
      by : (b : Bool) → all_differ (filter p ys) ≡ true → all_differ (cond b (y ∷ filter p ys) (filter p ys)) ≡ true
      by true rest = and_from (not (is_called_in (filter p ys) y)) (all_differ (filter p ys)) (ap not (filter_less ys y (not_not (is_called_in ys y) (and_left (not (is_called_in ys y)) (all_differ ys) h)))) rest
      by false rest = rest

  pub filter_two : (xs ys : List (List ℕ)) → filter p (xs ++ ys) ≡ filter p xs ++ filter p ys
  filter_two [] ys = refl
  filter_two (x ∷ xs) ys = by (p x) (filter_two xs ys)
    where
      by : (b : Bool) → filter p (xs ++ ys) ≡ filter p xs ++ filter p ys → cond b (x ∷ filter p (xs ++ ys)) (filter p (xs ++ ys)) ≡ cond b (x ∷ filter p xs) (filter p xs) ++ filter p ys
      by true h = ap (λ l. x ∷ l) h
      by false h = h

  pub filter_all : (xs : List (List ℕ)) → list_all p xs ≡ true → filter p xs ≡ xs
  filter_all [] h = refl
  filter_all (x ∷ xs) h = ap (λ b. cond b (x ∷ filter p xs) (filter p xs)) (and_left (p x) (list_all p xs) h) ∙ ap (λ l. x ∷ l) (filter_all xs (and_right (p x) (list_all p xs) h))

-- ---- each once

abbrev others : List ℕ → List ℕ → Bool
others name other = not (bytes_eq other name)

-- nothing is lost
pub sights_have : (xs : List (List ℕ)) (x : List ℕ) → contains (first_sights xs) x ≡ contains xs x
sights_have [] x = refl
sights_have (n ∷ xs) x = by (sights_have xs x) (bytes_eq x n) refl
  where
    by : contains (first_sights xs) x ≡ contains xs x → (b : Bool) → bytes_eq x n ≡ b → (bytes_eq x n || contains (filter (others n) (first_sights xs)) x) ≡ (bytes_eq x n || contains xs x)
    by rest true q = ap (λ b. b || contains (filter (others n) (first_sights xs)) x) q ∙ sym (ap (λ b. b || contains xs x) q)
    by rest false q = ap (λ b. bytes_eq x n || b) (filter_keeps (others n) (first_sights xs) x (ap not q) ∙ rest)

pub sights_differ : (xs : List (List ℕ)) → all_differ (first_sights xs) ≡ true
sights_differ [] = refl
sights_differ (n ∷ xs) =
    and_from (not (is_called_in (filter (others n) (first_sights xs)) n)) (all_differ (filter (others n) (first_sights xs))) (ap not (filter_drops (others n) (first_sights xs) n (ap not (text_is_itself n))))
    (differ_filter (others n) (first_sights xs) (sights_differ xs))

none_is : (xs : List (List ℕ)) (n : List ℕ) → contains xs n ≡ false → list_all (others n) xs ≡ true
none_is [] n h = refl
none_is (x ∷ xs) n h = let r = or_parts (bytes_eq n x) (contains xs n) h in and_from (others n x) (list_all (others n) xs) (ap not (swapped x n ∙ r.0)) (none_is xs n r.1)

-- names that differ are seen as they stand, also in front of others
pub sights_front : (xs ys : List (List ℕ)) → all_differ xs ≡ true → (zs : List (List ℕ)) × (first_sights (xs ++ ys) ≡ xs ++ zs)
sights_front [] ys h = (first_sights ys, refl)
sights_front (x ∷ xs) ys h =
    let r = sights_front xs ys (and_right (not (is_called_in xs x)) (all_differ xs) h) in (
      filter (others x) r.0,
      ap (λ l. x ∷ filter (others x) l) r.1 ∙ ap (λ l. x ∷ l) (filter_two (others x) xs r.0 ∙ ap (λ l. l ++ filter (others x) r.0) (filter_all (others x) xs (none_is xs x (not_not (is_called_in xs x) (and_left (not (is_called_in xs x)) (all_differ xs) h))))),
    )

pub sights_same : (xs : List (List ℕ)) → all_differ xs ≡ true → first_sights xs ≡ xs
sights_same [] h = refl
sights_same (x ∷ xs) h =
    ap (λ l. x ∷ filter (others x) l) (sights_same xs (and_right (not (is_called_in xs x)) (all_differ xs) h))
    ∙ ap (λ l. x ∷ l) (filter_all (others x) xs (none_is xs x (not_not (is_called_in xs x) (and_left (not (is_called_in xs x)) (all_differ xs) h))))

-- ---- names of a kind

module _ (kind : Role → Bool) (role : List ℕ → Role) where
  abbrev is_kind : List ℕ → Bool
  is_kind n = kind (role n)

  abbrev with_role : List ℕ → List ℕ × Role
  with_role n = (n, role n)

  pub of_kind : (ns : List (List ℕ)) → map (λ (p : List ℕ × Role). p.0) (filter (λ (p : List ℕ × Role). kind p.1) (map with_role ns)) ≡ filter is_kind ns
  of_kind [] = refl
  of_kind (n ∷ ns) = by (kind (role n)) (of_kind ns)
    where
      firsts : List (List ℕ × Role) → List (List ℕ)
      firsts = map (λ (p : List ℕ × Role). p.0)

      by : (b : Bool) → map (λ (p : List ℕ × Role). p.0) (filter (λ (p : List ℕ × Role). kind p.1) (map with_role ns)) ≡ filter is_kind ns
          → map (λ (p : List ℕ × Role). p.0) (cond b (with_role n ∷ filter (λ (p : List ℕ × Role). kind p.1) (map with_role ns)) (filter (λ (p : List ℕ × Role). kind p.1) (map with_role ns))) ≡ cond b (n ∷ filter is_kind ns) (filter is_kind ns)
      by true h = ap (λ l. n ∷ l) h
      by false h = h

  -- the names of a kind among names that differ
  pub kind_names : (ns : List (List ℕ)) → all_differ ns ≡ true → names_of kind (map with_role ns) ≡ filter is_kind ns
  kind_names ns h = ap first_sights (of_kind ns) ∙ sights_same (filter is_kind ns) (differ_filter is_kind ns h)

-- the names of a kind in a scope
pub scope_names : (kind : Role → Bool) (roles : Roles) (seen : List (List ℕ)) → names_of kind (scope_of roles seen).names ≡ filter (λ n. kind (roles n)) (first_sights seen)
scope_names kind roles seen = kind_names kind roles (first_sights seen) (sights_differ seen)

-- ---- places

place_by : (names : List (List ℕ)) (x y : List ℕ) (b : Bool) → bytes_eq x y ≡ b → contains (y ∷ names) x ≡ true → (contains names x ≡ true → slice_get names (number names x) ≡ Some x) → slice_get (y ∷ names) (cond (not b) (1 + number names x) 0) ≡ Some x
place_by names x y true q h next = ap Some (sym (same_text x y q))
place_by names x y false q h next = ap (slice_get (y ∷ names)) (one-add (number names x)) ∙ next (sym (ap (λ b. b || contains names x) q) ∙ h)

-- at the number of a name stands the name
pub place_of : (names : List (List ℕ)) (x : List ℕ) → contains names x ≡ true → slice_get names (number names x) ≡ Some x
place_of [] x h = absurd (cc)
place_of (y ∷ names) x h = ap (λ b. slice_get (y ∷ names) (cond (not b) (1 + number names x) 0)) refl ∙ place_by names x y (bytes_eq x y) refl h (λ q. place_of names x q)

-- what stands at a place is among the names
pub at_place : (names : List (List ℕ)) (i : ℕ) (x : List ℕ) → slice_get names i ≡ Some x → contains names x ≡ true
at_place [] i x h = absurd (cc)
at_place (y ∷ names) zero x h = or_left (bytes_eq x y) (contains names x) (ap (bytes_eq x) (same y x h) ∙ text_is_itself x)
  where
    same : (y x : List ℕ) → Some y ≡ Some x → y ≡ x
    same y x h = cc
at_place (y ∷ names) (suc i) x h = or_right (bytes_eq x y) (contains names x) (at_place names i x h)

-- names that differ have numbers that do
pub number_at : (names : List (List ℕ)) (i : ℕ) (x : List ℕ) → all_differ names ≡ true → slice_get names i ≡ Some x → number names x ≡ i
number_at [] i x d h = absurd (cc)
number_at (y ∷ names) zero x d h = ap (λ b. cond (not b) (1 + number names x) 0) (ap (bytes_eq x) (same y x h) ∙ text_is_itself x)
  where
    same : (y x : List ℕ) → Some y ≡ Some x → y ≡ x
    same y x h = cc
number_at (y ∷ names) (suc i) x d h =
    ap (λ b. cond (not b) (1 + number names x) 0) other ∙ one-add (number names x) ∙ ap suc (number_at names i x (and_right (not (is_called_in names y)) (all_differ names) d) h)
  where
    by : (b : Bool) → bytes_eq x y ≡ b → bytes_eq x y ≡ false
    by true q =
        clash (contains names y) (ap (contains names) (sym (same_text x y q)) ∙ at_place names i x h) (not_not (is_called_in names y) (and_left (not (is_called_in names y)) (all_differ names) d))
    by false q = q

    other : bytes_eq x y ≡ false
    other = by (bytes_eq x y) refl

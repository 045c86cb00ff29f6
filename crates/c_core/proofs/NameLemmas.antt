-- What a set of names tells of names that differ.
use Rattle.std.proofs.Common.{◌≡◌, refl, sym, ap, ◌∙◌, ℕ, ◌+◌, ◌<◌, Bool, true, false, not, List, [], ◌∷◌, ◌++◌, length, map, take, drop, get_or, Bor}
use Rattle.std.specs.Prelude.{◌&&◌, ◌||◌}
use Rattle.std.specs.List.{list_any}
use Rattle.std.specs.Str.{bytes_eq}
use Rattle.std.specs.Ordering.{nat_cmp, is_eq, match_ordering}
use Rattle.std.specs.declared.cmp.Ordering.{Ordering}
use Rattle.std.specs.declared.cmp.Ordering.TheVariants.{Less, Equal, Greater}
use Rattle.std.specs.Cmp.Lexicographic.{slice_cmp}
use Rattle.std.specs.BTreeMap.{is_at}
use Rattle.std.specs.BTreeSet.{insert_key}
use Rattle.std.proofs.lemmas.Bool.Decides.{same_from_decides}
use Rattle.std.proofs.lemmas.List.{take_more, take-append-drop}
use Rattle.std.proofs.lemmas.List.Folds.{list_any_more, list_any-append}
use Rattle.std.proofs.lemmas.Map.Text.{is_eq-slice_cmp}
use Rattle.std.proofs.lemmas.Slice.Eq.{bytes_eq-Decides}
use Rattle.c_core.specs.WellFormed.{names_differ}
use Rattle.c_core.proofs.WellFormedLemmas.{any_name}

pub bytes_eq-sym : (xs ys : List ℕ) → bytes_eq xs ys ≡ bytes_eq ys xs
bytes_eq-sym xs ys =
    let other = bytes_eq-Decides ys xs in
    same_from_decides (bytes_eq xs ys) (bytes_eq ys xs) (bytes_eq-Decides xs ys) (λ e. sym (other.0 e), λ e. other.1 (sym e))

-- ---- a set of names
abbrev pub order : Bor (List ℕ) → Bor (List ℕ) → Ordering
order x y = slice_cmp nat_cmp x.now y.now

abbrev pub knows : List (Bor (List ℕ)) → List ℕ → Bool
knows keys name = list_any (λ k. bytes_eq name k.now) keys

pub contains-knows : (keys : List (Bor (List ℕ))) (x : Bor (List ℕ)) → list_any (is_at (order x)) keys ≡ knows keys x.now
contains-knows [] x = refl
contains-knows (k ∷ keys) x =
    ap (λ b. b || list_any (is_at (order x)) keys) (is_eq-slice_cmp x.now k.now) ∙ ap (λ b. bytes_eq x.now k.now || b) (contains-knows keys x)

or_twice : (b c : Bool) → (b || c) ≡ (b || (b || c))
or_twice true c = refl
or_twice false c = refl

or_swap : (a b c : Bool) → (a || (b || c)) ≡ (b || (a || c))
or_swap true true c = refl
or_swap true false c = refl
or_swap false true c = refl
or_swap false false c = refl

or_flip : (a b : Bool) → (a || b) ≡ (b || a)
or_flip true true = refl
or_flip true false = refl
or_flip false true = refl
or_flip false false = refl

insert_either : (o : Ordering) (x y : Bor (List ℕ)) (ys zs : List (Bor (List ℕ))) (name : List ℕ) → order x y ≡ o → knows zs name ≡ (bytes_eq name x.now || knows ys name) → knows (match_ordering o (x ∷ (y ∷ ys)) (y ∷ ys) (y ∷ zs)) name ≡ (bytes_eq name x.now || (bytes_eq name y.now || knows ys name))
insert_either Less x y ys zs name e more = refl
insert_either Equal x y ys zs name e more =
    let equal : bytes_eq x.now y.now ≡ true = sym (is_eq-slice_cmp x.now y.now) ∙ ap is_eq e in
    let same_text : x.now ≡ y.now = (bytes_eq-Decides x.now y.now).0 equal in
    or_twice (bytes_eq name y.now) (knows ys name) ∙ ap (λ t. bytes_eq name t || (bytes_eq name y.now || knows ys name)) (sym same_text)
insert_either Greater x y ys zs name e more =
    ap (λ b. bytes_eq name y.now || b) more ∙ or_swap (bytes_eq name y.now) (bytes_eq name x.now) (knows ys name)

pub insert-knows : (keys : List (Bor (List ℕ))) (x : Bor (List ℕ)) (name : List ℕ) → knows (insert_key order keys x) name ≡ (bytes_eq name x.now || knows keys name)
insert-knows [] x name = refl
insert-knows (y ∷ ys) x name = insert_either (order x y) x y ys (insert_key order ys x) name refl (insert-knows ys x name)

-- ---- names that differ
one_behind : (a b d c : Bool) → (not (a || (b || false)) && (d && not c)) ≡ ((not a && d) && not (b || c))
one_behind true b d c = refl
one_behind false true true c = refl
one_behind false true false c = refl
one_behind false false d c = refl

front_or : (a b d e : Bool) → (not a && d) ≡ false → (d ≡ false → e ≡ false) → (not (a || b) && e) ≡ false
front_or true b d e f h = refl
front_or false true d e f h = refl
front_or false false d e f h = h f

module _ {A : Type 0} (name_of : A → List ℕ) where
  abbrev names : List A → List (List ℕ)
  names xs = map name_of xs

  abbrev pub any_is : List A → List ℕ → Bool
  any_is xs name = list_any (λ x. bytes_eq name (name_of x)) xs

  differ-behind : (xs : List A) (x : A) → names_differ (names (xs ++ x ∷ [])) ≡ (names_differ (names xs) && not (any_is xs (name_of x)))
  differ-behind [] x = refl
  differ-behind (v ∷ xs) x =
      ap (λ b. not b && names_differ (names (xs ++ x ∷ []))) (any_name name_of (name_of v) (xs ++ x ∷ []) ∙ list_any-append (λ w. bytes_eq (name_of v) (name_of w)) xs (x ∷ []))
      ∙ ap (λ b. not (any_is xs (name_of v) || (bytes_eq (name_of v) (name_of x) || false)) && b) (differ-behind xs x)
      ∙ one_behind (any_is xs (name_of v)) (bytes_eq (name_of v) (name_of x)) (names_differ (names xs)) (any_is xs (name_of x))
      ∙ ap (λ b. (not (any_is xs (name_of v)) && names_differ (names xs)) && not (b || any_is xs (name_of x))) (bytes_eq-sym (name_of v) (name_of x))
      ∙ ap (λ b. (not b && names_differ (names xs)) && not (bytes_eq (name_of x) (name_of v) || any_is xs (name_of x))) (sym (any_name name_of (name_of v) xs))

  -- names of which two of the first are equal do not differ
  differ-front : (xs more : List A) → names_differ (names xs) ≡ false → names_differ (names (xs ++ more)) ≡ false
  differ-front [] more e = absurd (cc)
  differ-front (v ∷ xs) more e =
      ap (λ b. not b && names_differ (names (xs ++ more))) (any_name name_of (name_of v) (xs ++ more) ∙ list_any-append (λ w. bytes_eq (name_of v) (name_of w)) xs more)
      ∙ front_or (any_is xs (name_of v)) (any_is more (name_of v)) (names_differ (names xs)) (names_differ (names (xs ++ more)))
      (ap (λ b. not b && names_differ (names xs)) (sym (any_name name_of (name_of v) xs)) ∙ e) (differ-front xs more)

  -- ---- one turn of a loop over the names
  module _ (xs : List A) (i : ℕ) (x : A) (within : i < length xs) (is : x ≡ get_or xs i x) where
    pub differ_more : names_differ (names (take (i + 1) xs)) ≡ (names_differ (names (take i xs)) && not (any_is (take i xs) (name_of x)))
    differ_more =
        ap (λ vs. names_differ (names vs)) (take_more xs i x within)
        ∙ differ-behind (take i xs) (get_or xs i x)
        ∙ ap (λ y. names_differ (names (take i xs)) && not (any_is (take i xs) (name_of y))) (sym is)

    pub found_again : names_differ (names (take i xs)) ≡ true → any_is (take i xs) (name_of x) ≡ true → names_differ (names xs) ≡ false
    found_again so_far again =
        ap (λ vs. names_differ (names vs)) (sym (take-append-drop (i + 1) xs))
        ∙ differ-front (take (i + 1) xs) (drop (i + 1) xs)
        (differ_more ∙ ap (λ b. b && not (any_is (take i xs) (name_of x))) so_far ∙ ap not again)

    pub known_more : (keys : List (Bor (List ℕ))) (name : Bor (List ℕ)) → name.now ≡ name_of x → ((q : List ℕ) → knows keys q ≡ any_is (take i xs) q) → (q : List ℕ) → knows (insert_key order keys name) q ≡ any_is (take (i + 1) xs) q
    known_more keys name same_text known q =
        insert-knows keys name q
        ∙ ap (λ b. bytes_eq q name.now || b) (known q)
        ∙ ap (λ t. bytes_eq q t || any_is (take i xs) q) (same_text ∙ ap name_of is)
        ∙ or_flip (bytes_eq q (name_of (get_or xs i x))) (any_is (take i xs) q)
        ∙ sym (list_any_more (λ v. bytes_eq q (name_of v)) xs i x within)

    module _ (keys : List (Bor (List ℕ))) (name : Bor (List ℕ)) (added : Bool) (same_text : name.now ≡ name_of x) (says : added ≡ not (list_any (is_at (order name)) keys)) (known : (q : List ℕ) → knows keys q ≡ any_is (take i xs) q) (so_far : names_differ (names (take i xs)) ≡ true) where
      added_is : added ≡ not (any_is (take i xs) (name_of x))
      added_is = says ∙ ap not (contains-knows keys name ∙ known name.now ∙ ap (any_is (take i xs)) same_text)

      turned : (b : Bool) → false ≡ not b → b ≡ true
      turned true e = refl
      turned false e = absurd (cc)

      pub not_added : added ≡ false → false ≡ names_differ (names xs)
      not_added e = sym (found_again so_far (turned (any_is (take i xs) (name_of x)) (sym e ∙ added_is)))

      pub differ_still : added ≡ true → names_differ (names (take (i + 1) xs)) ≡ true
      differ_still e = differ_more ∙ ap (λ b. b && not (any_is (take i xs) (name_of x))) so_far ∙ sym added_is ∙ e

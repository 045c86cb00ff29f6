-- One turn of a loop that notes numbers by their names, and what is found by such numbers.
use Rattle.std.proofs.Common.{◌≡◌, refl, sym, ap, ◌∙◌, ℕ, suc, ◌+◌, ◌<◌, arith, Bool, true, false, cond, not, List, [], ◌∷◌, ◌++◌, length, take, get_or, Option, Some, None, Bor}
use Rattle.std.specs.Prelude.{is_some, find, map, nat_lt, slice_get, ◌||◌, ◌&&◌}
use Rattle.std.specs.List.{list_any, position, position_from, position_or_len}
use Rattle.std.specs.Option.{option_and_then}
use Rattle.std.specs.Str.{bytes_eq}
use Rattle.std.specs.Ordering.{nat_cmp}
use Rattle.std.specs.Cmp.Lexicographic.{slice_cmp}
use Rattle.std.specs.BTreeMap.{BTreeMap, UpdatesBy}
use Rattle.std.proofs.lemmas.Iterator.Adapters.{position_from-zero}
use Rattle.std.proofs.lemmas.Bool.{ltb-false}
use Rattle.std.proofs.lemmas.List.{take_more, length-take}
use Rattle.std.proofs.lemmas.List.Folds.{find_at}
use Rattle.std.proofs.lemmas.Option.{slice_get_past}
use Rattle.std.proofs.lemmas.Map.Text.{btree_map_updates_str}
use Rattle.std.proofs.lemmas.Slice.Eq.{bytes_eq-Decides}
use Rattle.c_core.specs.Index.{number_in, IsIndex}
use Rattle.c_core.specs.WellFormed.{names_differ}
use Rattle.c_core.proofs.NameLemmas.{bytes_eq-sym, any_is, differ_more, found_again}

-- ---- the first place at which a test passes, in a list with one more at its end
abbrev or_last : Option ℕ → Option ℕ → Option ℕ
or_last None last = last
or_last (Some j) last = Some j

or_none : (o : Option ℕ) → or_last o None ≡ o
or_none None = refl
or_none (Some j) = refl

module _ {A : Type 0} (p : A → Bool) where
  first_or : (b : Bool) (k : ℕ) (r t last : Option ℕ) → t ≡ or_last r last → cond b (Some k) t ≡ or_last (cond b (Some k) r) last
  first_or true k r t last e = refl
  first_or false k r t last e = e

  position_push : (k : ℕ) (xs : List A) (x : A) → position_from p k (xs ++ x ∷ []) ≡ or_last (position_from p k xs) (cond (p x) (Some (k + length xs)) None)
  position_push k [] x = let same : k ≡ k + 0 = omega arith in ap (λ j. cond (p x) (Some j) None) same
  position_push k (y ∷ ys) x =
      let same : k + 1 + length ys ≡ k + suc (length ys) = omega arith in
      first_or (p y) k (position_from p (k + 1) ys) (position_from p (k + 1) (ys ++ x ∷ [])) (cond (p x) (Some (k + suc (length ys))) None)
      (position_push (k + 1) ys x ∙ ap (λ j. or_last (position_from p (k + 1) ys) (cond (p x) (Some j) None)) same)

  some_or : (b : Bool) (k : ℕ) (r : Option ℕ) (c : Bool) → is_some r ≡ c → is_some (cond b (Some k) r) ≡ (b || c)
  some_or true k r c e = refl
  some_or false k r c e = e

  some_any : (k : ℕ) (xs : List A) → is_some (position_from p k xs) ≡ list_any p xs
  some_any k [] = refl
  some_any k (y ∷ ys) = some_or (p y) k (position_from p (k + 1) ys) (list_any p ys) (some_any (k + 1) ys)

none_from : (o : Option ℕ) → is_some o ≡ false → o ≡ None
none_from None e = refl
none_from (Some j) e = absurd (cc)

abbrev named : {A : Type 0} → (A → List ℕ) → List ℕ → A → Bool
named name_of name x = bytes_eq name (name_of x)

module _ {A : Type 0} (name_of : A → List ℕ) (xs : List A) (i : ℕ) (x : A) (within : i < length xs) (is : x ≡ get_or xs i x) where
  position_more : (q : List ℕ) → position (named name_of q) (take (i + 1) xs) ≡ or_last (position (named name_of q) (take i xs)) (cond (bytes_eq q (name_of x)) (Some i) None)
  position_more q =
      let place : 0 + length (take i xs) ≡ i = omega (arith, length-take i xs) in
      ap (position (named name_of q)) (take_more xs i x within ∙ ap (λ y. take i xs ++ y ∷ []) (sym is))
      ∙ position_from-zero (named name_of q) (take i xs ++ x ∷ [])
      ∙ position_push (named name_of q) 0 (take i xs) x
      ∙ ap (λ j. or_last (position_from (named name_of q) 0 (take i xs)) (cond (bytes_eq q (name_of x)) (Some j) None)) place
      ∙ ap (λ r. or_last r (cond (bytes_eq q (name_of x)) (Some i) None)) (sym (position_from-zero (named name_of q) (take i xs)))

  module _ (m : BTreeMap (Bor (List ℕ)) ℕ) (key : Bor (List ℕ)) (old : Option ℕ) (same : key.now ≡ name_of x) (was : old ≡ number_in m key.now) (known : IsIndex name_of (take i xs) m) where
    old_is : is_some old ≡ any_is name_of (take i xs) (name_of x)
    old_is =
        ap is_some (was ∙ known key.now ∙ position_from-zero (named name_of key.now) (take i xs))
        ∙ some_any (named name_of key.now) 0 (take i xs)
        ∙ ap (λ q. list_any (named name_of q) (take i xs)) same

    pub stands_again : is_some old ≡ true → names_differ (map name_of (take i xs)) ≡ true → false ≡ names_differ (map name_of xs)
    stands_again some so_far = sym (found_again name_of xs i x within is so_far (sym old_is ∙ some))

    pub differs_still : is_some old ≡ false → names_differ (map name_of (take i xs)) ≡ true → names_differ (map name_of (take (i + 1) xs)) ≡ true
    differs_still none so_far =
        differ_more name_of xs i x within is
        ∙ ap (λ b. b && not (any_is name_of (take i xs) (name_of x))) so_far
        ∙ ap not (sym old_is ∙ none)

    none_before : is_some old ≡ false → position (named name_of key.now) (take i xs) ≡ None
    none_before none = sym (known key.now) ∙ sym was ∙ none_from old none

    chosen_is : (q : List ℕ) (b : Bool) → is_some old ≡ false → bytes_eq key.now q ≡ b → cond b (Some i) (number_in m q) ≡ or_last (position (named name_of q) (take i xs)) (cond (bytes_eq q (name_of x)) (Some i) None)
    chosen_is q true none e =
        let here : key.now ≡ q = (bytes_eq-Decides key.now q).0 e in
        let there : bytes_eq q (name_of x) ≡ true = ap (bytes_eq q) (sym same) ∙ bytes_eq-sym q key.now ∙ e in
        let before : position (named name_of q) (take i xs) ≡ None =
        ap (λ r. position (named name_of r) (take i xs)) (sym here) ∙ none_before none in
        sym (ap (λ r. or_last r (cond (bytes_eq q (name_of x)) (Some i) None)) before ∙ ap (λ b. cond b (Some i) None) there)
    chosen_is q false none e =
        let there : bytes_eq q (name_of x) ≡ false = ap (bytes_eq q) (sym same) ∙ bytes_eq-sym q key.now ∙ e in
        known q ∙ sym (ap (λ b. or_last (position (named name_of q) (take i xs)) (cond b (Some i) None)) there ∙ or_none (position (named name_of q) (take i xs)))

    pub index_more : is_some old ≡ false → (n : BTreeMap (Bor (List ℕ)) ℕ) → UpdatesBy (λ (a : Bor (List ℕ)) (b : Bor (List ℕ)). slice_cmp nat_cmp a.now b.now) (λ (k : Bor (List ℕ)). slice_cmp nat_cmp key.now k.now) m n (Some i) → IsIndex name_of (take (i + 1) xs) n
    index_more none n updates q =
        btree_map_updates_str key.now m n (Some i) updates q
        ∙ chosen_is q (bytes_eq key.now q) none refl
        ∙ sym (position_more q)

-- ---- what a number finds
-- whether there is one of a name
pub is_there : {A : Type 0} (p : A → Bool) (xs : List A) → is_some (position p xs) ≡ list_any p xs
is_there p xs = ap is_some (position_from-zero p xs) ∙ some_any p 0 xs

-- the first one of a name
module _ {A : Type 0} (p : A → Bool) (xs : List A) where
  found_if : (n : ℕ) (b : Bool) → nat_lt n (length xs) ≡ b → option_and_then (slice_get xs) (cond b (Some n) None) ≡ slice_get xs n
  found_if n true e = refl
  found_if n false e = sym (slice_get_past xs n (ltb-false n (length xs) e))

  found_there : option_and_then (slice_get xs) (position p xs) ≡ find p xs
  found_there =
      found_if (position_or_len p xs) (nat_lt (position_or_len p xs) (length xs)) refl ∙ sym (find_at p xs)

  pub at_place : (n : ℕ) → Some n ≡ position p xs → slice_get xs n ≡ find p xs
  at_place n e = ap (option_and_then (slice_get xs)) e ∙ found_there

  pub at_none : None ≡ position p xs → None ≡ find p xs
  at_none e = ap (option_and_then (slice_get xs)) e ∙ found_there

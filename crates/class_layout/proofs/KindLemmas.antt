-- Where no definitions differ, the first method of a name along an order is the first member of that name, or that is no method.
use Rattle.std.proofs.Common.{◌≡◌, ℕ, Bool, true, false, not, cond, ◌&&◌, List, [], ◌∷◌, map, Option, Some, None, option_map, option_and_then, slice_get, refl, sym, ap, ap₂, subst, ◌∙◌}
use Rattle.std.specs.List.{list_all}
use Rattle.std.specs.Map.{lookup}
use Rattle.std.specs.Option.{option_or}
use Rattle.std.specs.Str.{bytes_eq}
use Rattle.std.proofs.lemmas.List.Folds.{list_all-append}
use Rattle.py_typed.specs.Sorts.{Sort}
use Rattle.py_typed.specs.Classes.{ClassEntry, ClassTable}
use Rattle.py_typed.specs.Order.{AttributeMember, MethodMember, named, first_there, own_method, own_attribute, own_attributes, own_member, method_along}
use Rattle.py_typed.proofs.FitLemmas.{and_left, and_right}
use Rattle.class_layout_members.specs.Names.{own_methods}
use Rattle.class_layout_members.specs.Clashes.{Definition, OfType, OfSignature, is_other, none_other, clash_among, own_members, members_along}
use Rattle.class_layout_members.proofs.RowLemmas.{same}
use Rattle.class_layout_members.proofs.FirstLemmas.{named_is, own_method_is}
use Rattle.class_layout_members.proofs.AgreementLemmas.{first_in, first_of_both, none_other_in}
use Rattle.class_layout.specs.Layouts.{method_in}

pub own_attribute_is : (classes : List ClassEntry) (q : List ℕ) (c : ℕ) → own_attribute classes q c ≡ lookup (bytes_eq q) (own_attributes (slice_get classes c))
own_attribute_is classes q c = by (slice_get classes c)
  where
    by : (o : Option ClassEntry) → option_and_then (λ (entry : ClassEntry). named q entry.attributes) o ≡ lookup (bytes_eq q) (own_attributes o)
    by None = refl
    by (Some entry) = named_is q entry.attributes

module _ (t : ClassTable) (q : List ℕ) where
  -- what is said of a name, where it is found
  abbrev of_attribute : Option Sort → Option Definition
  of_attribute o = option_map OfType o

  abbrev of_method : Option ℕ → Option Definition
  of_method o = option_map (λ f. OfSignature (slice_get t.signatures f)) o

  first_mapped : {A : Type 0} (f : A → Definition) (row : List (List ℕ × A)) → first_in (map (λ p. (p.0, f p.1)) row) q ≡ option_map f (lookup (bytes_eq q) row)
  first_mapped f [] = refl
  first_mapped f (p ∷ row) = by (bytes_eq q p.0) (first_mapped f row)
    where
      by : (b : Bool) → first_in (map (λ p. (p.0, f p.1)) row) q ≡ option_map f (lookup (bytes_eq q) row) → cond b (Some (f p.1)) (first_in (map (λ p. (p.0, f p.1)) row) q) ≡ option_map f (cond b (Some p.1) (lookup (bytes_eq q) row))
      by true r = refl
      by false r = r

  -- what a class says first of a name of its own
  pub own_first : (d : ℕ) → first_in (own_members t d) q ≡ option_or (of_attribute (own_attribute t.classes q d)) (of_method (own_method t.classes q d))
  own_first d =
      first_of_both (map (λ p. (p.0, OfType p.1)) (own_attributes (slice_get t.classes d))) (map (λ p. (p.0, OfSignature (slice_get t.signatures p.1))) (own_methods (slice_get t.classes d))) q
      ∙ ap₂ (λ x y. option_or x y)
      (first_mapped OfType (own_attributes (slice_get t.classes d)) ∙ ap of_attribute (sym (own_attribute_is t.classes q d)))
      (first_mapped (λ f. OfSignature (slice_get t.signatures f)) (own_methods (slice_get t.classes d)) ∙ ap of_method (sym (own_method_is t.classes q d)))

  -- and what is said first along an order
  pub along_first : (d : ℕ) (row : List ℕ) → first_in (members_along t (d ∷ row)) q ≡ option_or (option_or (of_attribute (own_attribute t.classes q d)) (of_method (own_method t.classes q d))) (first_in (members_along t row) q)
  along_first d row = first_of_both (own_members t d) (members_along t row) q ∙ ap (λ o. option_or o (first_in (members_along t row) q)) (own_first d)

  pub along_said : (d : ℕ) (row : List ℕ) (f : Option ℕ) → own_method t.classes q d ≡ f → (a : Option Sort) → own_attribute t.classes q d ≡ a
      → first_in (members_along t (d ∷ row)) q ≡ option_or (option_or (option_map OfType a) (option_map (λ g. OfSignature (slice_get t.signatures g)) f)) (first_in (members_along t row) q)
  along_said d row f e a g = along_first d row ∙ ap₂ (λ x y. option_or (option_or (of_attribute x) (of_method y)) (first_in (members_along t row) q)) g e

  -- a definition of the name agrees with this one
  abbrev agrees : Option Definition → List ℕ × Definition → Bool
  agrees first p = not (bytes_eq q p.0 && is_other q first p.1)

  all_agree : (first : List ℕ → Option Definition) (row : List (List ℕ × Definition)) → none_other first row ≡ true → list_all (agrees (first q)) row ≡ true
  all_agree first [] h = refl
  all_agree first (p ∷ row) h =
      ap₂ (λ a b. a && b)
      (by (bytes_eq q p.0) refl (and_left (not (is_other p.0 (first p.0) p.1)) (none_other first row) h))
      (all_agree first row (and_right (not (is_other p.0 (first p.0) p.1)) (none_other first row) h))
    where
      by : (b : Bool) → bytes_eq q p.0 ≡ b → not (is_other p.0 (first p.0) p.1) ≡ true → not (b && is_other q (first q) p.1) ≡ true
      by true e k = subst (λ z. not (is_other z (first z) p.1) ≡ true) (sym (same q p.0 e)) k
      by false e k = refl

  -- ---- an attribute agrees with no method

  not_among : {A : Type 0} (first : Option Definition) (f : A → Definition) → ((a : A) → is_other q first (f a) ≡ true) → (row : List (List ℕ × A)) → list_all (agrees first) (map (λ p. (p.0, f p.1)) row) ≡ true → lookup (bytes_eq q) row ≡ None
  not_among first f other [] h = refl
  not_among first f other (p ∷ row) h =
      by (bytes_eq q p.0)
      (sym (ap (λ b. not (bytes_eq q p.0 && b)) (other p.1)) ∙ and_left (not (bytes_eq q p.0 && is_other q first (f p.1))) (list_all (agrees first) (map (λ p. (p.0, f p.1)) row)) h)
      (not_among first f other row (and_right (not (bytes_eq q p.0 && is_other q first (f p.1))) (list_all (agrees first) (map (λ p. (p.0, f p.1)) row)) h))
    where
      by : (b : Bool) → not (b && true) ≡ true → lookup (bytes_eq q) row ≡ None → cond b (Some p.1) (lookup (bytes_eq q) row) ≡ None
      by true e r = absurd (cc)
      by false e r = r

  abbrev of_types : ℕ → List (List ℕ × Definition)
  of_types d = map (λ p. (p.0, OfType p.1)) (own_attributes (slice_get t.classes d))

  abbrev of_signatures : ℕ → List (List ℕ × Definition)
  of_signatures d = map (λ p. (p.0, OfSignature (slice_get t.signatures p.1))) (own_methods (slice_get t.classes d))

  signatures_part : (first : Option Definition) (d : ℕ) → list_all (agrees first) (own_members t d) ≡ true → list_all (agrees first) (of_signatures d) ≡ true
  signatures_part first d h = and_right (list_all (agrees first) (of_types d)) (list_all (agrees first) (of_signatures d)) (sym (list_all-append (agrees first) (of_types d) (of_signatures d)) ∙ h)

  head_part : (first : Option Definition) (d : ℕ) (row : List ℕ) → list_all (agrees first) (members_along t (d ∷ row)) ≡ true → list_all (agrees first) (own_members t d) ≡ true
  head_part first d row h = and_left (list_all (agrees first) (own_members t d)) (list_all (agrees first) (members_along t row)) (sym (list_all-append (agrees first) (own_members t d) (members_along t row)) ∙ h)

  rest_part : (first : Option Definition) (d : ℕ) (row : List ℕ) → list_all (agrees first) (members_along t (d ∷ row)) ≡ true → list_all (agrees first) (members_along t row) ≡ true
  rest_part first d row h = and_right (list_all (agrees first) (own_members t d)) (list_all (agrees first) (members_along t row)) (sym (list_all-append (agrees first) (own_members t d) (members_along t row)) ∙ h)

  no_method : (s : Sort) (d : ℕ) → list_all (agrees (Some (OfType s))) (own_members t d) ≡ true → own_method t.classes q d ≡ None
  no_method s d h = own_method_is t.classes q d ∙ not_among (Some (OfType s)) (λ f. OfSignature (slice_get t.signatures f)) (λ a. refl) (own_methods (slice_get t.classes d)) (signatures_part (Some (OfType s)) d h)

  no_methods : (s : Sort) (row : List ℕ) → list_all (agrees (Some (OfType s))) (members_along t row) ≡ true → method_along t.classes q row ≡ None
  no_methods s [] h = refl
  no_methods s (d ∷ row) h =
      ap₂ (λ x y. option_or x y)
      (no_method s d (head_part (Some (OfType s)) d row h))
      (no_methods s row (rest_part (Some (OfType s)) d row h))

  -- ---- the first member

  abbrev FirstIsMember : List ℕ → Type 0
  FirstIsMember row = method_along t.classes q row ≡ method_in (first_there (own_member t.classes q) row)

  along_row : (row : List ℕ) → list_all (agrees (first_in (members_along t row) q)) (members_along t row) ≡ true → FirstIsMember row
  along_row [] h = refl
  along_row (d ∷ row) h = by (own_method t.classes q d) refl (own_attribute t.classes q d) refl (along_row row)
    where
      with_first : (first : Option Definition) → first_in (members_along t (d ∷ row)) q ≡ first → list_all (agrees first) (members_along t (d ∷ row)) ≡ true
      with_first first e = subst (λ o. list_all (agrees o) (members_along t (d ∷ row)) ≡ true) e h

      by : (m : Option ℕ) → own_method t.classes q d ≡ m → (a : Option Sort) → own_attribute t.classes q d ≡ a → (list_all (agrees (first_in (members_along t row) q)) (members_along t row) ≡ true → FirstIsMember row)
          → option_or m (method_along t.classes q row) ≡ method_in (option_or (option_or (option_map MethodMember m) (option_map AttributeMember a)) (first_there (own_member t.classes q) row))
      by (Some x) e a f rec = refl
      by None e None f rec = rec (rest_part (first_in (members_along t row) q) d row (with_first (first_in (members_along t row) q) (along_said d row None e None f)))
      by None e (Some s) f rec = no_methods s row (rest_part (Some (OfType s)) d row (with_first (Some (OfType s)) (along_said d row None e (Some s) f)))

  pub first_is_member : (row : List ℕ) → clash_among (members_along t row) ≡ None → FirstIsMember row
  first_is_member row h = along_row row (all_agree (first_in (members_along t row)) (members_along t row) (none_other_in (members_along t row) h))

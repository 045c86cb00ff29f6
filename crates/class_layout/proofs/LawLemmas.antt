-- What holds of the places of attributes and methods, from the orders of classes.
use Rattle.std.proofs.Common.{◌≡◌, ℕ, ◌<◌, suc, Bool, true, false, cond, ◌||◌, ◌&&◌, ◌==◌, List, [], ◌∷◌, length, slice_get, Option, Some, None, is_some, option_map, option_and_then, refl, sym, ap, ap₂, subst, ◌∙◌, ◌⊎◌, inl, inr, le_refl, eq-eqb}
use Rattle.std.specs.List.{list_any, list_all}
use Rattle.std.specs.Map.{lookup}
use Rattle.std.specs.Option.{option_or}
use Rattle.std.specs.Str.{bytes_eq}
use Rattle.std.proofs.lemmas.Bool.{eqb-true}
use Rattle.std.proofs.lemmas.Option.{slice_get-map}
use Rattle.py_typed.specs.Classes.{ClassEntry, has_class, is_class_under}
use Rattle.py_typed.specs.Laws.{IsClassTree}
use Rattle.py_typed.specs.Order.{named, first_there, order, listed_order, own_method, own_attribute, own_attributes, method_of, attribute_of, place_in, attributes}
use Rattle.py_typed.proofs.ClassLemmas.{or_cases, or_left, or_right, under_on}
use Rattle.source_soundness.proofs.Linear.{order_under, order_has}
use Rattle.class_layout_members.specs.Names.{names_in, place_of, own_methods, own_attribute_names, own_method_names, attribute_names, method_names, IsNumbered}
use Rattle.class_layout_members.proofs.RowLemmas.{has, itself, place_there, at_place}
use Rattle.class_layout_members.proofs.FirstLemmas.{named_is, own_method_is}
use Rattle.class_layout_members.proofs.NameLemmas.{names, has_of_above, has_of_own, numbered, place_stays}
use Rattle.class_layout_members.proofs.AttributeLemmas.{same_place, attributes_by_are}
use Rattle.class_layout.specs.Laws.{list_for, PlacesStay, PlacesAreNumbered, NamesHavePlaces, ListsHoldMembers, ListsAreWhole}

-- ---- rows

found_named : {A : Type 0} (row : List (List ℕ × A)) (q : List ℕ) → is_some (lookup (bytes_eq q) row) ≡ has q (names_in row)
found_named [] q = refl
found_named (p ∷ row) q = by (bytes_eq q p.0) (found_named row q)
  where
    by : (b : Bool) → is_some (lookup (bytes_eq q) row) ≡ has q (names_in row) → is_some (cond b (Some p.1) (lookup (bytes_eq q) row)) ≡ (b || has q (names_in row))
    by true r = refl
    by false r = r

first_some : {A B : Type 0} (f : A → Option B) (row : List A) → is_some (first_there f row) ≡ list_any (λ a. is_some (f a)) row
first_some f [] = refl
first_some {A = A} {B = B} f (a ∷ row) = by (f a) (first_some f row)
  where
    by : (o : Option B) → is_some (first_there f row) ≡ list_any (λ a. is_some (f a)) row → is_some (option_or o (first_there f row)) ≡ (is_some o || list_any (λ a. is_some (f a)) row)
    by None r = r
    by (Some b) r = refl

any_of : (f : ℕ → Bool) (row : List ℕ) (d : ℕ) → has_class d row ≡ true → f d ≡ true → list_any f row ≡ true
any_of f [] d h e = absurd (cc)
any_of f (x ∷ row) d h e = by (or_cases (x == d) (has_class d row) h) (λ k. any_of f row d k e)
  where
    by : ((x == d) ≡ true) ⊎ (has_class d row ≡ true) → (has_class d row ≡ true → list_any f row ≡ true) → (f x || list_any f row) ≡ true
    by (inl q) r = or_left (f x) (list_any f row) (subst (λ z. f z ≡ true) (sym (eqb-true x d q)) e)
    by (inr q) r = or_right (f x) (list_any f row) (r q)

any_from : (f : ℕ → Bool) (row : List ℕ) → list_any f row ≡ true → (d : ℕ) × (has_class d row ≡ true) × (f d ≡ true)
any_from f [] h = absurd (cc)
any_from f (x ∷ row) h = by (or_cases (f x) (list_any f row) h) (λ k. any_from f row k)
  where
    same : (x == x) ≡ true
    same = eq-eqb x x refl

    by : (f x ≡ true) ⊎ (list_any f row ≡ true) → (list_any f row ≡ true → (d : ℕ) × (has_class d row ≡ true) × (f d ≡ true)) → (d : ℕ) × (((x == d) || has_class d row) ≡ true) × (f d ≡ true)
    by (inl q) r = (x, or_left (x == x) (has_class x row) same, q)
    by (inr q) r = let t : _ = r q in (t.0, or_right (x == t.0) (has_class t.0 row) t.1, t.2)

both : (a b : Bool) → (a ≡ true → b ≡ true) → (b ≡ true → a ≡ true) → a ≡ b
both true b f g = sym (f refl)
both false true f g = g refl
both false false f g = refl

there : (o : Option (List ℕ)) → is_some o ≡ true → (row : List ℕ) × (o ≡ Some row)
there None h = absurd (cc)
there (Some row) h = (row, refl)

-- ---- own names

pub own_method_there : (classes : List ClassEntry) (q : List ℕ) (d : ℕ) → is_some (own_method classes q d) ≡ has q (own_method_names classes d)
own_method_there classes q d = ap is_some (own_method_is classes q d) ∙ found_named (own_methods (slice_get classes d)) q

own_attribute_there : (classes : List ClassEntry) (q : List ℕ) (d : ℕ) → is_some (own_attribute classes q d) ≡ has q (own_attribute_names classes d)
own_attribute_there classes q d = by (slice_get classes d)
  where
    by : (o : Option ClassEntry) → is_some (option_and_then (λ (entry : ClassEntry). named q entry.attributes) o) ≡ has q (names_in (own_attributes o))
    by None = refl
    by (Some entry) = ap is_some (named_is q entry.attributes) ∙ found_named entry.attributes q

-- ---- names along an order

numbered_as : (f g : List ℕ → Option ℕ) (m n : ℕ) → ((q : List ℕ) → f q ≡ g q) → m ≡ n → IsNumbered g n → IsNumbered f m
numbered_as f g m n h e k =
    record {
      below = λ q i r. subst (λ z. i < z) (sym e) (k.below q i (sym (h q) ∙ r));
      each = λ i l. let t : _ = k.each i (subst (λ z. i < z) e l) in (t.0, h t.0 ∙ t.1);
      once = λ p q i r s. k.once p q i (sym (h p) ∙ r) (sym (h q) ∙ s);
    }

as_many : {A : Type 0} (row : List (List ℕ × A)) → length row ≡ length (names_in row)
as_many [] = refl
as_many (p ∷ row) = ap suc (as_many row)

module _ (classes : List ClassEntry) (tree : IsClassTree classes) where
  along : (own : ℕ → List (List ℕ)) (q : List ℕ) (f : ℕ → Bool) (c : ℕ) (row : List ℕ) → ((d : ℕ) → f d ≡ has q (own d)) → order classes c ≡ Some row → has q (names classes tree own c) ≡ list_any f row
  along own q f c row h e =
      both (has q (names classes tree own c)) (list_any f row)
      (λ k. let t : _ = has_of_own classes tree own c q k in any_of f row t.0 (order_has classes tree c c row t.0 (le_refl c) e t.1) (h t.0 ∙ t.2))
      (λ k. let t : _ = any_from f row k in has_of_above classes tree own c t.0 q (order_under classes tree c c row t.0 e t.1) (sym (h t.0) ∙ t.2))

  pub method_has_place : (c : ℕ) (q : List ℕ) → is_some (order classes c) ≡ true → has q (method_names classes c) ≡ is_some (method_of classes c q)
  method_has_place c q o =
      let r : _ = there (order classes c) o in
      along (own_method_names classes) q (λ d. is_some (own_method classes q d)) c r.0 (own_method_there classes q) r.1
      ∙ sym (first_some (own_method classes q) r.0)
      ∙ ap (λ z. is_some (first_there (own_method classes q) (listed_order z))) (sym r.1)

  attribute_has_place : (c : ℕ) (q : List ℕ) → is_some (order classes c) ≡ true → has q (attribute_names classes c) ≡ is_some (attribute_of classes c q)
  attribute_has_place c q o =
      let r : _ = there (order classes c) o in
      along (own_attribute_names classes) q (λ d. is_some (own_attribute classes q d)) c r.0 (own_attribute_there classes q) r.1
      ∙ sym (first_some (own_attribute classes q) r.0)
      ∙ ap (λ z. is_some (first_there (own_attribute classes q) (listed_order z))) (sym r.1)

  -- each method of a class that has an order has a function
  all_have : (f : List ℕ → Bool) (ns : List (List ℕ)) → ((q : List ℕ) → has q ns ≡ true → f q ≡ true) → list_all f ns ≡ true
  all_have f [] h = refl
  all_have f (n ∷ ns) h =
      ap₂ (λ a b. a && b) (h n (or_left (bytes_eq n n) (has n ns) (itself n))) (all_have f ns (λ q k. h q (or_right (bytes_eq q n) (has q ns) k)))

  pub all_functions : (c : ℕ) → is_some (order classes c) ≡ true → list_all (λ q. is_some (method_of classes c q)) (method_names classes c) ≡ true
  all_functions c o = all_have (λ q. is_some (method_of classes c q)) (method_names classes c) (λ q h. sym (method_has_place c q o) ∙ h)

  list_holds : (d t : ℕ) (q : List ℕ) (i : ℕ) → place_of q (method_names classes t) ≡ Some i → slice_get (list_for classes d t) i ≡ Some (method_of classes d q)
  list_holds d t q i e = slice_get-map (method_of classes d) (method_names classes t) i ∙ ap (option_map (method_of classes d)) (at_place (method_names classes t) i q e)

  member_there : (d t : ℕ) (q : List ℕ) (i : ℕ) → is_class_under classes d t ≡ true → is_some (order classes d) ≡ true → place_of q (method_names classes t) ≡ Some i → is_some (method_of classes d q) ≡ true
  member_there d t q i u o e =
      let x : _ = has_of_own classes tree (own_method_names classes) t q (sym (place_there q (method_names classes t)) ∙ ap is_some e) in
      sym (method_has_place d q o) ∙ has_of_above classes tree (own_method_names classes) d x.0 q (under_on classes tree d t x.0 u x.1) x.2

  all_there : (d t : ℕ) → is_class_under classes d t ≡ true → is_some (order classes d) ≡ true → list_all (λ q. is_some (method_of classes d q)) (method_names classes t) ≡ true
  all_there d t u o =
      all_have (λ q. is_some (method_of classes d q)) (method_names classes t)
      (λ q h.
      let x : _ = has_of_own classes tree (own_method_names classes) t q h in
      sym (method_has_place d q o) ∙ has_of_above classes tree (own_method_names classes) d x.0 q (under_on classes tree d t x.0 u x.1) x.2)

-- ---- the laws

pub places_stay : PlacesStay
places_stay classes tree stand d c q i u t = (
  λ e. same_place classes d q ∙ place_stays classes tree (own_attribute_names classes) stand d c q i u t (sym (same_place classes c q) ∙ e),
  λ e. place_stays classes tree (own_method_names classes) stand d c q i u t e,
)

pub places_are_numbered : PlacesAreNumbered
places_are_numbered classes tree c = (
  numbered_as (λ q. place_in q (attributes classes c)) (λ q. place_of q (attribute_names classes c)) (length (attributes classes c)) (length (attribute_names classes c))
      (same_place classes c)
      (as_many (attributes classes c) ∙ ap length (attributes_by_are classes c c))
      (numbered classes tree (own_attribute_names classes) c),
  numbered classes tree (own_method_names classes) c,
)

pub names_have_places : NamesHavePlaces
names_have_places classes tree c o q = (
  ap is_some (same_place classes c q) ∙ place_there q (attribute_names classes c) ∙ attribute_has_place classes tree c q o,
  place_there q (method_names classes c) ∙ method_has_place classes tree c q o,
)

pub lists_hold_members : ListsHoldMembers
lists_hold_members classes tree d t q i u o e = (list_holds classes tree d t q i e, member_there classes tree d t q i u o e)

pub lists_are_whole : ListsAreWhole
lists_are_whole classes tree d t u o = all_there classes tree d t u o

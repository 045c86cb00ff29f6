-- The names of attributes are those of the attributes that an instance has, in their order.
use Rattle.std.proofs.Common.{◌≡◌, ℕ, zero, suc, Bool, true, false, cond, ◌||◌, List, [], ◌∷◌, ◌++◌, flat_map, Option, Some, option_map, slice_get, refl, sym, ap, ap₂, ◌∙◌, if◌then◌else◌}
use Rattle.std.specs.Str.{bytes_eq}
use Rattle.indexmap.specs.IndexSet.{insert_key, insert_all}
use Rattle.py_typed.specs.Sorts.{Sort}
use Rattle.py_typed.specs.Classes.{ClassEntry, bases_of}
use Rattle.py_typed.specs.Order.{place_in, own_attributes, is_named_in, with_new, attributes_by, attributes}
use Rattle.class_layout_members.specs.Names.{names_in, place_of, own_attribute_names, names_by, attribute_names}
use Rattle.class_layout_members.proofs.RowLemmas.{either_way, has, position_cons}

named_has : (row : List (List ℕ × Sort)) (q : List ℕ) → is_named_in row q ≡ has q (names_in row)
named_has [] q = refl
named_has (p ∷ row) q = ap₂ (λ a b. a || b) (either_way p.0 q) (named_has row q)

names_joined : (row more : List (List ℕ × Sort)) → names_in (row ++ more) ≡ names_in row ++ names_in more
names_joined [] more = refl
names_joined (p ∷ row) more = ap (λ l. p.0 ∷ l) (names_joined row more)

one_more : (row : List (List ℕ × Sort)) (p : List ℕ × Sort) → names_in (if is_named_in row p.0 then row else row ++ p ∷ []) ≡ insert_key bytes_eq (names_in row) p.0
one_more row p = by (is_named_in row p.0) ∙ ap (λ b. if b then names_in row else names_in row ++ p.0 ∷ []) (named_has row p.0)
  where
    by : (b : Bool) → names_in (if b then row else row ++ p ∷ []) ≡ (if b then names_in row else names_in row ++ p.0 ∷ [])
    by true = refl
    by false = names_joined row (p ∷ [])

names_with_new : (row more : List (List ℕ × Sort)) → names_in (with_new row more) ≡ insert_all bytes_eq (names_in row) (names_in more)
names_with_new row [] = refl
names_with_new row (p ∷ more) = names_with_new (if is_named_in row p.0 then row else row ++ p ∷ []) more ∙ ap (λ l. insert_all bytes_eq l (names_in more)) (one_more row p)

module _ (classes : List ClassEntry) where
  of_bases : (f : ℕ → List (List ℕ × Sort)) (g : ℕ → List (List ℕ)) → ((b : ℕ) → names_in (f b) ≡ g b) → (bs : List ℕ) → names_in (flat_map f bs) ≡ flat_map g bs
  of_bases f g h [] = refl
  of_bases f g h (b ∷ bs) = names_joined (f b) (flat_map f bs) ∙ ap₂ (λ xs ys. xs ++ ys) (h b) (of_bases f g h bs)

  pub attributes_by_are : (l c : ℕ) → names_in (attributes_by classes l c) ≡ names_by classes (own_attribute_names classes) l c
  attributes_by_are zero c = names_with_new [] (own_attributes (slice_get classes c))
  attributes_by_are (suc l) c =
      names_with_new [] (flat_map (attributes_by classes l) (bases_of classes c) ++ own_attributes (slice_get classes c))
      ∙ ap (insert_all bytes_eq [])
      (names_joined (flat_map (attributes_by classes l) (bases_of classes c)) (own_attributes (slice_get classes c))
      ∙ ap (λ row. row ++ own_attribute_names classes c) (of_bases (attributes_by classes l) (names_by classes (own_attribute_names classes) l) (λ b. attributes_by_are l b) (bases_of classes c)))

  place_of_named : (q : List ℕ) (row : List (List ℕ × Sort)) → place_in q row ≡ place_of q (names_in row)
  place_of_named q [] = refl
  place_of_named q (p ∷ row) = ap₂ (λ b o. cond {A = Option ℕ} b (Some 0) (option_map suc o)) (either_way p.0 q) (place_of_named q row) ∙ sym (position_cons (bytes_eq q) p.0 (names_in row))

  -- so an attribute has the same place in both
  pub same_place : (c : ℕ) (q : List ℕ) → place_in q (attributes classes c) ≡ place_of q (attribute_names classes c)
  same_place c q = place_of_named q (attributes classes c) ∙ ap (place_of q) (attributes_by_are c c)

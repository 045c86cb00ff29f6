-- The names that a class has: those of the classes above it and its own.
use Rattle.std.proofs.Common.{◌≡◌, ℕ, zero, suc, ◌<◌, ◌≤◌, Bool, true, false, ◌||◌, ◌==◌, List, [], ◌∷◌, ◌++◌, length, get_or, drop, flat_map, nat_lt, slice_get, Option, Some, None, refl, sym, ap, ap₂, subst, ◌∙◌, ◌⊎◌, inl, inr, if◌then◌else◌, arith, append_assoc, le_refl}
use Rattle.std.specs.List.{list_any, list_all}
use Rattle.std.specs.Str.{bytes_eq}
use Rattle.std.proofs.lemmas.Bool.{ltb-true, eqb-true}
use Rattle.std.proofs.lemmas.Bool.Decides.{nat_tests}
use Rattle.std.proofs.lemmas.List.Folds.{list_any-append}
use Rattle.std.proofs.lemmas.Option.{same_Some, slice_get_within, slice_get-get_or}
use Rattle.py_typed.specs.Classes.{ClassEntry, bases_of, bases_in, is_class_under}
use Rattle.py_typed.specs.Laws.{IsClassTree}
use Rattle.py_typed.proofs.FitLemmas.{and_left, and_right, class_under_itself}
use Rattle.py_typed.proofs.ClassLemmas.{under_by_bases, or_cases, or_left, or_right}
use Rattle.py_typed.specs.WellTyped.{all_differ}
use Rattle.py_typed.specs.WellTypedExpr.{is_trait_in}
use Rattle.class_layout_members.specs.Names.{each_once, place_of, names_by, IsNumbered, bases_fit, TraitsStand}
use Rattle.class_layout_members.proofs.RowLemmas.{has, has_once, differ_once, place_from_first, at_place, place_at}

none_below : (bs : List ℕ) → list_all (λ b. nat_lt b 0) bs ≡ true → bs ≡ []
none_below [] l = refl
none_below (b ∷ bs) l = let k = and_left (nat_lt b 0) (list_all (λ b. nat_lt b 0) bs) l in absurd (grind (arith, nat_tests, k))

pub same_all : (f g : ℕ → List (List ℕ)) (c : ℕ) (bs : List ℕ) → ((b : ℕ) → b < c → f b ≡ g b) → list_all (λ b. nat_lt b c) bs ≡ true → flat_map f bs ≡ flat_map g bs
same_all f g c [] h l = refl
same_all f g c (b ∷ bs) h l =
    let less : b < c = ltb-true b c (and_left (nat_lt b c) (list_all (λ b. nat_lt b c) bs) l) in
    ap₂ (λ xs ys. xs ++ ys) (h b less) (same_all f g c bs h (and_right (nat_lt b c) (list_all (λ b. nat_lt b c) bs) l))

module _ (classes : List ClassEntry) (tree : IsClassTree classes) (own : ℕ → List (List ℕ)) where
  abbrev pub names : ℕ → List (List ℕ)
  names c = names_by classes own c c

  -- ---- the names of a class are those of its bases and its own

  abbrev from_bases : (ℕ → List (List ℕ)) → ℕ → List ℕ → List (List ℕ)
  from_bases f c bs = each_once (flat_map f bs ++ own c)

  first_alone : (l : ℕ) → names_by classes own (suc l) 0 ≡ each_once (own 0)
  first_alone l = ap (from_bases (names_by classes own l) 0) (none_below (bases_of classes 0) (tree.falls 0))

  levels : (n m c : ℕ) → c ≤ n → c ≤ m → names_by classes own n c ≡ names_by classes own m c
  levels zero zero c p q = refl
  levels zero (suc m) zero p q = sym (first_alone m)
  levels zero (suc m) (suc c) p q = absurd (omega (arith, p))
  levels (suc n) zero zero p q = first_alone n
  levels (suc n) zero (suc c) p q = absurd (omega (arith, q))
  levels (suc n) (suc m) c p q =
      ap (λ row. each_once (row ++ own c))
      (same_all (names_by classes own n) (names_by classes own m) c (bases_of classes c) (λ b less. levels n m b (omega (arith, p, less)) (omega (arith, q, less))) (tree.falls c))

  pub names_are : (c : ℕ) → names c ≡ each_once (flat_map names (bases_of classes c) ++ own c)
  names_are c =
      levels c (suc c) c (omega arith) (omega arith)
      ∙ ap (λ row. each_once (row ++ own c)) (same_all (names_by classes own c) names c (bases_of classes c) (λ b less. levels c b b (omega (arith, less)) (omega arith)) (tree.falls c))

  has_parts : (c : ℕ) (q : List ℕ) → has q (names c) ≡ (has q (flat_map names (bases_of classes c)) || has q (own c))
  has_parts c q = ap (has q) (names_are c) ∙ has_once (flat_map names (bases_of classes c) ++ own c) q ∙ list_any-append (bytes_eq q) (flat_map names (bases_of classes c)) (own c)

  -- ---- each name of a class above is there

  in_bases : (c d : ℕ) (q : List ℕ) (bs : List ℕ) → list_all (λ b. nat_lt b c) bs ≡ true → list_any (λ b. is_class_under classes b d) bs ≡ true
      → ((b : ℕ) → b < c → is_class_under classes b d ≡ true → has q (names b) ≡ true) → has q (flat_map names bs) ≡ true
  in_bases c d q [] l u h = absurd (cc)
  in_bases c d q (b ∷ bs) l u h = list_any-append (bytes_eq q) (names b) (flat_map names bs) ∙ by (or_cases (is_class_under classes b d) (list_any (λ b. is_class_under classes b d) bs) u) (λ v. in_bases c d q bs (and_right (nat_lt b c) (list_all (λ b. nat_lt b c) bs) l) v h)
    where
      by : (is_class_under classes b d ≡ true) ⊎ (list_any (λ b. is_class_under classes b d) bs ≡ true) → (list_any (λ b. is_class_under classes b d) bs ≡ true → has q (flat_map names bs) ≡ true) → (has q (names b) || has q (flat_map names bs)) ≡ true
      by (inl e) r = or_left (has q (names b)) (has q (flat_map names bs)) (h b (ltb-true b c (and_left (nat_lt b c) (list_all (λ b. nat_lt b c) bs) l)) e)
      by (inr e) r = or_right (has q (names b)) (has q (flat_map names bs)) (r e)

  above_step : (c d : ℕ) (q : List ℕ) → is_class_under classes c d ≡ true → has q (own d) ≡ true → ((b : ℕ) → b < c → is_class_under classes b d ≡ true → has q (names b) ≡ true) → has q (names c) ≡ true
  above_step c d q u h rec = has_parts c q ∙ by (or_cases (c == d) (list_any (λ b. is_class_under classes b d) (bases_of classes c)) (sym (under_by_bases classes c d (tree.falls c)) ∙ u))
    where
      by : ((c == d) ≡ true) ⊎ (list_any (λ b. is_class_under classes b d) (bases_of classes c) ≡ true) → (has q (flat_map names (bases_of classes c)) || has q (own c)) ≡ true
      by (inl e) = or_right (has q (flat_map names (bases_of classes c))) (has q (own c)) (subst (λ z. has q (own z) ≡ true) (sym (eqb-true c d e)) h)
      by (inr e) = or_left (has q (flat_map names (bases_of classes c))) (has q (own c)) (in_bases c d q (bases_of classes c) (tree.falls c) e rec)

  has_above : (n c d : ℕ) (q : List ℕ) → c ≤ n → is_class_under classes c d ≡ true → has q (own d) ≡ true → has q (names c) ≡ true
  has_above zero c d q le u h = above_step c d q u h (λ b less v. absurd (omega (arith, less, le)))
  has_above (suc n) c d q le u h = above_step c d q u h (λ b less v. has_above n b d q (omega (arith, less, le)) v h)

  pub has_of_above : (c d : ℕ) (q : List ℕ) → is_class_under classes c d ≡ true → has q (own d) ≡ true → has q (names c) ≡ true
  has_of_above c d q u h = has_above c c d q (le_refl c) u h

  -- ---- and each name that is there is one of a class above

  from_base : (c : ℕ) (q : List ℕ) (bs : List ℕ) → list_all (λ b. nat_lt b c) bs ≡ true → has q (flat_map names bs) ≡ true
      → ((b : ℕ) → b < c → has q (names b) ≡ true → (d : ℕ) × (is_class_under classes b d ≡ true) × (has q (own d) ≡ true)) → (d : ℕ) × (list_any (λ b. is_class_under classes b d) bs ≡ true) × (has q (own d) ≡ true)
  from_base c q [] l h rec = absurd (cc)
  from_base c q (b ∷ bs) l h rec =
      by (or_cases (has q (names b)) (has q (flat_map names bs)) (sym (list_any-append (bytes_eq q) (names b) (flat_map names bs)) ∙ h))
      (λ k. from_base c q bs (and_right (nat_lt b c) (list_all (λ b. nat_lt b c) bs) l) k rec)
    where
      by : (has q (names b) ≡ true) ⊎ (has q (flat_map names bs) ≡ true) → (has q (flat_map names bs) ≡ true → (d : ℕ) × (list_any (λ b. is_class_under classes b d) bs ≡ true) × (has q (own d) ≡ true))
          → (d : ℕ) × ((is_class_under classes b d || list_any (λ b. is_class_under classes b d) bs) ≡ true) × (has q (own d) ≡ true)
      by (inl e) r =
          let t : _ = rec b (ltb-true b c (and_left (nat_lt b c) (list_all (λ b. nat_lt b c) bs) l)) e in
          (t.0, or_left (is_class_under classes b t.0) (list_any (λ x. is_class_under classes x t.0) bs) t.1, t.2)
      by (inr e) r = let t : _ = r e in (t.0, or_right (is_class_under classes b t.0) (list_any (λ x. is_class_under classes x t.0) bs) t.1, t.2)

  from_step : (c : ℕ) (q : List ℕ) → has q (names c) ≡ true → ((b : ℕ) → b < c → has q (names b) ≡ true → (d : ℕ) × (is_class_under classes b d ≡ true) × (has q (own d) ≡ true))
      → (d : ℕ) × (is_class_under classes c d ≡ true) × (has q (own d) ≡ true)
  from_step c q h rec = by (or_cases (has q (flat_map names (bases_of classes c))) (has q (own c)) (sym (has_parts c q) ∙ h))
    where
      by : (has q (flat_map names (bases_of classes c)) ≡ true) ⊎ (has q (own c) ≡ true) → (d : ℕ) × (is_class_under classes c d ≡ true) × (has q (own d) ≡ true)
      by (inl e) =
          let t : _ = from_base c q (bases_of classes c) (tree.falls c) e rec in
          (t.0, under_by_bases classes c t.0 (tree.falls c) ∙ or_right (c == t.0) (list_any (λ b. is_class_under classes b t.0) (bases_of classes c)) t.1, t.2)
      by (inr e) = (c, class_under_itself classes c, e)

  has_from : (n c : ℕ) (q : List ℕ) → c ≤ n → has q (names c) ≡ true → (d : ℕ) × (is_class_under classes c d ≡ true) × (has q (own d) ≡ true)
  has_from zero c q le h = from_step c q h (λ b less k. absurd (omega (arith, less, le)))
  has_from (suc n) c q le h = from_step c q h (λ b less k. has_from n b q (omega (arith, less, le)) k)

  pub has_of_own : (c : ℕ) (q : List ℕ) → has q (names c) ≡ true → (d : ℕ) × (is_class_under classes c d ≡ true) × (has q (own d) ≡ true)
  has_of_own c q h = has_from c c q (le_refl c) h

  -- ---- places are numbers from 0, each once

  pub names_differ : (c : ℕ) → all_differ (names c) ≡ true
  names_differ c = ap all_differ (names_are c) ∙ differ_once (flat_map names (bases_of classes c) ++ own c)

  pub numbered : (c : ℕ) → IsNumbered (λ q. place_of q (names c)) (length (names c))
  numbered c =
      record {
        below = λ q i e. slice_get_within (names c) i q (at_place (names c) i q e);
        each = λ i less. (get_or (names c) i [], place_at (names c) i (get_or (names c) i []) (names_differ c) (slice_get-get_or (names c) i [] less));
        once = λ p q i e f. same_Some p q (sym (at_place (names c) i p e) ∙ at_place (names c) i q f);
      }

  -- ---- a class keeps the places of its first base, and so those of every class above it that is no trait

  first_base : (d b : ℕ) (more : List ℕ) (q : List ℕ) (i : ℕ) → bases_of classes d ≡ b ∷ more → place_of q (names b) ≡ Some i → place_of q (names d) ≡ Some i
  first_base d b more q i e h =
      ap (place_of q)
      (names_are d
      ∙ ap (λ bs. each_once (flat_map names bs ++ own d)) e
      ∙ ap each_once (append_assoc (names b) (flat_map names more) (own d))
      ∙ ap (λ l. each_once (l ++ (flat_map names more ++ own d))) (names_are b))
      ∙ place_from_first q (flat_map names (bases_of classes b) ++ own b) (flat_map names more ++ own d) i (sym (ap (place_of q) (names_are b)) ∙ h)

  module _ (stand : TraitsStand classes) where
    abbrev is_trait : ℕ → Bool
    is_trait c = is_trait_in (slice_get classes c)

    bases_of_trait : (c : ℕ) → is_trait c ≡ true → list_all is_trait (bases_of classes c) ≡ true
    bases_of_trait c t = by (slice_get classes c) (stand.fit c) t
      where
        by : (o : Option ClassEntry) → bases_fit classes o ≡ true → is_trait_in o ≡ true → list_all is_trait (bases_in o) ≡ true
        by None f t = refl
        by (Some e) f t = subst (λ z. list_all is_trait (if z then e.bases else drop 1 e.bases) ≡ true) t f

    all_behind : (bs : List ℕ) → list_all is_trait bs ≡ true → list_all is_trait (drop 1 bs) ≡ true
    all_behind [] h = h
    all_behind (b ∷ bs) h = and_right (is_trait b) (list_all is_trait bs) h

    later_bases : (c : ℕ) → list_all is_trait (drop 1 (bases_of classes c)) ≡ true
    later_bases c = by (slice_get classes c) (stand.fit c)
      where
        inner : (e : ClassEntry) (b : Bool) → list_all is_trait (if b then e.bases else drop 1 e.bases) ≡ true → list_all is_trait (drop 1 e.bases) ≡ true
        inner e true f = all_behind e.bases f
        inner e false f = f

        by : (o : Option ClassEntry) → bases_fit classes o ≡ true → list_all is_trait (drop 1 (bases_in o)) ≡ true
        by None f = refl
        by (Some e) f = inner e e.is_trait f

    any_trait : (c d : ℕ) (bs : List ℕ) → list_all (λ b. nat_lt b c) bs ≡ true → list_all is_trait bs ≡ true → list_any (λ b. is_class_under classes b d) bs ≡ true
        → ((b : ℕ) → b < c → is_trait b ≡ true → is_class_under classes b d ≡ true → is_trait d ≡ true) → is_trait d ≡ true
    any_trait c d [] l t u rec = absurd (cc)
    any_trait c d (b ∷ bs) l t u rec =
        by (or_cases (is_class_under classes b d) (list_any (λ b. is_class_under classes b d) bs) u)
        (λ v. any_trait c d bs (and_right (nat_lt b c) (list_all (λ b. nat_lt b c) bs) l) (and_right (is_trait b) (list_all is_trait bs) t) v rec)
      where
        by : (is_class_under classes b d ≡ true) ⊎ (list_any (λ b. is_class_under classes b d) bs ≡ true) → (list_any (λ b. is_class_under classes b d) bs ≡ true → is_trait d ≡ true) → is_trait d ≡ true
        by (inl e) r = rec b (ltb-true b c (and_left (nat_lt b c) (list_all (λ b. nat_lt b c) bs) l)) (and_left (is_trait b) (list_all is_trait bs) t) e
        by (inr e) r = r e

    trait_step : (c d : ℕ) → is_trait c ≡ true → is_class_under classes c d ≡ true → ((b : ℕ) → b < c → is_trait b ≡ true → is_class_under classes b d ≡ true → is_trait d ≡ true) → is_trait d ≡ true
    trait_step c d t u rec = by (or_cases (c == d) (list_any (λ b. is_class_under classes b d) (bases_of classes c)) (sym (under_by_bases classes c d (tree.falls c)) ∙ u))
      where
        by : ((c == d) ≡ true) ⊎ (list_any (λ b. is_class_under classes b d) (bases_of classes c) ≡ true) → is_trait d ≡ true
        by (inl e) = subst (λ z. is_trait z ≡ true) (eqb-true c d e) t
        by (inr e) = any_trait c d (bases_of classes c) (tree.falls c) (bases_of_trait c t) e rec

    trait_above : (n c d : ℕ) → c ≤ n → is_trait c ≡ true → is_class_under classes c d ≡ true → is_trait d ≡ true
    trait_above zero c d le t u = trait_step c d t u (λ b less s v. absurd (omega (arith, less, le)))
    trait_above (suc n) c d le t u = trait_step c d t u (λ b less s v. trait_above n b d (omega (arith, less, le)) s v)

    place_step : (d c : ℕ) (q : List ℕ) (i : ℕ) → is_class_under classes d c ≡ true → is_trait c ≡ false → place_of q (names c) ≡ Some i
        → ((b : ℕ) → b < d → is_class_under classes b c ≡ true → place_of q (names b) ≡ Some i) → place_of q (names d) ≡ Some i
    place_step d c q i u t h rec = by (or_cases (d == c) (list_any (λ b. is_class_under classes b c) (bases_of classes d)) (sym (under_by_bases classes d c (tree.falls d)) ∙ u))
      where
        first : (b : ℕ) (more : List ℕ) → bases_of classes d ≡ b ∷ more → list_all (λ b. nat_lt b d) (b ∷ more) ≡ true → list_all is_trait more ≡ true
            → (is_class_under classes b c ≡ true) ⊎ (list_any (λ b. is_class_under classes b c) more ≡ true) → place_of q (names d) ≡ Some i
        first b more e l s (inl v) = first_base d b more q i e (rec b (ltb-true b d (and_left (nat_lt b d) (list_all (λ b. nat_lt b d) more) l)) v)
        first b more e l s (inr v) =
            let is : is_trait c ≡ true = any_trait d c more (and_right (nat_lt b d) (list_all (λ b. nat_lt b d) more) l) s v (λ x less w k. trait_above x x c (le_refl x) w k) in
            let both : false ≡ true = sym t ∙ is in
            absurd (cc)

        bases : (bs : List ℕ) → bases_of classes d ≡ bs → list_all (λ b. nat_lt b d) bs ≡ true → list_all is_trait (drop 1 bs) ≡ true → list_any (λ b. is_class_under classes b c) bs ≡ true → place_of q (names d) ≡ Some i
        bases [] e l s v = absurd (cc)
        bases (b ∷ more) e l s v = first b more e l s (or_cases (is_class_under classes b c) (list_any (λ b. is_class_under classes b c) more) v)

        by : ((d == c) ≡ true) ⊎ (list_any (λ b. is_class_under classes b c) (bases_of classes d) ≡ true) → place_of q (names d) ≡ Some i
        by (inl e) = ap (λ z. place_of q (names z)) (eqb-true d c e) ∙ h
        by (inr e) = bases (bases_of classes d) refl (tree.falls d) (later_bases d) e

    place_below : (n d c : ℕ) (q : List ℕ) (i : ℕ) → d ≤ n → is_class_under classes d c ≡ true → is_trait c ≡ false → place_of q (names c) ≡ Some i → place_of q (names d) ≡ Some i
    place_below zero d c q i le u t h = place_step d c q i u t h (λ b less v. absurd (omega (arith, less, le)))
    place_below (suc n) d c q i le u t h = place_step d c q i u t h (λ b less v. place_below n b c q i (omega (arith, less, le)) v t h)

    pub place_stays : (d c : ℕ) (q : List ℕ) (i : ℕ) → is_class_under classes d c ≡ true → is_trait c ≡ false → place_of q (names c) ≡ Some i → place_of q (names d) ≡ Some i
    place_stays d c q i u t h = place_below d d c q i (le_refl d) u t h

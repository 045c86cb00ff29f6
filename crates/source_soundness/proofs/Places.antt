-- An attribute keeps its place in the classes below its own.
use Rattle.std.proofs.Common.{◌≡◌, ℕ, zero, suc, ◌<◌, ◌≤◌, Bool, true, false, ◌==◌, if◌then◌else◌, List, [], ◌∷◌, ◌++◌, drop, Option, Some, None, refl, sym, ap, subst, ◌∙◌, ◌⊎◌, inl, inr, nat_lt, slice_get, append_assoc, append-nil, arith}
use Rattle.std.proofs.lemmas.Bool.Decides.{nat_tests}
use Rattle.std.specs.List.{list_any, list_all, flat_map}
use Rattle.std.specs.Option.{option_map}
use Rattle.std.specs.Str.{bytes_eq}
use Rattle.std.proofs.lemmas.Bool.{eq-eqb, eqb-true}
use Rattle.py_typed.specs.Sorts.{Sort}
use Rattle.py_typed.specs.Classes.{ClassEntry, bases_in, bases_of, has_class, is_class_under}
use Rattle.py_typed.specs.Order.{place_in, own_attributes, is_named_in, with_new, attributes_by, attributes}
use Rattle.py_typed.specs.Laws.{IsClassTree}
use Rattle.py_typed.specs.Statements.{TypedModule}
use Rattle.py_typed.specs.WellTypedExpr.{is_trait_in}
use Rattle.py_typed.specs.WellTypedModule.{bases_typed, is_well_typed}
use Rattle.py_typed.proofs.FitLemmas.{and_left}
use Rattle.py_typed.proofs.ClassLemmas.{or_cases, under_by_bases, or_left, or_right}
use Rattle.source_soundness.proofs.Facts.{two}
use Rattle.source_soundness.proofs.Members.{tree_is, class_parts, of_class, base_under, below_class}

abbrev Row : Type 0
Row = List (List ℕ × Sort)

-- ---- rows

place_left : (name : List ℕ) (xs ys : Row) (i : ℕ) → place_in name xs ≡ Some i → place_in name (xs ++ ys) ≡ Some i
place_left name [] ys i e = absurd (cc)
place_left name (x ∷ xs) ys i e = by (bytes_eq x.0 name) e (λ j q. place_left name xs ys j q)
  where
    more : (o : Option ℕ) → place_in name xs ≡ o → option_map suc o ≡ Some i → ((j : ℕ) → place_in name xs ≡ Some j → place_in name (xs ++ ys) ≡ Some j) → option_map suc (place_in name (xs ++ ys)) ≡ Some i
    more None q e r = absurd (cc)
    more (Some j) q e r = ap (option_map suc) (r j q) ∙ e

    by : (b : Bool) → (if b then Some 0 else option_map suc (place_in name xs)) ≡ Some i → ((j : ℕ) → place_in name xs ≡ Some j → place_in name (xs ++ ys) ≡ Some j) → (if b then Some 0 else option_map suc (place_in name (xs ++ ys))) ≡ Some i
    by true e r = e
    by false e r = more (place_in name xs) refl e r

place_kept : (name : List ℕ) (row more : Row) (i : ℕ) → place_in name row ≡ Some i → place_in name (with_new row more) ≡ Some i
place_kept name row [] i e = e
place_kept name row (p ∷ more) i e = place_kept name (if is_named_in row p.0 then row else row ++ p ∷ []) more i (by (is_named_in row p.0))
  where
    by : (b : Bool) → place_in name (if b then row else row ++ p ∷ []) ≡ Some i
    by true = e
    by false = place_left name row (p ∷ []) i e

new_append : (row xs ys : Row) → with_new row (xs ++ ys) ≡ with_new (with_new row xs) ys
new_append row [] ys = refl
new_append row (x ∷ xs) ys = new_append (if is_named_in row x.0 then row else row ++ x ∷ []) xs ys

-- names that are not yet in the row, nor twice
abbrev Fresh : Row → Row → Type 0
Fresh row [] = Unit {0}
Fresh row (p ∷ more) = (is_named_in row p.0 ≡ false) × Fresh (row ++ p ∷ []) more

fresh_new : (row more : Row) → Fresh row more → with_new row more ≡ row ++ more
fresh_new row [] f = sym (append-nil row)
fresh_new row (p ∷ more) f =
    ap (λ b. with_new (if b then row else row ++ p ∷ []) more) f.0 ∙ fresh_new (row ++ p ∷ []) more f.1 ∙ append_assoc row (p ∷ []) more

news_of : (row more : Row) → (news : Row) × (with_new row more ≡ row ++ news) × Fresh row news
news_of row [] = ([], sym (append-nil row), tt)
news_of row (p ∷ more) = by (is_named_in row p.0) refl (news_of row more) (news_of (row ++ p ∷ []) more)
  where
    by : (b : Bool) → is_named_in row p.0 ≡ b → ((news : Row) × (with_new row more ≡ row ++ news) × Fresh row news) → ((news : Row) × (with_new (row ++ p ∷ []) more ≡ (row ++ p ∷ []) ++ news) × Fresh (row ++ p ∷ []) news)
        → (news : Row) × (with_new (if b then row else row ++ p ∷ []) more ≡ row ++ news) × Fresh row news
    by true q r s = r
    by false q r s = (p ∷ s.0, s.1 ∙ append_assoc row (p ∷ []) s.0, (q, s.2))

new_again : (more : Row) → with_new [] (with_new [] more) ≡ with_new [] more
new_again more = let n : _ = news_of [] more in ap (with_new []) n.1 ∙ fresh_new [] n.0 n.2 ∙ sym n.1

-- ---- attributes, by levels

same_rows : (f g : ℕ → Row) (bs : List ℕ) → ((b : ℕ) → has_class b bs ≡ true → f b ≡ g b) → flat_map f bs ≡ flat_map g bs
same_rows f g [] h = refl
same_rows f g (b ∷ bs) h =
    ap (λ x. x ++ flat_map f bs) (h b (or_left (b == b) (has_class b bs) (eq-eqb b b refl)))
    ∙ ap (λ x. g b ++ x) (same_rows f g bs (λ c i. h c (or_right (b == c) (has_class c bs) i)))

no_rows : (f : ℕ → Row) (bs : List ℕ) → ((b : ℕ) → has_class b bs ≡ true → f b ≡ []) → flat_map f bs ≡ []
no_rows f [] h = refl
no_rows f (b ∷ bs) h =
    ap (λ x. x ++ flat_map f bs) (h b (or_left (b == b) (has_class b bs) (eq-eqb b b refl)))
    ∙ no_rows f bs (λ c i. h c (or_right (b == c) (has_class c bs) i))

no_bases : (bs : List ℕ) → list_all (λ b. nat_lt b 0) bs ≡ true → bs ≡ []
no_bases [] h = refl
no_bases (b ∷ bs) h = let l = and_left (nat_lt b 0) (list_all (λ b. nat_lt b 0) bs) h in absurd (grind (arith, nat_tests, l))

module _ (classes : List ClassEntry) (tree : IsClassTree classes) where
  once : (l c : ℕ) → with_new [] (attributes_by classes l c) ≡ attributes_by classes l c
  once zero c = new_again (own_attributes (slice_get classes c))
  once (suc l) c = new_again (flat_map (attributes_by classes l) (bases_of classes c) ++ own_attributes (slice_get classes c))

  none_below : (c : ℕ) → c ≤ 0 → bases_of classes c ≡ []
  none_below zero le = no_bases (bases_of classes 0) (tree.falls 0)
  none_below (suc c) le = absurd (omega (arith, le))

  -- the levels do not count, where they are as many as the class's number
  levels : (l k c : ℕ) → c ≤ l → c ≤ k → attributes_by classes l c ≡ attributes_by classes k c
  levels zero zero c le le' = refl
  levels zero (suc k) c le le' = sym (ap (λ bs. with_new [] (flat_map (attributes_by classes k) bs ++ own_attributes (slice_get classes c))) (none_below c le))
  levels (suc l) zero c le le' = ap (λ bs. with_new [] (flat_map (attributes_by classes l) bs ++ own_attributes (slice_get classes c))) (none_below c le')
  levels (suc l) (suc k) c le le' =
      ap (λ x. with_new [] (x ++ own_attributes (slice_get classes c)))
      (same_rows (attributes_by classes l) (attributes_by classes k) (bases_of classes c)
      (λ b i. let less = below_class c b (bases_of classes c) i (tree.falls c) in levels l k b (grind (arith, nat_tests, less, le)) (grind (arith, nat_tests, less, le'))))

  -- the attributes of the first base come first
  first_base : (l b d : ℕ) (rest : List ℕ) (name : List ℕ) (i : ℕ) → bases_of classes b ≡ d ∷ rest → place_in name (attributes_by classes l d) ≡ Some i → place_in name (attributes_by classes (suc l) b) ≡ Some i
  first_base l b d rest name i e p =
      let A = attributes_by classes l d in
      let B = flat_map (attributes_by classes l) rest in
      let O = own_attributes (slice_get classes b) in
      let whole : attributes_by classes (suc l) b ≡ with_new (with_new A B) O =
      ap (λ bs. with_new [] (flat_map (attributes_by classes l) bs ++ O)) e ∙ new_append [] (A ++ B) O ∙ ap (λ x. with_new x O) (new_append [] A B ∙ ap (λ x. with_new x B) (once l d)) in
      ap (place_in name) whole ∙ place_kept name (with_new A B) O i (place_kept name A B i p)

module _ (is_identifier : List ℕ → Bool) (m : TypedModule) (w : is_well_typed is_identifier m ≡ true) where
  abbrev C : List ClassEntry
  C = m.classes.classes

  abbrev IsTrait : ℕ → Type 0
  IsTrait c = is_trait_in (slice_get C c) ≡ true

  -- the bases of a trait are traits, and so are all but the first of a class that is none
  trait_bases : (x : ClassEntry) (b : Bool) → x.is_trait ≡ b → bases_typed is_identifier m x ≡ true → list_all (λ d. is_trait_in (slice_get C d)) (if b then x.bases else drop 1 x.bases) ≡ true
  trait_bases x b q h = subst (λ z. list_all (λ d. is_trait_in (slice_get C d)) (if z then x.bases else drop 1 x.bases) ≡ true) q (two (list_all (λ d. is_trait_in (slice_get C d)) (if x.is_trait then x.bases else drop 1 x.bases)) _ h).0

  trait_empty : (x : ClassEntry) → x.is_trait ≡ true → bases_typed is_identifier m x ≡ true → x.attributes ≡ []
  trait_empty x t h = by x.attributes refl
    where
      by : (row : Row) → x.attributes ≡ row → x.attributes ≡ []
      by [] q = q
      by (p ∷ row) q = absurd (cc ((two _ false (rw (t, q, bases_typed) at h)).1))

  base_trait : (c b : ℕ) → IsTrait c → has_class b (bases_of C c) ≡ true → IsTrait b
  base_trait c b t i = by (slice_get C c) refl t i
    where
      by : (o : Option ClassEntry) → slice_get C c ≡ o → is_trait_in o ≡ true → has_class b (bases_in o) ≡ true → IsTrait b
      by None q t i = absurd (cc)
      by (Some x) q t i = of_class (λ d. is_trait_in (slice_get C d)) x.bases b (trait_bases x true t (class_parts is_identifier m w c x q).bases) i

  -- all above a trait are traits, which have no attributes
  trait_up : (n d c : ℕ) → d < n → IsTrait d → is_class_under C d c ≡ true → IsTrait c
  trait_up zero d c l t u = absurd (omega (arith, l))
  trait_up (suc n) d c l t u = by (or_cases (d == c) (list_any (λ b. is_class_under C b c) (bases_of C d)) (sym (under_by_bases C d c ((tree_is is_identifier m w).falls d)) ∙ u)) (λ b k t' u'. trait_up n b c k t' u')
    where
      by : ((d == c) ≡ true) ⊎ (list_any (λ b. is_class_under C b c) (bases_of C d) ≡ true) → ((b : ℕ) → b < n → IsTrait b → is_class_under C b c ≡ true → IsTrait c) → IsTrait c
      by (inl q) r = subst IsTrait (eqb-true d c q) t
      by (inr q) r =
          let b : _ = base_under C c (bases_of C d) q in
          let less = below_class d b.0 (bases_of C d) b.1 ((tree_is is_identifier m w).falls d) in
          r b.0 (grind (arith, nat_tests, less, l)) (base_trait d b.0 t b.1) b.2

  own_none : (c : ℕ) (o : Option ClassEntry) → slice_get C c ≡ o → is_trait_in o ≡ true → own_attributes o ≡ []
  own_none c None q t = refl
  own_none c (Some x) q t = trait_empty x t (class_parts is_identifier m w c x q).bases

  trait_none : (l c : ℕ) → IsTrait c → attributes_by C l c ≡ []
  trait_none zero c t = ap (with_new []) (own_none c (slice_get C c) refl t)
  trait_none (suc l) c t =
      ap (λ x. with_new [] (x ++ own_attributes (slice_get C c))) (no_rows (attributes_by C l) (bases_of C c) (λ b i. trait_none l b (base_trait c b t i)))
      ∙ ap (with_new []) (own_none c (slice_get C c) refl t)

  -- an attribute of a class has its place in each class under it
  kept_by : (n b c : ℕ) (name : List ℕ) (i : ℕ) → b < n → is_class_under C b c ≡ true → place_in name (attributes C c) ≡ Some i → place_in name (attributes C b) ≡ Some i
  kept_by zero b c name i l u p = absurd (omega (arith, l))
  kept_by (suc n) b c name i l u p = by (or_cases (b == c) (list_any (λ d. is_class_under C d c) (bases_of C b)) (sym (under_by_bases C b c ((tree_is is_identifier m w).falls b)) ∙ u)) (λ d k v. kept_by n d c name i k v p)
    where
      no_trait : (d : ℕ) → is_class_under C d c ≡ true → IsTrait d → ⊥
      no_trait d v t = absurd (cc (sym (ap (place_in name) (trait_none c c (trait_up (suc d) d c (omega arith) t v))) ∙ p))

      -- with the class's bases at hand
      below : (o : Option ClassEntry) → slice_get C b ≡ o → (d : ℕ) → has_class d (bases_in o) ≡ true → is_class_under C d c ≡ true → (rest : List ℕ) × (bases_in o ≡ d ∷ rest)
      below None q d i v = absurd (cc)
      below (Some x) q d i v = by_trait x.is_trait refl
        where
          first : (bs : List ℕ) → has_class d bs ≡ true → list_all (λ e. is_trait_in (slice_get C e)) (drop 1 bs) ≡ true → (rest : List ℕ) × (bs ≡ d ∷ rest)
          first [] i h = absurd (cc)
          first (e ∷ bs) i h = either (or_cases (e == d) (has_class d bs) i)
            where
              either : ((e == d) ≡ true) ⊎ (has_class d bs ≡ true) → (rest : List ℕ) × (e ∷ bs ≡ d ∷ rest)
              either (inl k) = (bs, ap (λ z. z ∷ bs) (eqb-true e d k))
              either (inr k) = absurd (no_trait d v (of_class (λ e. is_trait_in (slice_get C e)) bs d h k))

          by_trait : (t : Bool) → x.is_trait ≡ t → (rest : List ℕ) × (x.bases ≡ d ∷ rest)
          by_trait true t = absurd (no_trait d v (of_class (λ e. is_trait_in (slice_get C e)) x.bases d (trait_bases x true t (class_parts is_identifier m w b x q).bases) i))
          by_trait false t = first x.bases i (trait_bases x false t (class_parts is_identifier m w b x q).bases)

      at_level : (a d : ℕ) (rest : List ℕ) → b ≡ a → d < a → bases_of C b ≡ d ∷ rest → place_in name (attributes C d) ≡ Some i → place_in name (attributes C b) ≡ Some i
      at_level zero d rest q less e r = absurd (omega (arith, less))
      at_level (suc k) d rest q less e r =
          ap (place_in name) (ap (λ z. attributes_by C z b) q)
          ∙ first_base C (tree_is is_identifier m w) k b d rest name i e (ap (place_in name) (levels C (tree_is is_identifier m w) k d d (omega (arith, less)) (omega arith)) ∙ r)

      by : ((b == c) ≡ true) ⊎ (list_any (λ d. is_class_under C d c) (bases_of C b) ≡ true) → ((d : ℕ) → d < n → is_class_under C d c ≡ true → place_in name (attributes C d) ≡ Some i) → place_in name (attributes C b) ≡ Some i
      by (inl q) r = ap (λ z. place_in name (attributes C z)) (eqb-true b c q) ∙ p
      by (inr q) r =
          let d : _ = base_under C c (bases_of C b) q in
          let less = below_class b d.0 (bases_of C b) d.1 ((tree_is is_identifier m w).falls b) in
          let e : _ = below (slice_get C b) refl d.0 d.1 d.2 in
          at_level b d.0 e.0 refl (grind (arith, nat_tests, less)) e.1 (r d.0 (grind (arith, nat_tests, less, l)) d.2)

  pub place_below : (b c : ℕ) (name : List ℕ) (i : ℕ) → is_class_under C b c ≡ true → place_in name (attributes C c) ≡ Some i → place_in name (attributes C b) ≡ Some i
  place_below b c name i u p = kept_by (suc b) b c name i (omega arith) u p

-- What a well-typed module's functions and classes are to those that call them.
use Rattle.std.proofs.Common.{◌≡◌, ℕ, zero, suc, ◌+◌, ◌≤◌, Bool, true, false, not, ◌||◌, ◌==◌, if◌then◌else◌, List, [], ◌∷◌, ◌++◌, length, map, take, drop, find, cond, Option, Some, None, refl, sym, ap, subst, ◌∙◌, ◌⊎◌, inl, inr, nat_lt, slice_get, codes, arith, le_refl}
use Rattle.std.proofs.lemmas.Bool.Decides.{nat_tests}
use Rattle.std.proofs.lemmas.Slice.Eq.{bytes_eq-Decides}
use Rattle.std.proofs.lemmas.Option.{same_Some}
use Rattle.std.specs.List.{list_any, list_all, flat_map}
use Rattle.std.specs.Option.{option_map, option_and_then, option_or}
use Rattle.std.specs.Str.{bytes_eq, is_utf8}
use Rattle.std.proofs.lemmas.Bool.{eq-eqb, eqb-true}
use Rattle.py_typed.specs.Sorts.{Sort, sorts_of}
use Rattle.py_typed.specs.Classes.{ClassEntry, Signature, bases_of, has_class, is_class_under, is_above, bases_in}
use Rattle.py_typed.specs.Fits.{is_same_type}
use Rattle.py_typed.specs.Order.{first_there, named, place_in, own_attributes, is_named_in, with_new, order, listed_order, own_method, own_attribute, method_along, method_of, attribute_of, attributes_by, attributes}
use Rattle.py_typed.specs.Laws.{IsClassTree}
use Rattle.py_typed.specs.TypeTexts.{name_in}
use Rattle.py_typed.specs.Statements.{Variable, TypedFunc, TypedModule}
use Rattle.source_meaning.specs.ExpressionMeaning.{name_at}
use Rattle.py_typed.specs.WellTyped.{suite_typed, all_differ, has_statement}
use Rattle.py_typed.specs.WellTypedExpr.{is_value_type, is_result_type, init_class, is_same_place}
use Rattle.py_typed.specs.WellTypedModule.{all_at, types_in, names_of, has_self, signature_fits, same_row, ends_well, init_gives_nothing, is_init_of_trait, variables_typed, func_typed, method_typed, is_listed, bases_typed, differing, has_order, same_signature, agrees_with_method, agrees_with_attribute, methods_agree, attributes_agree, members_agree, class_typed, is_well_typed}
use Rattle.py_typed.proofs.FitLemmas.{and_left, and_right, one_type, class_under_itself}
use Rattle.py_typed.proofs.ClassLemmas.{or_cases, under_on, by_falling, under_by_bases, or_left, or_right}
use Rattle.source_soundness.proofs.Facts.{Facts, Signed, MethodOf, AttributeOf, two, three, one_row}
use Rattle.source_soundness.proofs.TextLemmas.{ascii_text}
use Rattle.source_soundness.proofs.Fine.{NamesAre}
use Rattle.source_soundness.proofs.Linear.{order_under, order_has, by_base}
use Rattle.source_soundness.proofs.Runs.{IsTyped}

at : {A : Type 0} (test : ℕ → A → Bool) (i : ℕ) (xs : List A) (k : ℕ) (x : A) → all_at i test xs ≡ true → slice_get xs k ≡ Some x → test (i + k) x ≡ true
at test i [] k x h e = absurd (cc)
at test i (y ∷ xs) zero x h e =
    let n : i + 0 ≡ i = omega arith in
    subst (λ z. test z x ≡ true) (sym n) (subst (λ z. test i z ≡ true) (same_Some y x e) (and_left (test i y) (all_at (suc i) test xs) h))
at test i (y ∷ xs) (suc k) x h e =
    let n : suc i + k ≡ i + suc k = omega arith in
    subst (λ z. test z x ≡ true) n (at test (suc i) xs k x (and_right (test i y) (all_at (suc i) test xs) h) e)

at_0 : {A : Type 0} (test : ℕ → A → Bool) (xs : List A) (k : ℕ) (x : A) → all_at 0 test xs ≡ true → slice_get xs k ≡ Some x → test k x ≡ true
at_0 test xs k x h e = let n : 0 + k ≡ k = omega arith in subst (λ z. test z x ≡ true) n (at test 0 xs k x h e)

-- one of a list that passes
all_of : {A : Type 0} (test : A → Bool) (xs : List A) (i : ℕ) (x : A) → list_all test xs ≡ true → slice_get xs i ≡ Some x → test x ≡ true
all_of test [] i x h e = absurd (cc)
all_of test (y ∷ xs) zero x h e = subst (λ z. test z ≡ true) (same_Some y x e) (and_left (test y) (list_all test xs) h)
all_of test (y ∷ xs) (suc i) x h e = all_of test xs i x (and_right (test y) (list_all test xs) h) e

pub of_class : (test : ℕ → Bool) (row : List ℕ) (d : ℕ) → list_all test row ≡ true → has_class d row ≡ true → test d ≡ true
of_class test [] d h i = absurd (cc)
of_class test (x ∷ row) d h i = by (or_cases (x == d) (has_class d row) i) (λ j. of_class test row d (and_right (test x) (list_all test row) h) j)
  where
    by : ((x == d) ≡ true) ⊎ (has_class d row ≡ true) → (has_class d row ≡ true → test d ≡ true) → test d ≡ true
    by (inl e) r = subst (λ z. test z ≡ true) (eqb-true x d e) (and_left (test x) (list_all test row) h)
    by (inr e) r = r e

-- the first that has something
first_is : {B : Type 0} (f : ℕ → Option B) (row : List ℕ) (b : B) → first_there f row ≡ Some b → (d : ℕ) × (has_class d row ≡ true) × (f d ≡ Some b)
first_is f [] b e = absurd (cc)
first_is f (d ∷ row) b e = by (f d) refl e (λ q. first_is f row b q)
  where
    by : (o : Option _) → f d ≡ o → option_or o (first_there f row) ≡ Some b → (first_there f row ≡ Some b → (c : ℕ) × (has_class c row ≡ true) × (f c ≡ Some b)) → (c : ℕ) × (((d == c) || has_class c row) ≡ true) × (f c ≡ Some b)
    by None q e r = let t : _ = r e in (t.0, or_right (d == t.0) (has_class t.0 row) t.1, t.2)
    by (Some x) q e r = (d, or_left (d == d) (has_class d row) (eq-eqb d d refl), q ∙ e)

first_has : {B : Type 0} (f : ℕ → Option B) (row : List ℕ) (d : ℕ) (b : B) → has_class d row ≡ true → f d ≡ Some b → (c : B) × (first_there f row ≡ Some c)
first_has f [] d b i e = absurd (cc)
first_has f (x ∷ row) d b i e = by (f x) refl (or_cases (x == d) (has_class d row) i) (λ j. first_has f row d b j e)
  where
    by : (o : Option _) → f x ≡ o → ((x == d) ≡ true) ⊎ (has_class d row ≡ true) → (has_class d row ≡ true → (c : _) × (first_there f row ≡ Some c)) → (c : _) × (option_or o (first_there f row) ≡ Some c)
    by (Some c) q j r = (c, refl)
    by None q (inl j) r = absurd (cc (sym q ∙ ap f (eqb-true x d j) ∙ e))
    by None q (inr j) r = r j

-- what a row of names has of a name
named_is : {A : Type 0} (name : List ℕ) (row : List (List ℕ × A)) (a : A) → named name row ≡ Some a → (i : ℕ) × (p : List ℕ × A) × (slice_get row i ≡ Some p) × (p.0 ≡ name) × (p.1 ≡ a)
named_is name [] a e = absurd (cc)
named_is name (p ∷ row) a e = by (bytes_eq p.0 name) refl e (λ q. named_is name row a q)
  where
    by : (b : Bool) → bytes_eq p.0 name ≡ b → option_map (λ p. p.1) (cond b (Some p) (find (λ p. bytes_eq p.0 name) row)) ≡ Some a → (named name row ≡ Some a → (i : ℕ) × (q : List ℕ × _) × (slice_get row i ≡ Some q) × (q.0 ≡ name) × (q.1 ≡ a)) → (i : ℕ) × (q : List ℕ × _) × (slice_get (p ∷ row) i ≡ Some q) × (q.0 ≡ name) × (q.1 ≡ a)
    by true q e r = (0, p, refl, (bytes_eq-Decides p.0 name).0 q, same_Some p.1 a e)
    by false q e r = let t : _ = r e in (suc t.0, t.1, t.2, t.3, t.4)

same_place : (o : Option ℕ) (d : ℕ) → is_same_place o (Some d) ≡ true → o ≡ Some d
same_place None d e = absurd (cc)
same_place (Some c) d e = ap Some (eqb-true c d e)

in_order : (o : Option (List ℕ)) (d : ℕ) → has_class d (listed_order o) ≡ true → (row : List ℕ) × (o ≡ Some row) × (has_class d row ≡ true)
in_order None d h = absurd (cc)
in_order (Some row) d h = (row, refl, h)

in_rest : (row : List ℕ) (d : ℕ) → has_class d (drop 1 row) ≡ true → has_class d row ≡ true
in_rest [] d h = h
in_rest (x ∷ row) d h = or_right (x == d) (has_class d row) h

module _ (is_identifier : List ℕ → Bool) (m : TypedModule) (w : is_well_typed is_identifier m ≡ true) where
  abbrev C : List ClassEntry
  C = m.classes.classes

  classes_typed : all_at 0 (class_typed is_identifier m) C ≡ true
  classes_typed = (two _ (all_at 0 (class_typed is_identifier m) C) (two _ (all_at 0 (is_listed is_identifier m) m.funcs) (two _ (all_at 0 (func_typed is_identifier m) m.funcs) (two _ (suite_typed m [] None None [] false false m.top) w).0).0).0).1

  funcs_typed : all_at 0 (func_typed is_identifier m) m.funcs ≡ true
  funcs_typed = (two _ (all_at 0 (func_typed is_identifier m) m.funcs) (two _ (suite_typed m [] None None [] false false m.top) w).0).1

  pub top_typed : suite_typed m [] None None [] false false m.top ≡ true
  top_typed = (two _ (suite_typed m [] None None [] false false m.top) w).1

  class_at : (c : ℕ) (e : ClassEntry) → slice_get C c ≡ Some e → class_typed is_identifier m c e ≡ true
  class_at c e h = at_0 (class_typed is_identifier m) C c e classes_typed h

  func_at : (f : ℕ) (F : TypedFunc) → slice_get m.funcs f ≡ Some F → func_typed is_identifier m f F ≡ true
  func_at f F h = at_0 (func_typed is_identifier m) m.funcs f F funcs_typed h

  -- the parts of a class
  pub record ClassParts (c : ℕ) (e : ClassEntry) : Type 0 where
    pub name : is_identifier e.name ≡ true
    pub names : list_all is_identifier (names_of e.attributes ++ names_of e.methods) ≡ true
    pub falls : list_all (λ b. nat_lt b c) e.bases ≡ true
    pub bases : bases_typed is_identifier m e ≡ true
    pub methods : list_all (method_typed is_identifier m c) e.methods ≡ true
    pub has : has_order is_identifier m (order C c) ≡ true
    pub agree : list_all (members_agree is_identifier m (listed_order (order C c))) (listed_order (order C c)) ≡ true

  pub class_parts : (c : ℕ) (e : ClassEntry) → slice_get C c ≡ Some e → ClassParts c e
  class_parts c e h =
      let a = two _ (list_all (members_agree is_identifier m (listed_order (order C c))) (listed_order (order C c))) (class_at c e h) in
      let b = two _ (has_order is_identifier m (order C c)) a.0 in
      let d = two _ (list_all (method_typed is_identifier m c) e.methods) b.0 in
      let f = two _ (list_all (is_value_type (length C)) (map (λ p. p.1) e.attributes)) d.0 in
      let g = two _ (all_differ (names_of e.attributes ++ names_of e.methods)) f.0 in
      let i = two _ (list_all is_identifier (names_of e.attributes ++ names_of e.methods)) g.0 in
      let j = two _ (bases_typed is_identifier m e) i.0 in
      let l = two _ (differing is_identifier m e.bases) j.0 in
      let n = two _ (list_all (λ b. nat_lt b c) e.bases) l.0 in
      record { name = n.0; names = i.1; falls = n.1; bases = j.1; methods = d.1; has = b.1; agree = a.1 }

  -- ---- the tree of classes

  falls_at : (c : ℕ) (o : Option ClassEntry) → slice_get C c ≡ o → list_all (λ b. nat_lt b c) (bases_in o) ≡ true
  falls_at c None q = refl
  falls_at c (Some e) q = (class_parts c e q).falls

  pub tree_is : IsClassTree C
  tree_is = record { falls = λ c. falls_at c (slice_get C c) refl }

  -- ---- functions

  pub record FuncParts (f : ℕ) (F : TypedFunc) : Type 0 where
    pub variables : variables_typed is_identifier m F.locals ≡ true
    pub typed : IsTyped m F
    pub signed : signature_fits (slice_get m.classes.signatures f) F ≡ true

  func_parts : (f : ℕ) (F : TypedFunc) → slice_get m.funcs f ≡ Some F → FuncParts f F
  func_parts f F h =
      let a = two _ (suite_typed m F.locals (init_class F) (Some F.ret) [] false false F.body) (func_at f F h) in
      let b = two _ (ends_well F) a.0 in
      let c = two _ (has_statement F.body) b.0 in
      let d = two _ (not (is_init_of_trait C (init_class F))) c.0 in
      let e = two _ (init_gives_nothing F) d.0 in
      let g = two _ (signature_fits (slice_get m.classes.signatures f) F) e.0 in
      let i = two _ (has_self F.class (types_in (take F.params F.locals))) g.0 in
      let j = two _ (is_result_type (length C) F.ret) i.0 in
      let k = two _ (variables_typed is_identifier m F.locals) j.0 in
      let l = two _ (nat_lt (length F.locals) 101) k.0 in
      let n = two _ (nat_lt F.params (suc (length F.locals))) l.0 in
      record { variables = k.1; typed = record { count = few F.params (length F.locals) n.1; self = i.1; ends = b.1; body = a.1 }; signed = g.1 }
    where
      few : (a b : ℕ) → nat_lt a (suc b) ≡ true → a ≤ b
      few a b h = grind (arith, nat_tests, h)

  -- ---- methods

  own_method_is : (name : List ℕ) (d f : ℕ) → own_method C name d ≡ Some f → (e : ClassEntry) × (slice_get C d ≡ Some e) × (i : ℕ) × (p : List ℕ × ℕ) × (slice_get e.methods i ≡ Some p) × (p.0 ≡ name) × (p.1 ≡ f)
  own_method_is name d f h = by (slice_get C d) refl h
    where
      by : (o : Option ClassEntry) → slice_get C d ≡ o → option_and_then (λ (entry : ClassEntry). named name entry.methods) o ≡ Some f → (e : ClassEntry) × (slice_get C d ≡ Some e) × (i : ℕ) × (p : List ℕ × ℕ) × (slice_get e.methods i ≡ Some p) × (p.0 ≡ name) × (p.1 ≡ f)
      by None q e = absurd (cc)
      by (Some x) q e = let t : _ = named_is name x.methods f e in (x, q, t.0, t.1, t.2, t.3, t.4)

  own_attribute_is : (name : List ℕ) (d : ℕ) (t : Sort) → own_attribute C name d ≡ Some t → (e : ClassEntry) × (slice_get C d ≡ Some e) × (i : ℕ) × (p : List ℕ × Sort) × (slice_get e.attributes i ≡ Some p) × (p.0 ≡ name) × (p.1 ≡ t)
  own_attribute_is name d t h = by (slice_get C d) refl h
    where
      by : (o : Option ClassEntry) → slice_get C d ≡ o → option_and_then (λ (entry : ClassEntry). named name entry.attributes) o ≡ Some t → (e : ClassEntry) × (slice_get C d ≡ Some e) × (i : ℕ) × (p : List ℕ × Sort) × (slice_get e.attributes i ≡ Some p) × (p.0 ≡ name) × (p.1 ≡ t)
      by None q e = absurd (cc)
      by (Some x) q e = let r : _ = named_is name x.attributes t e in (x, q, r.0, r.1, r.2, r.3, r.4)

  -- the function of a method
  func_of : (d : ℕ) (p : List ℕ × ℕ) → method_typed is_identifier m d p ≡ true → (F : TypedFunc) × (slice_get m.funcs p.1 ≡ Some F) × (F.class ≡ Some d)
  func_of d p h = by (slice_get m.funcs p.1) refl h
    where
      by : (o : Option TypedFunc) → slice_get m.funcs p.1 ≡ o → method_typed is_identifier m d p ≡ true → (F : TypedFunc) × (slice_get m.funcs p.1 ≡ Some F) × (F.class ≡ Some d)
      by None q h = absurd (cc (rw (q, method_typed) at h))
      by (Some F) q h = (F, q, same_place F.class d (two (bytes_eq F.name p.0) (is_same_place F.class (Some d)) (rw (q, method_typed) at h)).1)

  method_in : (c d : ℕ) (name : List ℕ) (f : ℕ) → is_class_under C c d ≡ true → own_method C name d ≡ Some f → MethodOf m c f
  method_in c d name f u h =
      let t : _ = own_method_is name d f h in
      let F : _ = func_of d t.3 (all_of (method_typed is_identifier m d) t.0.methods t.2 t.3 (class_parts d t.0 t.1).methods t.4) in
      record { func = F.0; there = ap (slice_get m.funcs) (sym t.6) ∙ F.1; class = d; is = F.2; under = u }

  order_row : (c d : ℕ) → has_class d (listed_order (order C c)) ≡ true → is_class_under C c d ≡ true
  order_row c d h = let r : _ = in_order (order C c) d h in order_under C tree_is c c r.0 d r.1 r.2

  method_there : (c : ℕ) (name : List ℕ) (f : ℕ) → method_of C c name ≡ Some f → MethodOf m c f
  method_there c name f h = let t : _ = first_is (own_method C name) (listed_order (order C c)) f h in method_in c t.0 name f (order_row c t.0 t.1) t.2

  next_there : (c f : ℕ) → method_along C (codes "__init__") (drop 1 (listed_order (order C c))) ≡ Some f → MethodOf m c f
  next_there c f h =
      let t : _ = first_is (own_method C (codes "__init__")) (drop 1 (listed_order (order C c))) f h in
      method_in c t.0 (codes "__init__") f (order_row c t.0 (in_rest (listed_order (order C c)) t.0 t.1)) t.2

  -- a class with a member above it has an order
  order_there : (b d : ℕ) (e : ClassEntry) → slice_get C d ≡ Some e → is_class_under C b d ≡ true → (x : ClassEntry) × (slice_get C b ≡ Some x)
  order_there b d e h u = by (slice_get C b) refl
    where
      alone : slice_get C b ≡ None → (b == d) ≡ true
      alone q = either (or_cases (b == d) (is_above C b d) (sym (by_falling C b d) ∙ u))
        where
          either : ((b == d) ≡ true) ⊎ (is_above C b d ≡ true) → (b == d) ≡ true
          either (inl k) = k
          either (inr k) = absurd (cc (rw (q, is_above, bases_of) at k))

      by : (o : Option ClassEntry) → slice_get C b ≡ o → (x : ClassEntry) × (slice_get C b ≡ Some x)
      by None q = absurd (cc (sym q ∙ ap (slice_get C) (eqb-true b d (alone q)) ∙ h))
      by (Some x) q = (x, q)

  row_there : (o : Option (List ℕ)) → has_order is_identifier m o ≡ true → (row : List ℕ) × (o ≡ Some row)
  row_there None h = absurd (cc)
  row_there (Some row) h = (row, refl)

  -- what stands above a class that is there is in its order
  order_all : (b d : ℕ) (x : ClassEntry) → slice_get C b ≡ Some x → is_class_under C b d ≡ true → has_class d (listed_order (order C b)) ≡ true
  order_all b d x h u =
      let r : _ = row_there (order C b) (class_parts b x h).has in
      ap (λ o. has_class d (listed_order o)) r.1 ∙ order_has C tree_is b b r.0 d (le_refl b) r.1 u

  -- ---- members along an order agree

  agrees_at : (row : List ℕ) (d : ℕ) (e : ClassEntry) → slice_get C d ≡ Some e → members_agree is_identifier m row d ≡ true → (list_all (methods_agree is_identifier m row) e.methods ≡ true) × (list_all (attributes_agree is_identifier m row) e.attributes ≡ true)
  agrees_at row d e q h = two (list_all (methods_agree is_identifier m row) e.methods) (list_all (attributes_agree is_identifier m row) e.attributes) (rw (q, members_agree) at h)

  all_agree : (b d : ℕ) (x e : ClassEntry) → slice_get C b ≡ Some x → slice_get C d ≡ Some e → has_class d (listed_order (order C b)) ≡ true
      → (list_all (methods_agree is_identifier m (listed_order (order C b))) e.methods ≡ true) × (list_all (attributes_agree is_identifier m (listed_order (order C b))) e.attributes ≡ true)
  all_agree b d x e q r i = agrees_at (listed_order (order C b)) d e r (of_class (members_agree is_identifier m (listed_order (order C b))) (listed_order (order C b)) d (class_parts b x q).agree i)

  signed_as : (f h : ℕ) (ss : List Sort) (t : Sort) → same_signature is_identifier m (slice_get m.classes.signatures f) (slice_get m.classes.signatures h) ≡ true → Signed m f ss t → Signed m h ss t
  signed_as f h ss t e S = by (slice_get m.classes.signatures h) refl (subst (λ o. same_signature is_identifier m o (slice_get m.classes.signatures h) ≡ true) S.there e)
    where
      by : (o : Option Signature) → slice_get m.classes.signatures h ≡ o → same_signature is_identifier m (Some S.signature) o ≡ true → Signed m h ss t
      by None q e = absurd (cc)
      by (Some T) q e =
          let r = two (same_row S.signature.params T.params) (is_same_type S.signature.ret T.ret) e in
          record { signature = T; there = q; takes = S.takes ∙ one_row (sorts_of S.signature.params) (sorts_of T.params) r.0; gives = sym (one_type S.signature.ret T.ret r.1) ∙ S.gives }

  method_agrees : (f : ℕ) (o : Option ℕ) (p : Option Sort) (h : ℕ) → o ≡ Some h → agrees_with_method is_identifier m (Some f) o p ≡ true → same_signature is_identifier m (slice_get m.classes.signatures f) (slice_get m.classes.signatures h) ≡ true
  method_agrees f None p h q e = absurd (cc)
  method_agrees f (Some g) None h q e = subst (λ z. same_signature is_identifier m (slice_get m.classes.signatures f) (slice_get m.classes.signatures z) ≡ true) (same_Some g h q) e
  method_agrees f (Some g) (Some t) h q e = absurd (cc)

  attribute_agrees : (s : Sort) (o : Option ℕ) (p : Option Sort) (t : Sort) → p ≡ Some t → agrees_with_attribute is_identifier m s o p ≡ true → s ≡ t
  attribute_agrees s None None t q e = absurd (cc)
  attribute_agrees s None (Some u) t q e = one_type s u e ∙ same_Some u t q
  attribute_agrees s (Some f) p t q e = absurd (cc)

  overridden : (b c : ℕ) (name : List ℕ) (f : ℕ) (ss : List Sort) (t : Sort) → is_class_under C b c ≡ true → bytes_eq name (codes "__init__") ≡ false → method_of C c name ≡ Some f → Signed m f ss t → (h : ℕ) × (method_of C b name ≡ Some h) × Signed m h ss t
  overridden b c name f ss t u n h S =
      let own : _ = first_is (own_method C name) (listed_order (order C c)) f h in
      let under : is_class_under C b own.0 ≡ true = under_on C tree_is b c own.0 u (order_row c own.0 own.1) in
      let D : _ = own_method_is name own.0 f own.2 in
      let B : _ = order_there b own.0 D.0 D.1 under in
      let there = order_all b own.0 B.0 B.1 under in
      let found : _ = first_has (own_method C name) (listed_order (order C b)) own.0 f there own.2 in
      let E : _ = first_is (own_method C name) (listed_order (order C b)) found.0 found.1 in
      let agree = all_of (methods_agree is_identifier m (listed_order (order C b))) D.0.methods D.2 D.3 (all_agree b own.0 B.0 D.0 B.1 D.1 there).0 D.4 in
      (found.0, found.1, signed_as f found.0 ss t (by D.3 D.5 D.6 E.0 E.1 E.2 (or_cases (bytes_eq D.3.0 (codes "__init__")) _ agree)) S)
    where
      by : {h : ℕ} (p : List ℕ × ℕ) → p.0 ≡ name → p.1 ≡ f → (e : ℕ) → has_class e (listed_order (order C b)) ≡ true → own_method C name e ≡ Some h
          → (bytes_eq p.0 (codes "__init__") ≡ true) ⊎ (list_all (λ d. agrees_with_method is_identifier m (Some p.1) (own_method C p.0 d) (own_attribute C p.0 d)) (listed_order (order C b)) ≡ true)
          → same_signature is_identifier m (slice_get m.classes.signatures f) (slice_get m.classes.signatures h) ≡ true
      by p q r e i o (inl k) = absurd (cc (sym (ap (λ z. bytes_eq z (codes "__init__")) q) ∙ k))
      by {h = h} p q r e i o (inr k) =
          let a = of_class (λ d. agrees_with_method is_identifier m (Some p.1) (own_method C p.0 d) (own_attribute C p.0 d)) (listed_order (order C b)) e k i in
          subst (λ z. same_signature is_identifier m (slice_get m.classes.signatures z) (slice_get m.classes.signatures h) ≡ true) r (method_agrees p.1 (own_method C p.0 e) (own_attribute C p.0 e) h (ap (λ z. own_method C z e) q ∙ o) a)

-- ---- rows of attributes

abbrev Among : List (List ℕ × Sort) → List ℕ × Sort → Type 0
Among row p = (i : ℕ) × (slice_get row i ≡ Some p)

named_at : (row : List (List ℕ × Sort)) (i : ℕ) (p : List ℕ × Sort) (name : List ℕ) → slice_get row i ≡ Some p → p.0 ≡ name → is_named_in row name ≡ true
named_at [] i p name e q = absurd (cc)
named_at (x ∷ row) zero p name e q = or_left (bytes_eq x.0 name) (is_named_in row name) ((bytes_eq-Decides x.0 name).1 (ap (λ (z : List ℕ × Sort). z.0) (same_Some x p e) ∙ q))
named_at (x ∷ row) (suc i) p name e q = or_right (bytes_eq x.0 name) (is_named_in row name) (named_at row i p name e q)

placed : (row : List (List ℕ × Sort)) (name : List ℕ) → is_named_in row name ≡ true → (i : ℕ) × (p : List ℕ × Sort) × (place_in name row ≡ Some i) × (slice_get row i ≡ Some p) × (p.0 ≡ name)
placed [] name h = absurd (cc)
placed (x ∷ row) name h = by (bytes_eq x.0 name) refl h (λ k. placed row name k)
  where
    by : (b : Bool) → bytes_eq x.0 name ≡ b → (b || is_named_in row name) ≡ true → (is_named_in row name ≡ true → (i : ℕ) × (p : List ℕ × Sort) × (place_in name row ≡ Some i) × (slice_get row i ≡ Some p) × (p.0 ≡ name))
        → (i : ℕ) × (p : List ℕ × Sort) × ((if b then Some 0 else option_map suc (place_in name row)) ≡ Some i) × (slice_get (x ∷ row) i ≡ Some p) × (p.0 ≡ name)
    by true q h r = (0, x, refl, refl, (bytes_eq-Decides x.0 name).0 q)
    by false q h r = let t : _ = r h in (suc t.0, t.1, ap (option_map suc) t.2, t.3, t.4)

named_left : (xs ys : List (List ℕ × Sort)) (name : List ℕ) → is_named_in xs name ≡ true → is_named_in (xs ++ ys) name ≡ true
named_left [] ys name h = absurd (cc)
named_left (x ∷ xs) ys name h = by (or_cases (bytes_eq x.0 name) (is_named_in xs name) h) (λ k. named_left xs ys name k)
  where
    by : (bytes_eq x.0 name ≡ true) ⊎ (is_named_in xs name ≡ true) → (is_named_in xs name ≡ true → is_named_in (xs ++ ys) name ≡ true) → (bytes_eq x.0 name || is_named_in (xs ++ ys) name) ≡ true
    by (inl e) r = or_left (bytes_eq x.0 name) _ e
    by (inr e) r = or_right (bytes_eq x.0 name) _ (r e)

named_right : (xs ys : List (List ℕ × Sort)) (name : List ℕ) → is_named_in ys name ≡ true → is_named_in (xs ++ ys) name ≡ true
named_right [] ys name h = h
named_right (x ∷ xs) ys name h = or_right (bytes_eq x.0 name) _ (named_right xs ys name h)

new_named : (row more : List (List ℕ × Sort)) (name : List ℕ) → (is_named_in row name ≡ true) ⊎ (is_named_in more name ≡ true) → is_named_in (with_new row more) name ≡ true
new_named row [] name (inl h) = h
new_named row [] name (inr h) = absurd (cc)
new_named row (p ∷ more) name h = new_named (if is_named_in row p.0 then row else row ++ p ∷ []) more name (by (is_named_in row p.0) refl h)
  where
    here : (bytes_eq p.0 name ≡ true) ⊎ (is_named_in more name ≡ true) → (b : Bool) → is_named_in row p.0 ≡ b → (is_named_in (if b then row else row ++ p ∷ []) name ≡ true) ⊎ (is_named_in more name ≡ true)
    here (inr k) b q = inr k
    here (inl k) true q = inl (subst (λ z. is_named_in row z ≡ true) ((bytes_eq-Decides p.0 name).0 k) q)
    here (inl k) false q = inl (named_right row (p ∷ []) name (or_left (bytes_eq p.0 name) false k))

    by : (b : Bool) → is_named_in row p.0 ≡ b → (is_named_in row name ≡ true) ⊎ ((bytes_eq p.0 name || is_named_in more name) ≡ true) → (is_named_in (if b then row else row ++ p ∷ []) name ≡ true) ⊎ (is_named_in more name ≡ true)
    by true q (inl k) = inl k
    by false q (inl k) = inl (named_left row (p ∷ []) name k)
    by b q (inr k) = here (or_cases (bytes_eq p.0 name) (is_named_in more name) k) b q

among_append : (xs ys : List (List ℕ × Sort)) (p : List ℕ × Sort) (i : ℕ) → slice_get (xs ++ ys) i ≡ Some p → Among xs p ⊎ Among ys p
among_append [] ys p i e = inr (i, e)
among_append (x ∷ xs) ys p zero e = inl (0, e)
among_append (x ∷ xs) ys p (suc i) e = by (among_append xs ys p i e)
  where
    by : Among xs p ⊎ Among ys p → Among (x ∷ xs) p ⊎ Among ys p
    by (inl k) = inl (suc k.0, k.1)
    by (inr k) = inr k

new_from : (row more : List (List ℕ × Sort)) (p : List ℕ × Sort) → Among (with_new row more) p → Among row p ⊎ Among more p
new_from row [] p h = inl h
new_from row (x ∷ more) p h = by (is_named_in row x.0) (new_from (if is_named_in row x.0 then row else row ++ x ∷ []) more p h)
  where
    last : Among row p ⊎ Among (x ∷ []) p → Among row p ⊎ Among (x ∷ more) p
    last (inl k) = inl k
    last (inr k) = inr (only k.0 k.1)
      where
        only : (i : ℕ) → slice_get (x ∷ []) i ≡ Some p → Among (x ∷ more) p
        only zero e = (0, e)
        only (suc i) e = absurd (cc)

    by : (b : Bool) → Among (if b then row else row ++ x ∷ []) p ⊎ Among more p → Among row p ⊎ Among (x ∷ more) p
    by b (inr k) = inr (suc k.0, k.1)
    by true (inl k) = inl k
    by false (inl k) = last (among_append row (x ∷ []) p k.0 k.1)

-- an entry of one of the classes
from_bases : (f : ℕ → List (List ℕ × Sort)) (bs : List ℕ) (p : List ℕ × Sort) (i : ℕ) → slice_get (flat_map f bs) i ≡ Some p → (b : ℕ) × (has_class b bs ≡ true) × Among (f b) p
from_bases f [] p i e = absurd (cc)
from_bases f (x ∷ bs) p i e = by (among_append (f x) (flat_map f bs) p i e) (λ j q. from_bases f bs p j q)
  where
    by : Among (f x) p ⊎ Among (flat_map f bs) p → ((j : ℕ) → slice_get (flat_map f bs) j ≡ Some p → (b : ℕ) × (has_class b bs ≡ true) × Among (f b) p) → (b : ℕ) × (((x == b) || has_class b bs) ≡ true) × Among (f b) p
    by (inl k) r = (x, or_left (x == x) _ (eq-eqb x x refl), k)
    by (inr k) r = let t : _ = r k.0 k.1 in (t.0, or_right (x == t.0) _ t.1, t.2)

in_bases : (f : ℕ → List (List ℕ × Sort)) (bs : List ℕ) (b : ℕ) (name : List ℕ) → has_class b bs ≡ true → is_named_in (f b) name ≡ true → is_named_in (flat_map f bs) name ≡ true
in_bases f [] b name h k = absurd (cc)
in_bases f (x ∷ bs) b name h k = by (or_cases (x == b) (has_class b bs) h) (λ q. in_bases f bs b name q k)
  where
    by : ((x == b) ≡ true) ⊎ (has_class b bs ≡ true) → (has_class b bs ≡ true → is_named_in (flat_map f bs) name ≡ true) → is_named_in (f x ++ flat_map f bs) name ≡ true
    by (inl e) r = named_left (f x) (flat_map f bs) name (subst (λ z. is_named_in (f z) name ≡ true) (sym (eqb-true x b e)) k)
    by (inr e) r = named_right (f x) (flat_map f bs) name (r e)

pub base_under : (classes : List ClassEntry) (x : ℕ) (bs : List ℕ) → list_any (λ b. is_class_under classes b x) bs ≡ true → (b : ℕ) × (has_class b bs ≡ true) × (is_class_under classes b x ≡ true)
base_under classes x [] k = absurd (cc)
base_under classes x (b ∷ bs) k = by (or_cases (is_class_under classes b x) (list_any (λ b. is_class_under classes b x) bs) k) (λ q. base_under classes x bs q)
  where
    by : (is_class_under classes b x ≡ true) ⊎ (list_any (λ b. is_class_under classes b x) bs ≡ true) → (list_any (λ b. is_class_under classes b x) bs ≡ true → (d : ℕ) × (has_class d bs ≡ true) × (is_class_under classes d x ≡ true)) → (d : ℕ) × (((b == d) || has_class d bs) ≡ true) × (is_class_under classes d x ≡ true)
    by (inl q) r = (b, or_left (b == b) (has_class b bs) (eq-eqb b b refl), q)
    by (inr q) r = let t : _ = r q in (t.0, or_right (b == t.0) (has_class t.0 bs) t.1, t.2)

pub below_class : (c b : ℕ) (bs : List ℕ) → has_class b bs ≡ true → list_all (λ b. nat_lt b c) bs ≡ true → nat_lt b c ≡ true
below_class c b bs k f = of_class (λ b. nat_lt b c) bs b f k

module _ (classes : List ClassEntry) (tree : IsClassTree classes) where
  own_named : (o : Option ClassEntry) (name : List ℕ) (t : Sort) → option_and_then (λ (entry : ClassEntry). named name entry.attributes) o ≡ Some t → is_named_in (own_attributes o) name ≡ true
  own_named None name t e = absurd (cc)
  own_named (Some x) name t e = let r : _ = named_is name x.attributes t e in named_at x.attributes r.0 r.1 name r.2 r.3

  -- the attributes of a class have each name that a class above it has
  attributes_named : (l b d : ℕ) (name : List ℕ) (t : Sort) → b ≤ l → is_class_under classes b d ≡ true → own_attribute classes name d ≡ Some t → is_named_in (attributes_by classes l b) name ≡ true
  attributes_named zero b d name t le u h = by (or_cases (b == d) (list_any (λ x. is_class_under classes x d) (bases_of classes b)) (sym (under_by_bases classes b d (tree.falls b)) ∙ u))
    where
      by : ((b == d) ≡ true) ⊎ (list_any (λ x. is_class_under classes x d) (bases_of classes b) ≡ true) → is_named_in (with_new [] (own_attributes (slice_get classes b))) name ≡ true
      by (inl q) = new_named [] (own_attributes (slice_get classes b)) name (inr (own_named (slice_get classes b) name t (ap (own_attribute classes name) (eqb-true b d q) ∙ h)))
      by (inr q) =
          let r : _ = base_under classes d (bases_of classes b) q in
          let less = below_class b r.0 (bases_of classes b) r.1 (tree.falls b) in
          absurd (grind (arith, nat_tests, less, le))
  attributes_named (suc l) b d name t le u h = by (or_cases (b == d) (list_any (λ x. is_class_under classes x d) (bases_of classes b)) (sym (under_by_bases classes b d (tree.falls b)) ∙ u)) (λ x k v. attributes_named l x d name t k v h)
    where
      by : ((b == d) ≡ true) ⊎ (list_any (λ x. is_class_under classes x d) (bases_of classes b) ≡ true) → ((x : ℕ) → x ≤ l → is_class_under classes x d ≡ true → is_named_in (attributes_by classes l x) name ≡ true)
          → is_named_in (with_new [] (flat_map (attributes_by classes l) (bases_of classes b) ++ own_attributes (slice_get classes b))) name ≡ true
      by (inl q) rec = new_named [] _ name (inr (named_right (flat_map (attributes_by classes l) (bases_of classes b)) (own_attributes (slice_get classes b)) name (own_named (slice_get classes b) name t (ap (own_attribute classes name) (eqb-true b d q) ∙ h))))
      by (inr q) rec =
          let r : _ = base_under classes d (bases_of classes b) q in
          let less = below_class b r.0 (bases_of classes b) r.1 (tree.falls b) in
          new_named [] _ name (inr (named_left (flat_map (attributes_by classes l) (bases_of classes b)) (own_attributes (slice_get classes b)) name (in_bases (attributes_by classes l) (bases_of classes b) r.0 name r.1 (rec r.0 (grind (arith, nat_tests, less, le)) r.2))))

  own_from : (c : ℕ) (o : Option ClassEntry) (p : List ℕ × Sort) → slice_get classes c ≡ o → Among (own_attributes o) p → (x : ClassEntry) × (slice_get classes c ≡ Some x) × Among x.attributes p
  own_from c None p q h = nothing h.0 h.1
    where
      nothing : (i : ℕ) → slice_get [] i ≡ Some p → (x : ClassEntry) × (slice_get classes c ≡ Some x) × Among x.attributes p
      nothing i e = absurd (cc)
  own_from c (Some x) p q h = (x, q, h)

  no_attribute : {A : Type 0} (p : List ℕ × Sort) → Among [] p → A
  no_attribute {A = A} p h = none h.0 h.1
    where
      none : (i : ℕ) → slice_get [] i ≡ Some p → A
      none i e = absurd (cc)

  itself_under : (c : ℕ) → is_class_under classes c c ≡ true
  itself_under c = class_under_itself classes c

  -- and each is one that a class above it declares
  attributes_from : (l b : ℕ) (p : List ℕ × Sort) → Among (attributes_by classes l b) p → (e : ℕ) × (x : ClassEntry) × (slice_get classes e ≡ Some x) × (is_class_under classes b e ≡ true) × Among x.attributes p
  attributes_from zero b p h = by (new_from [] (own_attributes (slice_get classes b)) p h)
    where
      by : Among [] p ⊎ Among (own_attributes (slice_get classes b)) p → (e : ℕ) × (x : ClassEntry) × (slice_get classes e ≡ Some x) × (is_class_under classes b e ≡ true) × Among x.attributes p
      by (inl k) = no_attribute p k
      by (inr k) = let t : _ = own_from b (slice_get classes b) p refl k in (b, t.0, t.1, itself_under b, t.2)
  attributes_from (suc l) b p h = by (new_from [] (flat_map (attributes_by classes l) (bases_of classes b) ++ own_attributes (slice_get classes b)) p h) (λ x k. attributes_from l x p k)
    where
      either : Among (flat_map (attributes_by classes l) (bases_of classes b)) p ⊎ Among (own_attributes (slice_get classes b)) p → ((x : ℕ) → Among (attributes_by classes l x) p → (e : ℕ) × (y : ClassEntry) × (slice_get classes e ≡ Some y) × (is_class_under classes x e ≡ true) × Among y.attributes p)
          → (e : ℕ) × (x : ClassEntry) × (slice_get classes e ≡ Some x) × (is_class_under classes b e ≡ true) × Among x.attributes p
      either (inl k) rec =
          let t : _ = from_bases (attributes_by classes l) (bases_of classes b) p k.0 k.1 in
          let r : _ = rec t.0 t.2 in
          (r.0, r.1, r.2, by_base classes tree b t.0 r.0 t.1 r.3, r.4)
      either (inr k) rec = let t : _ = own_from b (slice_get classes b) p refl k in (b, t.0, t.1, itself_under b, t.2)

      by : Among [] p ⊎ Among (flat_map (attributes_by classes l) (bases_of classes b) ++ own_attributes (slice_get classes b)) p → ((x : ℕ) → Among (attributes_by classes l x) p → (e : ℕ) × (y : ClassEntry) × (slice_get classes e ≡ Some y) × (is_class_under classes x e ≡ true) × Among y.attributes p)
          → (e : ℕ) × (x : ClassEntry) × (slice_get classes e ≡ Some x) × (is_class_under classes b e ≡ true) × Among x.attributes p
      by (inl k) rec = no_attribute p k
      by (inr k) rec = either (among_append (flat_map (attributes_by classes l) (bases_of classes b)) (own_attributes (slice_get classes b)) p k.0 k.1) rec

module _ (is_identifier : List ℕ → Bool) (m : TypedModule) (w : is_well_typed is_identifier m ≡ true) where
  attribute_there : (b c : ℕ) (name : List ℕ) (t : Sort) → is_class_under m.classes.classes b c ≡ true → attribute_of m.classes.classes c name ≡ Some t → AttributeOf m b name t
  attribute_there b c name t u h =
      let tree = tree_is is_identifier m w in
      let own : _ = first_is (own_attribute m.classes.classes name) (listed_order (order m.classes.classes c)) t h in
      let under : is_class_under m.classes.classes b own.0 ≡ true = under_on m.classes.classes tree b c own.0 u (order_row is_identifier m w c own.0 own.1) in
      let D : _ = own_attribute_is is_identifier m w name own.0 t own.2 in
      let B : _ = order_there is_identifier m w b own.0 D.0 D.1 under in
      let P : _ = placed (attributes m.classes.classes b) name (attributes_named m.classes.classes tree b b own.0 name t (le_refl b) under own.2) in
      let E : _ = attributes_from m.classes.classes tree b b P.1 (P.0, P.3) in
      let there = order_all is_identifier m w b E.0 B.0 B.1 E.3 in
      let agree = all_of (attributes_agree is_identifier m (listed_order (order m.classes.classes b))) E.1.attributes E.4.0 P.1 (all_agree is_identifier m w b E.0 B.0 E.1 B.1 E.2 there).1 E.4.1 in
      let one = of_class (λ d. agrees_with_attribute is_identifier m P.1.1 (own_method m.classes.classes P.1.0 d) (own_attribute m.classes.classes P.1.0 d)) (listed_order (order m.classes.classes b)) own.0 agree (order_all is_identifier m w b own.0 B.0 B.1 under) in
      record {
        place = P.0;
        entry = P.1;
        placed = P.2;
        there = P.3;
        type = attribute_agrees is_identifier m w P.1.1 (own_method m.classes.classes P.1.0 own.0) (own_attribute m.classes.classes P.1.0 own.0) t (ap (λ z. own_attribute m.classes.classes z own.0) P.4 ∙ own.2) one;
      }

  pub facts_hold : Facts m
  facts_hold = record {
    tree = tree_is is_identifier m w;
    signed = λ f F h. (func_parts is_identifier m w f F h).signed;
    selfed = λ f F h. (func_parts is_identifier m w f F h).typed.self;
    method_there = method_there is_identifier m w;
    next_there = next_there is_identifier m w;
    overridden = overridden is_identifier m w;
    attribute_there = attribute_there;
  }

  pub funcs_are : (f : ℕ) (F : TypedFunc) → slice_get m.funcs f ≡ Some F → IsTyped m F
  funcs_are f F h = (func_parts is_identifier m w f F h).typed

  -- ---- names

  module _ (in_utf8 : (name : List ℕ) → is_identifier name ≡ true → is_utf8 name ≡ true) where
    names_at : (xs : List Variable) → list_all is_identifier (names_of xs) ≡ true → (i : ℕ) → is_utf8 (name_at xs i) ≡ true
    names_at [] h i = ascii_text [] refl
    names_at (x ∷ xs) h zero = in_utf8 x.0 (two (is_identifier x.0) (list_all is_identifier (names_of xs)) h).0
    names_at (x ∷ xs) h (suc i) = names_at xs (two (is_identifier x.0) (list_all is_identifier (names_of xs)) h).1 i

    variables_named : (xs : List Variable) → variables_typed is_identifier m xs ≡ true → (i : ℕ) → is_utf8 (name_at xs i) ≡ true
    variables_named xs h = names_at xs (three (list_all is_identifier (names_of xs)) (all_differ (names_of xs)) (list_all (is_value_type (length m.classes.classes)) (types_in xs)) h).0

    globals_typed : variables_typed is_identifier m m.globals ≡ true
    globals_typed =
        let a = two _ (suite_typed m [] None None [] false false m.top) w in
        let b = two _ (all_at 0 (func_typed is_identifier m) m.funcs) a.0 in
        let c = two _ (all_at 0 (is_listed is_identifier m) m.funcs) b.0 in
        let d = two _ (all_at 0 (class_typed is_identifier m) m.classes.classes) c.0 in
        let e = two _ (length m.classes.signatures == length m.funcs) d.0 in
        (two (variables_typed is_identifier m m.globals) _ e.0).0

    class_named : (c : ℕ) (o : Option ClassEntry) → slice_get m.classes.classes c ≡ o → is_utf8 (name_in o) ≡ true
    class_named c None q = ascii_text [] refl
    class_named c (Some e) q = in_utf8 e.name (class_parts is_identifier m w c e q).name

    name_among : (xs : List (List ℕ × Sort)) (ys : List (List ℕ)) (i : ℕ) (p : List ℕ × Sort) → list_all is_identifier (names_of xs ++ ys) ≡ true → slice_get xs i ≡ Some p → is_identifier p.0 ≡ true
    name_among [] ys i p h e = absurd (cc)
    name_among (x ∷ xs) ys zero p h e = subst (λ (z : List ℕ × Sort). is_identifier z.0 ≡ true) (same_Some x p e) (two (is_identifier x.0) (list_all is_identifier (names_of xs ++ ys)) h).0
    name_among (x ∷ xs) ys (suc i) p h e = name_among xs ys i p (two (is_identifier x.0) (list_all is_identifier (names_of xs ++ ys)) h).1 e

    attribute_named : (c : ℕ) (name : List ℕ) (t : Sort) → attribute_of m.classes.classes c name ≡ Some t → is_utf8 name ≡ true
    attribute_named c name t h =
        let own : _ = first_is (own_attribute m.classes.classes name) (listed_order (order m.classes.classes c)) t h in
        let D : _ = own_attribute_is is_identifier m w name own.0 t own.2 in
        subst (λ z. is_utf8 z ≡ true) D.5 (in_utf8 D.3.0 (name_among D.0.attributes (names_of D.0.methods) D.2 D.3 (class_parts is_identifier m w own.0 D.0 D.1).names D.4))

    pub names_are : NamesAre m
    names_are = record {
      globals = variables_named m.globals globals_typed;
      locals = λ f F h. variables_named F.locals (func_parts is_identifier m w f F h).variables;
      classes = λ c. class_named c (slice_get m.classes.classes c) refl;
      attributes = attribute_named;
    }

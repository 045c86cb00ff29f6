-- The classes of a well-typed module: each has an order, all definitions of a member along it agree, and traits stand behind the first base.
use Rattle.std.proofs.Common.{◌≡◌, ℕ, zero, suc, ◌<◌, Bool, true, false, not, ◌||◌, ◌&&◌, ◌==◌, if◌then◌else◌, List, [], ◌∷◌, map, drop, length, Option, Some, None, is_some, slice_get, Result, Ok, Err, refl, sym, ap, ap₂, subst, ◌∙◌, ◌⊎◌, inl, inr, eq-eqb, arith}
use Rattle.std.specs.List.{list_all}
use Rattle.std.specs.Map.{lookup}
use Rattle.std.specs.Str.{bytes_eq}
use Rattle.std.proofs.lemmas.List.Folds.{list_all-append}
use Rattle.std.proofs.lemmas.Option.{same_Some}
use Rattle.py_typed.specs.Sorts.{Sort, sorts_of}
use Rattle.py_typed.specs.Classes.{ClassEntry, ClassTable, Signature, has_class}
use Rattle.py_typed.specs.Fits.{is_same_type, are_same_types}
use Rattle.py_typed.specs.Order.{order, listed_order, own_method, own_attribute, own_attributes}
use Rattle.py_typed.specs.Statements.{TypedModule}
use Rattle.py_typed.specs.WellTypedExpr.{is_trait_in}
use Rattle.py_typed.specs.WellTypedModule.{is_well_typed, same_row, same_signature, agrees_with_method, agrees_with_attribute, methods_agree, attributes_agree, members_agree, has_order}
use Rattle.py_typed.proofs.FitLemmas.{and_left, and_right, one_type}
use Rattle.py_typed.proofs.ClassLemmas.{or_cases, or_left, or_right}
use Rattle.source_soundness.proofs.Members.{of_class, class_parts, tree_is}
use Rattle.class_layout_members.specs.Names.{names_in, own_methods, bases_fit}
use Rattle.class_layout_members.specs.Clashes.{Definition, OfType, OfSignature, is_same_signature, is_init, is_other, none_other, own_members, members_along, clash_among}
use Rattle.class_layout_members.proofs.RowLemmas.{same, itself, has}
use Rattle.class_layout_members.proofs.AgreementLemmas.{first_in, one_row, no_clash}
use Rattle.class_layout.proofs.KindLemmas.{own_attribute_is, along_said}
use Rattle.class_layout.specs.Layouts.{IsLayout, IsNotRefused, HasWhereWellTyped}
use Rattle.class_layout.specs.declared.layout_error.LayoutError.{LayoutError}
use Rattle.class_layout.specs.declared.layout_error.LayoutError.TheVariants.{NoOrder, Clash, Memory}
use Rattle.class_layout.specs.declared.table.LayoutTable.{LayoutTable}
use Rattle.class_layout.specs.Laws.{WellTypedClassesFit}
use Rattle.class_layout.proofs.LawLemmas.{own_method_there}

-- ---- what is the same both ways

flip_type : (s t : Sort) → is_same_type s t ≡ true → is_same_type t s ≡ true
flip_type s t h =
    let e : s ≡ t = one_type s t h in
    subst (λ z. is_same_type t z ≡ true) (sym e) (subst (λ z. is_same_type z t ≡ true) e h)

flip_row : (ss ts : List Sort) → same_row ss ts ≡ true → same_row ts ss ≡ true
flip_row ss ts h =
    let e : sorts_of ss ≡ sorts_of ts = one_row (sorts_of ss) (sorts_of ts) h in
    subst (λ z. are_same_types (sorts_of ts) z ≡ true) (sym e) (subst (λ z. are_same_types z (sorts_of ts) ≡ true) e h)

-- ---- rows of names and values

is_there : {A : Type 0} (row : List (List ℕ × A)) (q : List ℕ) (a : A) → lookup (bytes_eq q) row ≡ Some a → (test : List ℕ × A → Bool) → list_all test row ≡ true → test (q, a) ≡ true
is_there [] q a e test h = absurd (cc)
is_there {A = A} (p ∷ row) q a e test h = by (bytes_eq q p.0) refl e (λ f. is_there row q a f test (and_right (test p) (list_all test row) h))
  where
    by : (b : Bool) → bytes_eq q p.0 ≡ b → (if b then Some p.1 else lookup (bytes_eq q) row) ≡ Some a → (lookup (bytes_eq q) row ≡ Some a → test (q, a) ≡ true) → test (q, a) ≡ true
    by true s f rec =
        let here : test (p.0, p.1) ≡ true = and_left (test p) (list_all test row) h in
        subst (λ z. test (z, a) ≡ true) (sym (same q p.0 s)) (subst (λ (z : A). test (p.0, z) ≡ true) (same_Some p.1 a f) here)
    by false s f rec = rec f

some_is : {A : Type 0} (o : Option A) → is_some o ≡ true → (a : A) × (o ≡ Some a)
some_is None h = absurd (cc)
some_is (Some a) h = (a, refl)

module _ (is_identifier : List ℕ → Bool) (m : TypedModule) where
  abbrev t : ClassTable
  t = m.classes

  flip_signature : (s u : Option Signature) → same_signature is_identifier m s u ≡ true → is_same_signature u s ≡ true
  flip_signature None u h = absurd (cc)
  flip_signature (Some s) None h = absurd (cc)
  flip_signature (Some s) (Some u) h =
      ap₂ (λ a b. a && b)
      (flip_row s.params u.params (and_left (same_row s.params u.params) (is_same_type s.ret u.ret) h))
      (flip_type s.ret u.ret (and_right (same_row s.params u.params) (is_same_type s.ret u.ret) h))

  module _ (q : List ℕ) where
    abbrev first_along : List ℕ → Option Definition
    first_along row = first_in (members_along t row) q

    -- ---- an attribute that agrees with the definitions of all classes of a row

    abbrev with_attribute : Sort → ℕ → Bool
    with_attribute s d = agrees_with_attribute is_identifier m s (own_method t.classes q d) (own_attribute t.classes q d)

    attribute_fine : (s : Sort) (row : List ℕ) → list_all (with_attribute s) row ≡ true → is_other q (first_along row) (OfType s) ≡ false
    attribute_fine s [] h = refl
    attribute_fine s (d ∷ row) h =
        by (own_method t.classes q d) refl (own_attribute t.classes q d) refl
        (and_left (with_attribute s d) (list_all (with_attribute s) row) h)
        (attribute_fine s row (and_right (with_attribute s d) (list_all (with_attribute s) row) h))
      where
        by : (f : Option ℕ) → own_method t.classes q d ≡ f → (a : Option Sort) → own_attribute t.classes q d ≡ a → agrees_with_attribute is_identifier m s f a ≡ true → is_other q (first_along row) (OfType s) ≡ false → is_other q (first_along (d ∷ row)) (OfType s) ≡ false
        by None e None g k rec = ap (λ o. is_other q o (OfType s)) (along_said t q d row None e None g) ∙ rec
        by None e (Some u) g k rec = ap (λ o. is_other q o (OfType s)) (along_said t q d row None e (Some u) g) ∙ ap not (flip_type s u k)
        by (Some f) e a g k rec = absurd (cc)

    -- ---- and a method

    abbrev with_method : ℕ → ℕ → Bool
    with_method f d = agrees_with_method is_identifier m (Some f) (own_method t.classes q d) (own_attribute t.classes q d)

    abbrev signed : ℕ → Definition
    signed f = OfSignature (slice_get t.signatures f)

    or_yes : (b c : Bool) → c ≡ true → not (b || c) ≡ false
    or_yes true c h = refl
    or_yes false c h = ap not h

    method_fine : (f : ℕ) (row : List ℕ) → list_all (with_method f) row ≡ true → is_other q (first_along row) (signed f) ≡ false
    method_fine f [] h = refl
    method_fine f (d ∷ row) h =
        by (own_method t.classes q d) refl (own_attribute t.classes q d) refl
        (and_left (with_method f d) (list_all (with_method f) row) h)
        (method_fine f row (and_right (with_method f d) (list_all (with_method f) row) h))
      where
        by : (g : Option ℕ) → own_method t.classes q d ≡ g → (a : Option Sort) → own_attribute t.classes q d ≡ a → agrees_with_method is_identifier m (Some f) g a ≡ true → is_other q (first_along row) (signed f) ≡ false → is_other q (first_along (d ∷ row)) (signed f) ≡ false
        by None e None x k rec = ap (λ o. is_other q o (signed f)) (along_said t q d row None e None x) ∙ rec
        by None e (Some u) x k rec = absurd (cc)
        by (Some g) e None x k rec =
            ap (λ o. is_other q o (signed f)) (along_said t q d row (Some g) e None x)
            ∙ or_yes (is_init q) (is_same_signature (slice_get t.signatures g) (slice_get t.signatures f)) (flip_signature (slice_get t.signatures f) (slice_get t.signatures g) k)
        by (Some g) e (Some u) x k rec = absurd (cc)

  -- ---- the members of the classes of an order

  module _ (above : List ℕ) where
    abbrev all : List (List ℕ × Definition)
    all = members_along t above

    -- the parts of a class whose members agree with those along the order
    parts_of : (d : ℕ) → members_agree is_identifier m above d ≡ true
        → (list_all (methods_agree is_identifier m above) (own_methods (slice_get t.classes d)) ≡ true) × (list_all (attributes_agree is_identifier m above) (own_attributes (slice_get t.classes d)) ≡ true)
    parts_of d h = by (slice_get t.classes d) refl
      where
        by : (o : Option ClassEntry) → slice_get t.classes d ≡ o → (list_all (methods_agree is_identifier m above) (own_methods o) ≡ true) × (list_all (attributes_agree is_identifier m above) (own_attributes o) ≡ true)
        by None e = (refl, refl)
        by (Some entry) e =
            let both = rw (e, members_agree) at h in (
              and_left (list_all (methods_agree is_identifier m above) entry.methods) (list_all (attributes_agree is_identifier m above) entry.attributes) both,
              and_right (list_all (methods_agree is_identifier m above) entry.methods) (list_all (attributes_agree is_identifier m above) entry.attributes) both,
            )

    -- where a class of the order has a method of the name, none has an attribute of it
    no_own : (q : List ℕ) (u : Sort) (d e f : ℕ) → own_attribute t.classes q d ≡ Some u → members_agree is_identifier m above d ≡ true → has_class e above ≡ true → own_method t.classes q e ≡ Some f → ⊥
    no_own q u d e f a h i g =
        let each = is_there (own_attributes (slice_get t.classes d)) q u (sym (own_attribute_is t.classes q d) ∙ a) (attributes_agree is_identifier m above) (parts_of d h).1 in
        let here : agrees_with_attribute is_identifier m u (own_method t.classes q e) (own_attribute t.classes q e) ≡ true = of_class (with_attribute q u) above e each i in
        let no : false ≡ true = subst (λ o. agrees_with_attribute is_identifier m u o (own_attribute t.classes q e) ≡ true) g here in
        cc

    init_fine : (q : List ℕ) → is_init q ≡ true → (e f : ℕ) → has_class e above ≡ true → own_method t.classes q e ≡ Some f → (s : Option Signature) (row : List ℕ) → list_all (members_agree is_identifier m above) row ≡ true → is_other q (first_along q row) (OfSignature s) ≡ false
    init_fine q init e f i g s [] h = refl
    init_fine q init e f i g s (d ∷ row) h =
        by (own_method t.classes q d) refl (own_attribute t.classes q d) refl (init_fine q init e f i g s row (and_right (members_agree is_identifier m above d) (list_all (members_agree is_identifier m above) row) h))
      where
        by : (n : Option ℕ) → own_method t.classes q d ≡ n → (a : Option Sort) → own_attribute t.classes q d ≡ a → is_other q (first_along q row) (OfSignature s) ≡ false → is_other q (first_along q (d ∷ row)) (OfSignature s) ≡ false
        by n x (Some u) y rec = absurd (no_own q u d e f y (and_left (members_agree is_identifier m above d) (list_all (members_agree is_identifier m above) row) h) i g)
        by None x None y rec = ap (λ o. is_other q o (OfSignature s)) (along_said t q d row None x None y) ∙ rec
        by (Some k) x None y rec = ap (λ o. is_other q o (OfSignature s)) (along_said t q d row (Some k) x None y) ∙ ap (λ b. not (b || is_same_signature (slice_get t.signatures k) s)) init

    types_fine : (xs : List (List ℕ × Sort)) → list_all (attributes_agree is_identifier m above) xs ≡ true → none_other (first_in all) (map (λ p. (p.0, OfType p.1)) xs) ≡ true
    types_fine [] h = refl
    types_fine (p ∷ xs) h =
        ap₂ (λ a b. not a && b)
        (attribute_fine p.0 p.1 above (and_left (attributes_agree is_identifier m above p) (list_all (attributes_agree is_identifier m above) xs) h))
        (types_fine xs (and_right (attributes_agree is_identifier m above p) (list_all (attributes_agree is_identifier m above) xs) h))

    -- the methods of a class along the order
    module _ (along : list_all (members_agree is_identifier m above) above ≡ true) where
      signatures_fine : (d : ℕ) → has_class d above ≡ true → (xs : List (List ℕ × ℕ)) → ((q : List ℕ) → has q (names_in xs) ≡ true → is_some (own_method t.classes q d) ≡ true) → list_all (methods_agree is_identifier m above) xs ≡ true
          → none_other (first_in all) (map (λ p. (p.0, signed p.0 p.1)) xs) ≡ true
      signatures_fine d i [] own h = refl
      signatures_fine d i (p ∷ xs) own h =
          ap₂ (λ a b. not a && b)
          (by (or_cases (is_init p.0) (list_all (with_method p.0 p.1) above) (and_left (methods_agree is_identifier m above p) (list_all (methods_agree is_identifier m above) xs) h)))
          (signatures_fine d i xs (λ q k. own q (or_right (bytes_eq q p.0) (has q (names_in xs)) k)) (and_right (methods_agree is_identifier m above p) (list_all (methods_agree is_identifier m above) xs) h))
        where
          by : (is_init p.0 ≡ true) ⊎ (list_all (with_method p.0 p.1) above ≡ true) → is_other p.0 (first_in all p.0) (signed p.0 p.1) ≡ false
          by (inl init) =
              let f : _ = some_is (own_method t.classes p.0 d) (own p.0 (or_left (bytes_eq p.0 p.0) (has p.0 (names_in xs)) (itself p.0))) in
              init_fine p.0 init d f.0 i f.1 (slice_get t.signatures p.1) above along
          by (inr k) = method_fine p.0 p.1 above k

      members_fine : (row : List ℕ) → ((x : ℕ) → has_class x row ≡ true → has_class x above ≡ true) → list_all (members_agree is_identifier m above) row ≡ true → none_other (first_in all) (members_along t row) ≡ true
      members_fine [] inside h = refl
      members_fine (d ∷ row) inside h =
          list_all-append (λ (p : List ℕ × Definition). not (is_other p.0 (first_in all p.0) p.1)) (own_members t d) (members_along t row)
          ∙ ap₂ (λ a b. a && b) here (members_fine row (λ x k. inside x (or_right (d == x) (has_class x row) k)) (and_right (members_agree is_identifier m above d) (list_all (members_agree is_identifier m above) row) h))
        where
          parts : (list_all (methods_agree is_identifier m above) (own_methods (slice_get t.classes d)) ≡ true) × (list_all (attributes_agree is_identifier m above) (own_attributes (slice_get t.classes d)) ≡ true)
          parts = parts_of d (and_left (members_agree is_identifier m above d) (list_all (members_agree is_identifier m above) row) h)

          here : none_other (first_in all) (own_members t d) ≡ true
          here =
              list_all-append (λ (p : List ℕ × Definition). not (is_other p.0 (first_in all p.0) p.1)) (map (λ p. (p.0, OfType p.1)) (own_attributes (slice_get t.classes d))) (map (λ p. (p.0, OfSignature (slice_get t.signatures p.1))) (own_methods (slice_get t.classes d)))
              ∙ ap₂ (λ a b. a && b)
              (types_fine (own_attributes (slice_get t.classes d)) parts.1)
              (signatures_fine d (inside d (or_left (d == d) (has_class d row) (eq-eqb d d refl))) (own_methods (slice_get t.classes d)) (λ q k. own_method_there t.classes q d ∙ k) parts.0)

    pub none_clash : list_all (members_agree is_identifier m above) above ≡ true → clash_among all ≡ None
    none_clash along = no_clash all (members_fine along above (λ x k. k) along)

-- ---- well-typed modules

has_one : (is_identifier : List ℕ → Bool) (m : TypedModule) (o : Option (List ℕ)) → has_order is_identifier m o ≡ true → is_some o ≡ true
has_one is_identifier m None h = h
has_one is_identifier m (Some row) h = refl

entry_at : (classes : List ClassEntry) (c : ℕ) → c < length classes → (e : ClassEntry) × (slice_get classes c ≡ Some e)
entry_at [] c l = absurd (omega (arith, l))
entry_at (e ∷ classes) zero l = (e, refl)
entry_at (e ∷ classes) (suc c) l = entry_at classes c (omega (arith, l))

pub well_typed_classes_fit : WellTypedClassesFit
well_typed_classes_fit is_identifier m w =
    record {
      tree = tree_is is_identifier m w;
      stand = record { fit = λ c. fit c (slice_get m.classes.classes c) refl };
      orders = λ c l. let e : _ = entry_at m.classes.classes c l in has_one is_identifier m (order m.classes.classes c) (class_parts is_identifier m w c e.0 e.1).has;
      agree = λ c l. let e : _ = entry_at m.classes.classes c l in none_clash is_identifier m (listed_order (order m.classes.classes c)) (class_parts is_identifier m w c e.0 e.1).agree;
    }
  where
    fit : (c : ℕ) (o : Option ClassEntry) → slice_get m.classes.classes c ≡ o → bases_fit m.classes.classes o ≡ true
    fit c None e = refl
    fit c (Some entry) e =
        and_left (list_all (λ b. is_trait_in (slice_get m.classes.classes b)) (if entry.is_trait then entry.bases else drop 1 entry.bases)) _ (class_parts is_identifier m w c entry e).bases

-- ---- so there is no refusal

not_refused : (is_identifier : List ℕ → Bool) (m : TypedModule) → is_well_typed is_identifier m ≡ true → (result : Result LayoutTable LayoutError) → IsLayout m.classes result → IsNotRefused result
not_refused is_identifier m w (Ok t) h = tt
not_refused is_identifier m w (Err (NoOrder c)) h =
    let have : is_some (order m.classes.classes c) ≡ true = (well_typed_classes_fit is_identifier m w).orders c h.there in
    let no : false ≡ true = sym (ap is_some h.none) ∙ have in
    cc
not_refused is_identifier m w (Err (Clash c name)) h =
    let no : Some name ≡ None = sym h.1.clash ∙ (well_typed_classes_fit is_identifier m w).agree c h.1.there in
    cc
not_refused is_identifier m w (Err Memory) h = tt

pub has_where_well_typed : (table : ClassTable) (result : Result LayoutTable LayoutError) → IsLayout table result → HasWhereWellTyped table result
has_where_well_typed table result h is_identifier m w e = not_refused is_identifier m w result (subst (λ z. IsLayout z result) (sym e) h)

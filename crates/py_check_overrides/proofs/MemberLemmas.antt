-- Where no definition along a row of classes differs from the first of its name, the members of these classes agree.
use Rattle.std.proofs.Common.{◌≡◌, ℕ, Bool, true, false, not, cond, ◌||◌, ◌&&◌, List, [], ◌∷◌, map, slice_get, Option, Some, None, is_some, refl, sym, ap, ap₂, subst, ◌∙◌, codes}
use Rattle.std.specs.List.{list_all}
use Rattle.std.specs.Map.{lookup}
use Rattle.std.specs.Str.{bytes_eq}
use Rattle.std.proofs.lemmas.List.Folds.{list_all-append, list_all-map}
use Rattle.std.proofs.lemmas.Option.{same_Some}
use Rattle.py_typed.specs.Sorts.{Sort}
use Rattle.py_typed.specs.Classes.{ClassEntry, ClassTable, Signature}
use Rattle.py_typed.specs.Order.{own_method, own_attribute, own_attributes}
use Rattle.py_typed.specs.Statements.{TypedModule}
use Rattle.py_typed.specs.WellTypedModule.{same_signature, agrees_with_method, agrees_with_attribute, methods_agree, attributes_agree, members_agree}
use Rattle.py_typed.proofs.FitLemmas.{and_left, and_right}
use Rattle.class_layout_members.specs.Names.{own_methods}
use Rattle.class_layout_members.specs.Clashes.{Definition, OfType, OfSignature, is_same_signature, is_init, agree, is_other, none_other, own_members, members_along, clash_among}
use Rattle.class_layout_members.proofs.RowLemmas.{same, itself}
use Rattle.class_layout_members.proofs.FirstLemmas.{own_method_is}
use Rattle.class_layout_members.proofs.AgreementLemmas.{agree_both, none_other_in}
use Rattle.class_layout.proofs.KindLemmas.{own_attribute_is}
use Rattle.py_check_overrides.specs.Lines.{agrees}
use Rattle.py_check_overrides.specs.Laws.{is_signed}
use Rattle.py_check_overrides.proofs.ToldLemmas.{first_in}

all_by : {A : Type 0} (p r : A → Bool) (row : List A) → ((a : A) → p a ≡ true → r a ≡ true) → list_all p row ≡ true → list_all r row ≡ true
all_by p r [] h e = refl
all_by p r (a ∷ row) h e = ap₂ (λ x y. x && y) (h a (and_left (p a) (list_all p row) e)) (all_by p r row h (and_right (p a) (list_all p row) e))

both_all : {A : Type 0} (p r : A → Bool) (row : List A) → list_all p row ≡ true → list_all r row ≡ true → list_all (λ a. p a && r a) row ≡ true
both_all p r [] e f = refl
both_all p r (a ∷ row) e f =
    ap₂ (λ x y. x && y)
    (ap₂ (λ x y. x && y) (and_left (p a) (list_all p row) e) (and_left (r a) (list_all r row) f))
    (both_all p r row (and_right (p a) (list_all p row) e) (and_right (r a) (list_all r row) f))

-- what all of a row pass, a value that is found in it passes
found_passes : {A : Type 0} (test : List ℕ × A → Bool) (row : List (List ℕ × A)) (q : List ℕ) (a : A) → lookup (bytes_eq q) row ≡ Some a → list_all test row ≡ true → test (q, a) ≡ true
found_passes test [] q a e h = absurd (cc)
found_passes {A = A} test (p ∷ row) q a e h = by (bytes_eq q p.0) refl e (λ f. found_passes test row q a f (and_right (test p) (list_all test row) h))
  where
    by : (b : Bool) → bytes_eq q p.0 ≡ b → cond b (Some p.1) (lookup (bytes_eq q) row) ≡ Some a → (lookup (bytes_eq q) row ≡ Some a → test (q, a) ≡ true) → test (q, a) ≡ true
    by true s f rec = subst (λ z. test (z, a) ≡ true) (sym (same q p.0 s)) (subst (λ (z : A). test (p.0, z) ≡ true) (same_Some p.1 a f) (and_left (test p) (list_all test row) h))
    by false s f rec = rec f

-- a first one is there, and it agrees
first_agrees : (all rest : List (List ℕ × Definition)) (g : List ℕ → Option Definition) → ((q : List ℕ) (d : Definition) → first_in rest q ≡ Some d → is_some (g q) ≡ true) → none_other g rest ≡ true → list_all (λ p. agrees p.0 (g p.0) p.1) rest ≡ true
first_agrees all [] g there h = refl
first_agrees all (p ∷ rest) g there h =
    ap₂ (λ x y. x && y)
    (by (g p.0) (there p.0 p.1 (here (bytes_eq p.0 p.0) (itself p.0))) (and_left (not (is_other p.0 (g p.0) p.1)) (none_other g rest) h))
    (first_agrees all rest g (λ q d e. later q d (bytes_eq q p.0) refl e) (and_right (not (is_other p.0 (g p.0) p.1)) (none_other g rest) h))
  where
    here : (b : Bool) → b ≡ true → cond b (Some p.1) (first_in rest p.0) ≡ Some p.1
    here true e = refl
    here false e = absurd (cc)

    by : (o : Option Definition) → is_some o ≡ true → not (is_other p.0 o p.1) ≡ true → agrees p.0 o p.1 ≡ true
    by None s e = absurd (cc)
    by (Some f) s e = twice (agree p.0 f p.1) e
      where
        twice : (b : Bool) → not (not b) ≡ true → b ≡ true
        twice true e = refl
        twice false e = absurd (cc)

    later : (q : List ℕ) (d : Definition) (b : Bool) → bytes_eq q p.0 ≡ b → first_in rest q ≡ Some d → is_some (g q) ≡ true
    later q d true s e = there q p.1 (ap (λ b. cond b (Some p.1) (first_in rest q)) s)
    later q d false s e = there q d (ap (λ b. cond b (Some p.1) (first_in rest q)) s ∙ e)

agrees_both : (q : List ℕ) (o : Option Definition) (d e : Definition) → agrees q o d ≡ true → agrees q o e ≡ true → agree q d e ≡ true
agrees_both q None d e x y = absurd (cc)
agrees_both q (Some f) d e x y = agree_both q f d e x y

module _ (is_identifier : List ℕ → Bool) (m : TypedModule) (row : List ℕ) (none : clash_among (members_along m.classes row) ≡ None) where
  abbrev t : ClassTable
  t = m.classes

  abbrev all : List (List ℕ × Definition)
  all = members_along t row

  -- a member agrees with the first one of its name, and has a signature if it is a method
  abbrev good : List ℕ × Definition → Bool
  good p = agrees p.0 (first_in all p.0) p.1 && is_signed p.1

  good_all : list_all (λ p. is_signed p.1) all ≡ true → list_all good all ≡ true
  good_all signed = both_all (λ p. agrees p.0 (first_in all p.0) p.1) (λ p. is_signed p.1) all (first_agrees all all (first_in all) (λ q d e. ap is_some e) (none_other_in all none)) signed

  by_class : (rest : List ℕ) → list_all good (members_along t rest) ≡ true → list_all (λ d. list_all good (own_members t d)) rest ≡ true
  by_class [] h = refl
  by_class (d ∷ rest) h =
      let parts : (list_all good (own_members t d) && list_all good (members_along t rest)) ≡ true = sym (list_all-append good (own_members t d) (members_along t rest)) ∙ h in
      ap₂ (λ x y. x && y) (and_left (list_all good (own_members t d)) (list_all good (members_along t rest)) parts) (by_class rest (and_right (list_all good (own_members t d)) (list_all good (members_along t rest)) parts))

  abbrev of_type : List ℕ × Sort → List ℕ × Definition
  of_type p = (p.0, OfType p.1)

  abbrev of_method : List ℕ × ℕ → List ℕ × Definition
  of_method p = (p.0, OfSignature (slice_get t.signatures p.1))

  module _ (d : ℕ) (h : list_all good (own_members t d) ≡ true) where
    parts : (list_all good (map of_type (own_attributes (slice_get t.classes d))) && list_all good (map of_method (own_methods (slice_get t.classes d)))) ≡ true
    parts = sym (list_all-append good (map of_type (own_attributes (slice_get t.classes d))) (map of_method (own_methods (slice_get t.classes d)))) ∙ h

    attributes_good : list_all (λ p. good (of_type p)) (own_attributes (slice_get t.classes d)) ≡ true
    attributes_good =
        sym (list_all-map good of_type (own_attributes (slice_get t.classes d)))
        ∙ and_left (list_all good (map of_type (own_attributes (slice_get t.classes d)))) (list_all good (map of_method (own_methods (slice_get t.classes d)))) parts

    methods_good : list_all (λ p. good (of_method p)) (own_methods (slice_get t.classes d)) ≡ true
    methods_good =
        sym (list_all-map good of_method (own_methods (slice_get t.classes d)))
        ∙ and_right (list_all good (map of_type (own_attributes (slice_get t.classes d)))) (list_all good (map of_method (own_methods (slice_get t.classes d)))) parts

    attribute_good : (q : List ℕ) (s : Sort) → own_attribute t.classes q d ≡ Some s → good (q, OfType s) ≡ true
    attribute_good q s e = found_passes (λ p. good (of_type p)) (own_attributes (slice_get t.classes d)) q s (sym (own_attribute_is t.classes q d) ∙ e) attributes_good

    method_good : (q : List ℕ) (f : ℕ) → own_method t.classes q d ≡ Some f → good (q, OfSignature (slice_get t.signatures f)) ≡ true
    method_good q f e = found_passes (λ p. good (of_method p)) (own_methods (slice_get t.classes d)) q f (sym (own_method_is t.classes q d) ∙ e) methods_good

  first_of : (p : List ℕ × Definition) → good p ≡ true → agrees p.0 (first_in all p.0) p.1 ≡ true
  first_of p h = and_left (agrees p.0 (first_in all p.0) p.1) (is_signed p.1) h

  signed_of : (p : List ℕ × Definition) → good p ≡ true → is_signed p.1 ≡ true
  signed_of p h = and_right (agrees p.0 (first_in all p.0) p.1) (is_signed p.1) h

  pair : (q : List ℕ) (d e : Definition) → good (q, d) ≡ true → good (q, e) ≡ true → agree q d e ≡ true
  pair q d e h k = agrees_both q (first_in all q) d e (first_of (q, d) h) (first_of (q, e) k)

  signatures_same : (q : List ℕ) (s u : Option Signature) → is_init q ≡ false → agree q (OfSignature s) (OfSignature u) ≡ true → is_signed (OfSignature s) ≡ true → is_signed (OfSignature u) ≡ true → same_signature is_identifier m s u ≡ true
  signatures_same q None u i h j k = absurd (cc)
  signatures_same q (Some s) None i h j k = absurd (cc)
  signatures_same q (Some s) (Some u) i h j k = sym (ap (λ b. b || is_same_signature (Some s) (Some u)) i) ∙ h

  -- a method against those of a class of the row
  method_with : (q : List ℕ) (f : ℕ) → good (q, OfSignature (slice_get t.signatures f)) ≡ true → is_init q ≡ false → (e : ℕ) → list_all good (own_members t e) ≡ true → agrees_with_method is_identifier m (Some f) (own_method t.classes q e) (own_attribute t.classes q e) ≡ true
  method_with q f h i e k = by (own_method t.classes q e) refl (own_attribute t.classes q e) refl
    where
      by : (g : Option ℕ) → own_method t.classes q e ≡ g → (a : Option Sort) → own_attribute t.classes q e ≡ a → agrees_with_method is_identifier m (Some f) g a ≡ true
      by None x None y = refl
      by (Some g) x None y =
          let its = method_good e k q g x in
          signatures_same q (slice_get t.signatures f) (slice_get t.signatures g) i (pair q (OfSignature (slice_get t.signatures f)) (OfSignature (slice_get t.signatures g)) h its)
          (signed_of (q, OfSignature (slice_get t.signatures f)) h) (signed_of (q, OfSignature (slice_get t.signatures g)) its)
      by g x (Some s) y = (let no : false ≡ true = pair q (OfSignature (slice_get t.signatures f)) (OfType s) h (attribute_good e k q s y) in absurd (cc))

  -- an attribute
  attribute_with : (q : List ℕ) (s : Sort) → good (q, OfType s) ≡ true → (e : ℕ) → list_all good (own_members t e) ≡ true → agrees_with_attribute is_identifier m s (own_method t.classes q e) (own_attribute t.classes q e) ≡ true
  attribute_with q s h e k = by (own_method t.classes q e) refl (own_attribute t.classes q e) refl
    where
      by : (g : Option ℕ) → own_method t.classes q e ≡ g → (a : Option Sort) → own_attribute t.classes q e ≡ a → agrees_with_attribute is_identifier m s g a ≡ true
      by None x None y = refl
      by None x (Some u) y = pair q (OfType s) (OfType u) h (attribute_good e k q u y)
      by (Some g) x a y = (let no : false ≡ true = pair q (OfType s) (OfSignature (slice_get t.signatures g)) h (method_good e k q g x) in absurd (cc))

  module _ (classes_good : list_all (λ d. list_all good (own_members t d)) row ≡ true) where
    method_agrees : (p : List ℕ × ℕ) → good (of_method p) ≡ true → methods_agree is_identifier m row p ≡ true
    method_agrees p h = by (bytes_eq p.0 (codes "__init__")) refl
      where
        by : (b : Bool) → bytes_eq p.0 (codes "__init__") ≡ b → (b || list_all (λ d. agrees_with_method is_identifier m (Some p.1) (own_method t.classes p.0 d) (own_attribute t.classes p.0 d)) row) ≡ true
        by true i = refl
        by false i =
            all_by (λ d. list_all good (own_members t d)) (λ d. agrees_with_method is_identifier m (Some p.1) (own_method t.classes p.0 d) (own_attribute t.classes p.0 d)) row
            (λ e k. method_with p.0 p.1 h i e k) classes_good

    attribute_agrees : (p : List ℕ × Sort) → good (of_type p) ≡ true → attributes_agree is_identifier m row p ≡ true
    attribute_agrees p h =
        all_by (λ d. list_all good (own_members t d)) (λ d. agrees_with_attribute is_identifier m p.1 (own_method t.classes p.0 d) (own_attribute t.classes p.0 d)) row
        (λ e k. attribute_with p.0 p.1 h e k) classes_good

    class_agrees : (d : ℕ) → (list_all good (own_members t d) && is_some (slice_get t.classes d)) ≡ true → members_agree is_identifier m row d ≡ true
    class_agrees d h = by (slice_get t.classes d) refl (and_right (list_all good (own_members t d)) (is_some (slice_get t.classes d)) h)
      where
        goods : list_all good (own_members t d) ≡ true
        goods = and_left (list_all good (own_members t d)) (is_some (slice_get t.classes d)) h

        by : (o : Option ClassEntry) → slice_get t.classes d ≡ o → is_some o ≡ true → members_agree is_identifier m row d ≡ true
        by None e s = absurd (cc)
        by (Some entry) e s =
            let methods : list_all (methods_agree is_identifier m row) entry.methods ≡ true =
            all_by (λ p. good (of_method p)) (methods_agree is_identifier m row) entry.methods method_agrees (sym (ap (λ o. list_all (λ p. good (of_method p)) (own_methods o)) e) ∙ methods_good d goods) in
            let attributes : list_all (attributes_agree is_identifier m row) entry.attributes ≡ true =
            all_by (λ p. good (of_type p)) (attributes_agree is_identifier m row) entry.attributes attribute_agrees (sym (ap (λ o. list_all (λ p. good (of_type p)) (own_attributes o)) e) ∙ attributes_good d goods) in
            rw (e, members_agree) (ap₂ (λ x y. x && y) methods attributes)

  pub members_fit : list_all (λ d. is_some (slice_get t.classes d)) row ≡ true → list_all (λ p. is_signed p.1) (members_along t row) ≡ true → list_all (members_agree is_identifier m row) row ≡ true
  members_fit there signed =
      let goods : list_all (λ d. list_all good (own_members t d)) row ≡ true = by_class row (good_all signed) in
      all_by (λ d. list_all good (own_members t d) && is_some (slice_get t.classes d)) (members_agree is_identifier m row) row (class_agrees goods)
      (both_all (λ d. list_all good (own_members t d)) (λ d. is_some (slice_get t.classes d)) row goods there)

-- What typing knows of the members of classes is what their entries say.
use Rattle.std.proofs.Common.{◌≡◌, ℕ, zero, suc, ◌+◌, ◌<◌, Bool, true, false, not, ◌&&◌, ◌||◌, cond, List, [], ◌∷◌, ◌++◌, map, drop, length, Option, Some, None, refl, ap, sym, ◌∙◌, subst, if◌then◌else◌}
use Rattle.std.proofs.lemmas.Bool.{and_from, and_parts, or_parts}
use Rattle.std.proofs.lemmas.Option.{same_Some, slice_get-map}
use Rattle.std.specs.Prelude.{slice_get, find, codes}
use Rattle.std.specs.List.{list_all, filter_map, cons_option, AllByRecursion}
use Rattle.std.specs.Map.{lookup}
use Rattle.std.specs.Option.{option_map, option_and_then, option_or}
use Rattle.std.specs.Str.{bytes_eq}
use Rattle.py_syntax.specs.Expressions.{ExprTree}
use Rattle.py_syntax.specs.Statements.{StmtTree, ClassTree}
use Rattle.py_typed.specs.Sorts as sort
use Rattle.py_typed.specs.Sorts.{Sort}
use Rattle.py_typed.specs.Classes.{ClassEntry}
use Rattle.py_typed.specs.Order as along
use Rattle.py_typed.specs.Order.{first_there, named, order, listed_order}
use Rattle.py_typed.specs.WellTyped.{all_differ, is_called_in}
use Rattle.py_check_context.specs.declared.scope.Meaning.{Meaning}
use Rattle.py_check_context.specs.Members.{Member, attribute, untyped, unknown, method, declared_of}
use Rattle.py_check_annotations.specs.Annotations.{annotation}
use Rattle.py_check_classes.specs.declared.header.Header.{Header}
use Rattle.py_check_classes.specs.Names.{classes_in}
use Rattle.py_check_classes.specs.Headers.{has_type, headers_behind}
use Rattle.py_check_members.specs.Deeds.{Source, itself, annotated, literal, Deed, defines, declares, annotates, gives, sets, Event, init_function}
use Rattle.py_check_members.specs.Members.{attribute_of, marked_sort, member_by, declares_by, is_unknown_by, places, each_once, made_from, Owns, own_at, own_member, own_declared, order_in, row_above, ClassText, class_texts, inner_meaning, typed_own, own_behind, own_members, function_of, own_init, member_along, init_along, init_behind_along, sort_of, own_method, typed_attribute}
use Rattle.py_check_members_laws.specs.Laws.{IsMethodOf}
use Rattle.py_check_members_laws.proofs.Rows.{none_more, swapped, same_text, Found, found_holds}
use Rattle.py_check_members_laws.proofs.Events.{is_source, OfAssignments, body_holds}
use Rattle.py_check_members_laws.proofs.Places.{trees_of_texts}
use Rattle.py_check_members_laws.proofs.Own.{Makes, own_hold}
use Rattle.py_check_members_laws.proofs.Members.{all_there, HasOwn, own_there, events, above, names_inside, made_members, names_differ, methods_are_functions}
use Rattle.py_check_members_laws.proofs.Entries.{entry_at}
use Rattle.py_check_members_laws.proofs.Typed.{heads, owns, entries, order_same, IsClass, class_of_entry, not_so, names}

-- ---- rows of names

module _ {B : Type 0} (of : Member → Option B) where
  abbrev kept : List (List ℕ × Member) → List (List ℕ × B)
  kept row = filter_map (λ p. option_map (λ b. (p.0, b)) (of p.1)) row

  passed_over : (name a : List ℕ) (o : Option B) (rest : List (List ℕ × B)) → bytes_eq name a ≡ false → named a (cons_option (option_map (λ b. (name, b)) o) rest) ≡ named a rest
  passed_over name a None rest h = refl
  passed_over name a (Some b) rest h = ap (λ t. option_map (λ (p : List ℕ × B). p.1) (if t then Some (name, b) else find (λ (p : List ℕ × B). bytes_eq p.0 a) rest)) h

  found_first : (name a : List ℕ) (o : Option B) (rest : List (List ℕ × B)) → bytes_eq name a ≡ true → named a rest ≡ None → named a (cons_option (option_map (λ b. (name, b)) o) rest) ≡ o
  found_first name a None rest h k = k
  found_first name a (Some b) rest h k = ap (λ t. option_map (λ (p : List ℕ × B). p.1) (if t then Some (name, b) else find (λ (p : List ℕ × B). bytes_eq p.0 a) rest)) h

  not_named : (row : List (List ℕ × Member)) (a : List ℕ) → is_called_in (names row) a ≡ false → named a (kept row) ≡ None
  not_named [] a h = refl
  not_named (p ∷ row) a h =
      let q = or_parts (bytes_eq a p.0) (is_called_in (names row) a) h in
      passed_over p.0 a (of p.1) (kept row) (swapped p.0 a ∙ q.0) ∙ not_named row a q.1

  pub named_is : (row : List (List ℕ × Member)) (a : List ℕ) → all_differ (names row) ≡ true → named a (kept row) ≡ option_and_then of (lookup (bytes_eq a) row)
  named_is [] a h = refl
  named_is (p ∷ row) a h =
      let q = and_parts (not (is_called_in (names row) p.0)) (all_differ (names row)) h in
      by (bytes_eq a p.0) refl (not_so (is_called_in (names row) p.0) q.0) (named_is row a q.1)
    where
      by : (b : Bool) → bytes_eq a p.0 ≡ b → is_called_in (names row) p.0 ≡ false → named a (kept row) ≡ option_and_then of (lookup (bytes_eq a) row) → named a (kept (p ∷ row)) ≡ option_and_then of (lookup (bytes_eq a) (p ∷ row))
      by true e absent next =
          found_first p.0 a (of p.1) (kept row) (swapped p.0 a ∙ e) (not_named row a (ap (is_called_in (names row)) (same_text a p.0 e) ∙ absent))
          ∙ sym (ap (λ t. option_and_then of (cond t (Some p.1) (lookup (bytes_eq a) row))) e)
      by false e absent next = passed_over p.0 a (of p.1) (kept row) (swapped p.0 a ∙ e) ∙ next ∙ sym (ap (λ t. option_and_then of (cond t (Some p.1) (lookup (bytes_eq a) row))) e)

-- ---- the first along a row

pub first_same : {A B : Type 0} (f g : A → Option B) → ((x : A) → f x ≡ g x) → (row : List A) → first_there f row ≡ first_there g row
first_same f g h [] = refl
first_same f g h (x ∷ row) = ap (λ o. option_or o (first_there f row)) (h x) ∙ ap (option_or (g x)) (first_same f g h row)

pub first_of : {A B C : Type 0} (f : A → Option B) (g : A → Option C) (of : B → Option C) → ((x : A) → g x ≡ option_and_then of (f x)) → (b : B) (c : C) → of b ≡ Some c → (row : List A) → first_there f row ≡ Some b → first_there g row ≡ Some c
first_of f g of same b c h [] q = absurd (cc)
first_of {B = B} f g of same b c h (x ∷ row) q = by (f x) q (same x) (first_of f g of same b c h row)
  where
    by : (o : Option B) → option_or o (first_there f row) ≡ Some b → g x ≡ option_and_then of o → (first_there f row ≡ Some b → first_there g row ≡ Some c) → option_or (g x) (first_there g row) ≡ Some c
    by None r e next = ap (λ o. option_or o (first_there g row)) e ∙ next r
    by (Some y) r e next = ap (λ o. option_or o (first_there g row)) (e ∙ ap of (same_Some y b r) ∙ h)

pub record FoundAt {A B : Type 0} (f : A → Option B) (b : B) : Type 0 where
  pub place : A
  pub is : f place ≡ Some b

pub found_at : {A B : Type 0} (f : A → Option B) (b : B) (row : List A) → first_there f row ≡ Some b → FoundAt f b
found_at f b [] h = absurd (cc)
found_at {B = B} f b (x ∷ row) h = by (f x) refl h (found_at f b row)
  where
    by : (o : Option B) → f x ≡ o → option_or o (first_there f row) ≡ Some b → (first_there f row ≡ Some b → FoundAt f b) → FoundAt f b
    by None e r next = next r
    by (Some y) e r next = record { place = x; is = e ∙ r }

-- ---- classes

attribute_there : (o : Option Member) (t : Sort) → option_and_then sort_of o ≡ Some t → o ≡ Some (attribute t)
attribute_there None t h = absurd (cc)
attribute_there (Some (attribute s)) t h = ap (λ x. Some (attribute x)) (same_Some s t h)
attribute_there (Some untyped) t h = absurd (cc)
attribute_there (Some (unknown place)) t h = absurd (cc)
attribute_there (Some (method f)) t h = absurd (cc)

method_there : (o : Option Member) (f : ℕ) → option_and_then function_of o ≡ Some f → o ≡ Some (method f)
method_there None f h = absurd (cc)
method_there (Some (method g)) f h = ap (λ x. Some (method x)) (same_Some g f h)
method_there (Some (attribute s)) f h = absurd (cc)
method_there (Some untyped) f h = absurd (cc)
method_there (Some (unknown place)) f h = absurd (cc)

sort_inside : (o : Option Sort) (t : Sort) → attribute_of o ≡ attribute t → o ≡ Some t
sort_inside None t h = absurd (cc)
sort_inside (Some s) t h = ap Some (same s t h)
  where
    same : (s t : Sort) → attribute s ≡ attribute t → s ≡ t
    same s t e = cc

-- of what types attributes are, where that holds of types that annotations give, of instances of a class, and of literals
pub record OfTypes (P : Sort → Type 0) (meanings : List ℕ → Meaning) (inner : ℕ → List ℕ → Meaning) (n : ℕ) : Type 0 where
  pub marks : (mark : ExprTree) (t : Sort) → (annotation meanings mark).got ≡ Some t → P t
  pub inner_marks : (i : Option ℕ) (mark : ExprTree) (t : Sort) → (annotation (inner_meaning inner i) mark).got ≡ Some t → P t
  pub itself : P (sort.Instance n)
  pub int : P sort.Int
  pub str : P sort.Str
  pub bool : P sort.Bool

module _ (said : List ℕ → Option Meaning) (meanings : List ℕ → Meaning) (inner : ℕ → List ℕ → Meaning) (definitions : List StmtTree) where
  abbrev hs : List Header
  hs = heads said meanings inner definitions

  abbrev os : Owns
  os = owns said meanings inner definitions

  abbrev es : List ClassEntry
  es = entries said meanings inner definitions

  -- a member's function is one of its class and name
  pub own_function : (n f : ℕ) (a : List ℕ) → own_member os a n ≡ Some (method f) → IsMethodOf hs definitions n f a
  own_function n f a h = methods_are_functions hs meanings inner definitions n f a h

  abbrev IsIn : ℕ → (Sort → Type 0) → Deed → Type 0
  IsIn n P d = (i : Option ℕ) (t : Sort) → member_by meanings (inner_meaning inner i) n d ≡ attribute t → P t

  literal_in : (P : Sort → Type 0) (n : ℕ) → OfTypes P meanings inner n → (s t : Sort) → is_source (literal s) ≡ true → s ≡ t → P t
  literal_in P n o sort.Int t h e = subst P e o.int
  literal_in P n o sort.Str t h e = subst P e o.str
  literal_in P n o sort.Bool t h e = subst P e o.bool
  literal_in P n o _ t h e = absurd (cc)

  source_in : (P : Sort → Type 0) (n : ℕ) → OfTypes P meanings inner n → (x : Source) → is_source x ≡ true → IsIn n P (gives x)
  source_in P n o itself h i t q = subst P (same_Some (sort.Instance n) t (sort_inside (Some (sort.Instance n)) t q)) o.itself
  source_in P n o (annotated None) h i t q = absurd (cc)
  source_in P n o (annotated (Some mark)) h i t q = o.marks mark t (sort_inside (annotation meanings mark).got t q)
  source_in P n o (literal s) h i t q = literal_in P n o s t h (same_Some s t (sort_inside (Some s) t q))

  -- THE TYPES of attributes
  pub attribute_types : (P : Sort → Type 0) (n : ℕ) → OfTypes P meanings inner n → (a : List ℕ) (t : Sort) → own_member os a n ≡ Some (attribute t) → P t
  attribute_types P n o a t h = by (has_type (slice_get hs n)) refl
    where
      w : HasOwn hs meanings inner definitions n
      w = own_there hs meanings inner definitions n a (attribute t) h

      by : (b : Bool) → has_type (slice_get hs n) ≡ b → P t
      by false q = absurd (none (sym (ap (lookup (bytes_eq a)) (w.is ∙ empty q)) ∙ h))
        where
          empty : has_type (slice_get hs n) ≡ false → own_behind hs meanings inner w.before w.text ≡ []
          empty e = ap (λ k. if has_type (slice_get hs k) then typed_own hs meanings inner w.before k w.text else []) w.long ∙ ap (λ z. if z then typed_own hs meanings inner w.before n w.text else []) e

          none : None ≡ Some (attribute t) → ⊥
          none z = absurd (cc)
      by true q =
          let init = init_function w.text.first w.text.tree.body in
          let vs = events hs meanings inner definitions n w q in
          let up = above hs meanings inner definitions n w q in
          let inside = names_inside hs meanings inner definitions n w q in
          let all = body_holds (IsIn n P) (record { set = λ i s z. absurd (cc); marked = λ mark i s z. o.inner_marks i mark s (sort_inside (annotation (inner_meaning inner i) mark).got s z); given = source_in P n o }) (λ f i s z. absurd (cc)) (λ mark i s z. o.marks mark s (sort_inside (annotation meanings mark).got s z)) init w.text.first w.text.tree.body in
          let IsOf = λ (p : List ℕ × Member). (s : Sort) → p.1 ≡ attribute s → P s in
          let found = found_holds IsOf (each_once (made_from meanings inside n up vs 0 vs)) a (attribute t)
          (own_hold meanings inside n up vs IsOf (λ i v r. record { declared = λ z s e. all_there (λ (x : Event). IsIn n P x.deed) vs i v all r init s e; unknown_set = λ z s e. absurd (cc) }))
          (ap (lookup (bytes_eq a)) (sym (made_members hs meanings inner definitions n w q)) ∙ h) in found.holds t refl

  module _ (typed : (n : ℕ) → n < length hs → has_type (slice_get hs n) ≡ true) where
    nothing_past : {B : Type 0} (of : Member → Option B) (a : List ℕ) (n : ℕ) → slice_get es n ≡ None → (o : Option Member) → own_member os a n ≡ o → None ≡ option_and_then of o
    nothing_past of a n h None q = refl
    nothing_past of a n h (Some m) q =
        let w = own_there hs meanings inner definitions n a m q in
        let there : slice_get (classes_in definitions) n ≡ Some w.text.tree =
        ap (λ l. slice_get l n) (sym (trees_of_texts 0 definitions)) ∙ slice_get-map (λ (x : ClassText). x.tree) (class_texts 0 definitions) n ∙ ap (option_map (λ (x : ClassText). x.tree)) w.found in
        absurd (no (sym h ∙ entry_at hs os 0 (classes_in definitions) n w.text.tree there))
      where
        no : {A : Type 0} {x : A} → None ≡ Some x → ⊥
        no z = absurd (cc)

    pub own_methods : (a : List ℕ) (n : ℕ) → along.own_method es a n ≡ option_and_then function_of (own_member os a n)
    own_methods a n = by (slice_get es n) refl
      where
        by : (o : Option ClassEntry) → slice_get es n ≡ o → option_and_then (λ (e : ClassEntry). named a e.methods) o ≡ option_and_then function_of (own_member os a n)
        by None q = nothing_past function_of a n q (own_member os a n) refl
        by (Some e) q =
            let c = class_of_entry said meanings inner definitions typed n e q in
            ap (λ (z : ClassEntry). named a z.methods) c.is ∙ named_is function_of (own_at os n) a (names_differ hs meanings inner definitions n)

    pub own_attributes : (a : List ℕ) (n : ℕ) → along.own_attribute es a n ≡ option_and_then sort_of (own_member os a n)
    own_attributes a n = by (slice_get es n) refl
      where
        by : (o : Option ClassEntry) → slice_get es n ≡ o → option_and_then (λ (e : ClassEntry). named a e.attributes) o ≡ option_and_then sort_of (own_member os a n)
        by None q = nothing_past sort_of a n q (own_member os a n) refl
        by (Some e) q =
            let c = class_of_entry said meanings inner definitions typed n e q in
            ap (λ (z : ClassEntry). named a z.attributes) c.is ∙ named_is sort_of (own_at os n) a (names_differ hs meanings inner definitions n)

    row_same : (n : ℕ) → listed_order (order es n) ≡ order_in hs n
    row_same n = ap listed_order (sym (order_same said meanings inner definitions n))

    -- ---- along the order of a class

    -- what is first of the declared members, or else of all, is first of those that are seen by this
    seen_first : {B : Type 0} (of : Member → Option B) (by : ℕ → Option B) (a : List ℕ) → ((n : ℕ) → by n ≡ option_and_then of (own_member os a n)) → ((m : Member) → option_and_then of (declared_of m) ≡ of m) → (m : Member) (b : B) → of m ≡ Some b
        → (row : List ℕ) → option_or (first_there (own_declared os a) row) (first_there (own_member os a) row) ≡ Some m → first_there by row ≡ Some b
    seen_first of by a same none m b q row h = one (first_there (own_declared os a) row) refl h
      where
        seen : (o : Option Member) → option_and_then of o ≡ option_and_then of (option_and_then declared_of o)
        seen None = refl
        seen (Some x) = sym (none x)

        one : (o : Option Member) → first_there (own_declared os a) row ≡ o → option_or o (first_there (own_member os a) row) ≡ Some m → first_there by row ≡ Some b
        one (Some x) e g = first_of (own_declared os a) by of (λ n. same n ∙ seen (own_member os a n)) m b q row (e ∙ g)
        one None e g = first_of (own_member os a) by of same m b q row g

    sorts_declared : (m : Member) → option_and_then sort_of (declared_of m) ≡ sort_of m
    sorts_declared (attribute t) = refl
    sorts_declared untyped = refl
    sorts_declared (unknown place) = refl
    sorts_declared (method f) = refl

    functions_declared : (m : Member) → option_and_then function_of (declared_of m) ≡ function_of m
    functions_declared (attribute t) = refl
    functions_declared untyped = refl
    functions_declared (unknown place) = refl
    functions_declared (method f) = refl

    pub attributes_are : (n : ℕ) (a : List ℕ) (t : Sort) → member_along os hs n a ≡ Some (attribute t) → along.attribute_of es n a ≡ Some t
    attributes_are n a t h = ap (first_there (along.own_attribute es a)) (row_same n) ∙ seen_first sort_of (along.own_attribute es a) a (own_attributes a) sorts_declared (attribute t) t refl (order_in hs n) h

    pub methods_are : (n : ℕ) (a : List ℕ) (f : ℕ) → member_along os hs n a ≡ Some (method f) → along.method_of es n a ≡ Some f
    methods_are n a f h = ap (first_there (along.own_method es a)) (row_same n) ∙ seen_first function_of (along.own_method es a) a (own_methods a) functions_declared (method f) f refl (order_in hs n) h

    pub inits_are : (n : ℕ) → along.method_of es n (codes "__init__") ≡ init_along os hs n
    inits_are n = ap (first_there (along.own_method es (codes "__init__"))) (row_same n) ∙ first_same (along.own_method es (codes "__init__")) (own_init os) (own_methods (codes "__init__")) (order_in hs n)

    pub behind_are : (n : ℕ) → along.method_along es (codes "__init__") (drop 1 (listed_order (order es n))) ≡ init_behind_along os hs n
    behind_are n = ap (λ row. first_there (along.own_method es (codes "__init__")) (drop 1 row)) (row_same n) ∙ first_same (along.own_method es (codes "__init__")) (own_init os) (own_methods (codes "__init__")) (row_above hs n)

    -- the type of an attribute along an order is that of one of its classes
    pub attribute_owned : (n : ℕ) (a : List ℕ) (t : Sort) → along.attribute_of es n a ≡ Some t → FoundAt (own_member os a) (attribute t)
    attribute_owned n a t h =
        let f = found_at (along.own_attribute es a) t (listed_order (order es n)) h in record { place = f.place; is = attribute_there (own_member os a f.place) t (sym (own_attributes a f.place) ∙ f.is) }

  -- the function of a method along an order is one of its name in one of the classes
  pub record IsMethodBelow (f : ℕ) (a : List ℕ) : Type 0 where
    pub class : ℕ
    pub is : IsMethodOf hs definitions class f a

  -- what is found along an order is a member of one of its classes
  declared_own : (o : Option Member) (m : Member) → option_and_then declared_of o ≡ Some m → o ≡ Some m
  declared_own None m h = absurd (cc)
  declared_own (Some (attribute t)) m h = h
  declared_own (Some untyped) m h = h
  declared_own (Some (unknown place)) m h = absurd (cc)
  declared_own (Some (method f)) m h = h

  pub member_found : (n : ℕ) (a : List ℕ) (m : Member) → member_along os hs n a ≡ Some m → FoundAt (own_member os a) m
  member_found n a m h = by (first_there (own_declared os a) (order_in hs n)) refl h
    where
      by : (o : Option Member) → first_there (own_declared os a) (order_in hs n) ≡ o → option_or o (first_there (own_member os a) (order_in hs n)) ≡ Some m → FoundAt (own_member os a) m
      by (Some x) e g = let w = found_at (own_declared os a) m (order_in hs n) (e ∙ g) in record { place = w.place; is = declared_own (own_member os a w.place) m w.is }
      by None e g = found_at (own_member os a) m (order_in hs n) g

  pub method_owned : (n : ℕ) (a : List ℕ) (f : ℕ) → member_along os hs n a ≡ Some (method f) → IsMethodBelow f a
  method_owned n a f h = let w = member_found n a (method f) h in record { class = w.place; is = own_function w.place f a w.is }

  init_owned : (row : List ℕ) (f : ℕ) → first_there (own_init os) row ≡ Some f → IsMethodBelow f (codes "__init__")
  init_owned row f h =
      let w = found_at (own_init os) f row h in
      record { class = w.place; is = own_function w.place f (codes "__init__") (method_there (own_member os (codes "__init__") w.place) f w.is) }

  pub init_found : (n f : ℕ) → init_along os hs n ≡ Some f → IsMethodBelow f (codes "__init__")
  init_found n f h = init_owned (order_in hs n) f h

  pub behind_found : (n f : ℕ) → init_behind_along os hs n ≡ Some f → IsMethodBelow f (codes "__init__")
  behind_found n f h = init_owned (row_above hs n) f h

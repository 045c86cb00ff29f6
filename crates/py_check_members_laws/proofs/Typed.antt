-- What well typed asks of the classes of a module, but for the types of their attributes, their functions, and that members agree.
use Rattle.std.proofs.Common.{◌≡◌, ℕ, zero, suc, ◌+◌, ◌<◌, Bool, true, false, not, ◌&&◌, ◌||◌, List, [], ◌∷◌, ◌++◌, map, drop, length, Option, Some, None, refl, ap, ap₂, sym, ◌∙◌, subst, if◌then◌else◌}
use Rattle.std.proofs.lemmas.Bool.{and_from, and_parts, or_parts}
use Rattle.std.proofs.lemmas.List.Folds.{list_any-append}
use Rattle.std.proofs.lemmas.Option.{same_Some, slice_get_within}
use Rattle.std.specs.Prelude.{slice_get, is_some, nat_lt, codes}
use Rattle.std.specs.List.{list_all, list_any, filter_map, cons_option}
use Rattle.std.specs.Option.{option_map}
use Rattle.std.specs.Str.{bytes_eq}
use Rattle.py_syntax.specs.Statements.{StmtTree, ClassTree}
use Rattle.py_typed.specs.Sorts.{Sort}
use Rattle.py_typed.specs.Classes.{ClassEntry, bases_in, bases_of, has_class}
use Rattle.py_typed.specs.Order.{order}
use Rattle.py_typed.specs.Statements.{TypedModule}
use Rattle.py_typed.specs.WellTyped.{all_differ, is_called_in}
use Rattle.py_typed.specs.WellTypedExpr.{is_trait_in}
use Rattle.py_typed.specs.WellTypedModule.{names_of, differing, bases_typed, has_order}
use Rattle.py_check_context.specs.declared.scope.Meaning.{Meaning}
use Rattle.py_check_context.specs.Members.{Member, attribute, untyped, unknown, method}
use Rattle.py_check_classes.specs.declared.header.Header.{Header}
use Rattle.py_check_classes.specs.declared.header.Header.TheVariants.{Typed, Untyped}
use Rattle.py_check_classes.specs.declared.header.Shape.{Shape}
use Rattle.py_check_classes.specs.Names.{classes_in}
use Rattle.py_check_classes.specs.Rows.{differ}
use Rattle.py_check_classes.specs.Bodies.{has_attributes, has_init}
use Rattle.py_check_classes.specs.Headers.{has_type, is_a_trait, entry, are_traits, bases_fit, body_fits, headers_behind}
use Rattle.py_check_classes.specs.Laws.{IsSound, AreSound}
use Rattle.py_check_classes.proofs.HeaderLemmas.{entry_found, headers_sound}
use Rattle.py_check_classes.proofs.OrderLemmas.{same_orders}
use Rattle.py_check_members.specs.Members.{own_at, own_members, sort_of, function_of, typed_attribute, own_method, typed_entry, bare_entry, class_entry_of, entries_from, class_entries}
use Rattle.py_check_members_laws.specs.Laws.{members_of, is_method, is_plain_method}
use Rattle.py_check_members_laws.proofs.Rows.{none_more, swapped}
use Rattle.py_check_members_laws.proofs.Members.{names_differ, plain_classes}
use Rattle.py_check_members_laws.proofs.Entries.{parts_of_typed, as_many_headers, entry_at, entries_long, IsEntry, entry_of_class}

-- ---- names of members

pub not_so : (b : Bool) → not b ≡ true → b ≡ false
not_so true h = absurd (cc)
not_so false h = refl

or_none : (b c : Bool) → b ≡ false → c ≡ false → (b || c) ≡ false
or_none b c p q = cc

differ_inside : (xs ys : List (List ℕ)) (x : List ℕ) → all_differ (xs ++ ys) ≡ true → is_called_in (xs ++ ys) x ≡ false → all_differ (xs ++ x ∷ ys) ≡ true
differ_inside [] ys x h k = and_from (not (is_called_in ys x)) (all_differ ys) (ap not k) h
differ_inside (n ∷ xs) ys x h k =
    let p = or_parts (bytes_eq x n) (is_called_in (xs ++ ys) x) k in
    let q = and_parts (not (is_called_in (xs ++ ys) n)) (all_differ (xs ++ ys)) h in
    let r = or_parts (is_called_in xs n) (is_called_in ys n) (sym (list_any-append (bytes_eq n) xs ys) ∙ not_so (is_called_in (xs ++ ys) n) q.0) in
    let out : is_called_in (xs ++ x ∷ ys) n ≡ false = list_any-append (bytes_eq n) xs (x ∷ ys) ∙ or_none (is_called_in xs n) (bytes_eq n x || is_called_in ys n) r.0 (or_none (bytes_eq n x) (is_called_in ys n) (swapped n x ∙ p.0) r.1) in
    and_from (not (is_called_in (xs ++ x ∷ ys) n)) (all_differ (xs ++ x ∷ ys)) (ap not out) (differ_inside xs ys x q.1 p.1)

abbrev pub names : List (List ℕ × Member) → List (List ℕ)
names row = map (λ p. p.0) row

one_absent : {B : Type 0} (name x : List ℕ) (o : Option B) (rest : List (List ℕ × B)) → bytes_eq x name ≡ false → is_called_in (names_of rest) x ≡ false → is_called_in (names_of (cons_option (option_map (λ b. (name, b)) o) rest)) x ≡ false
one_absent name x None rest h k = k
one_absent name x (Some b) rest h k = or_none (bytes_eq x name) (is_called_in (names_of rest) x) h k

still_absent : {B : Type 0} (of : Member → Option B) (row : List (List ℕ × Member)) (x : List ℕ) → is_called_in (names row) x ≡ false → is_called_in (names_of (filter_map (λ p. option_map (λ b. (p.0, b)) (of p.1)) row)) x ≡ false
still_absent of [] x h = refl
still_absent {B = B} of (p ∷ row) x h =
    let q = or_parts (bytes_eq x p.0) (is_called_in (names row) x) h in
    one_absent p.0 x (of p.1) (filter_map (λ (r : List ℕ × Member). option_map (λ b. (r.0, b)) (of r.1)) row) q.0 (still_absent of row x q.1)

one_apart : (name : List ℕ) (member : Member) (A : List (List ℕ × Sort)) (B : List (List ℕ × ℕ)) → all_differ (names_of A ++ names_of B) ≡ true → is_called_in (names_of A ++ names_of B) name ≡ false
    → all_differ (names_of (cons_option (typed_attribute (name, member)) A) ++ names_of (cons_option (own_method (name, member)) B)) ≡ true
one_apart name (attribute t) A B h k = and_from (not (is_called_in (names_of A ++ names_of B) name)) (all_differ (names_of A ++ names_of B)) (ap not k) h
one_apart name (method f) A B h k = differ_inside (names_of A) (names_of B) name h k
one_apart name untyped A B h k = h
one_apart name (unknown place) A B h k = h

-- attributes and methods have names that differ where members have
pub kinds_apart : (row : List (List ℕ × Member)) → all_differ (names row) ≡ true → all_differ (names_of (filter_map typed_attribute row) ++ names_of (filter_map own_method row)) ≡ true
kinds_apart [] h = refl
kinds_apart (p ∷ row) h =
    let q = and_parts (not (is_called_in (names row) p.0)) (all_differ (names row)) h in
    let absent = not_so (is_called_in (names row) p.0) q.0 in
    let A = filter_map typed_attribute row in
    let B = filter_map own_method row in
    one_apart p.0 p.1 A B (kinds_apart row q.1) (list_any-append (bytes_eq p.0) (names_of A) (names_of B) ∙ or_none (is_called_in (names_of A) p.0) (is_called_in (names_of B) p.0) (still_absent sort_of row p.0 absent) (still_absent function_of row p.0 absent))

-- ---- traits

no_sort : (m : Member) → is_method m ≡ true → sort_of m ≡ None
no_sort (method f) h = refl
no_sort (attribute t) h = absurd (cc)
no_sort untyped h = absurd (cc)
no_sort (unknown place) h = absurd (cc)

no_attributes : (row : List (List ℕ × Member)) → list_all is_plain_method row ≡ true → filter_map typed_attribute row ≡ []
no_attributes [] h = refl
no_attributes (p ∷ row) h =
    let q = and_parts (is_plain_method p) (list_all is_plain_method row) h in
    let plain = and_parts (is_method p.1) (not (bytes_eq p.0 (codes "__init__"))) q.0 in
    ap (λ o. cons_option (option_map (λ t. (p.0, t)) o) (filter_map typed_attribute row)) (no_sort p.1 plain.0) ∙ no_attributes row q.1

abbrev is_init : List ℕ × ℕ → Bool
is_init p = bytes_eq p.0 (codes "__init__")

one_not_init : (name : List ℕ) (o : Option ℕ) (rest : List (List ℕ × ℕ)) → bytes_eq name (codes "__init__") ≡ false → list_any is_init rest ≡ false → list_any is_init (cons_option (option_map (λ f. (name, f)) o) rest) ≡ false
one_not_init name None rest h k = k
one_not_init name (Some f) rest h k = or_none (bytes_eq name (codes "__init__")) (list_any is_init rest) h k

no_init_method : (row : List (List ℕ × Member)) → list_all is_plain_method row ≡ true → list_any is_init (filter_map own_method row) ≡ false
no_init_method [] h = refl
no_init_method (p ∷ row) h =
    let q = and_parts (is_plain_method p) (list_all is_plain_method row) h in
    let plain = and_parts (is_method p.1) (not (bytes_eq p.0 (codes "__init__"))) q.0 in
    one_not_init p.0 (function_of p.1) (filter_map own_method row) (not_so (bytes_eq p.0 (codes "__init__")) plain.1) (no_init_method row q.1)

plain_body : (b : Bool) (c d : Bool) → not (b && (c || d)) ≡ true → b ≡ true → (c ≡ false) × (d ≡ false)
plain_body true false false h k = (refl, refl)
plain_body true false true h k = absurd (cc)
plain_body true true d h k = absurd (cc)
plain_body false c d h k = absurd (cc)

-- ---- classes

below_of : (headers : List Header) (n : ℕ) (bases : List ℕ) → list_all (λ b. nat_lt b n && has_type (slice_get headers b)) bases ≡ true → list_all (λ b. nat_lt b n) bases ≡ true
below_of headers n [] h = refl
below_of headers n (b ∷ bases) h =
    let p = and_parts (nat_lt b n && has_type (slice_get headers b)) (list_all (λ c. nat_lt c n && has_type (slice_get headers c)) bases) h in
    and_from (nat_lt b n) (list_all (λ c. nat_lt c n) bases) (and_parts (nat_lt b n) (has_type (slice_get headers b)) p.0).0 (below_of headers n bases p.1)

typed_by : (o : Option Header) → has_type o ≡ true → (s : Shape) × (o ≡ Some (Typed s))
typed_by None h = absurd (cc)
typed_by (Some (Typed s)) h = (s, refl)
typed_by (Some (Untyped u)) h = absurd (cc)

entry_bases : (o : Option Header) (name : List ℕ) (own : List (List ℕ × Member)) → bases_in (option_map entry o) ≡ (class_entry_of o name own).bases
entry_bases None name own = refl
entry_bases (Some (Typed s)) name own = refl
entry_bases (Some (Untyped u)) name own = refl

trait_entry : (o : Option Header) (name : List ℕ) (own : List (List ℕ × Member)) → is_a_trait o ≡ true → (class_entry_of o name own).is_trait ≡ true
trait_entry None name own h = absurd (cc)
trait_entry (Some (Typed s)) name own h = h
trait_entry (Some (Untyped u)) name own h = absurd (cc)

module _ (said : List ℕ → Option Meaning) (meanings : List ℕ → Meaning) (inner : ℕ → List ℕ → Meaning) (definitions : List StmtTree) where
  abbrev pub heads : List Header
  heads = headers_behind said [] (classes_in definitions)

  abbrev pub owns : List (List (List ℕ × Member))
  owns = own_members heads meanings inner definitions

  abbrev pub entries : List ClassEntry
  entries = class_entries heads definitions owns

  abbrev sound : AreSound heads
  sound = headers_sound said (classes_in definitions)

  bases_by : (n : ℕ) (o : Option ClassTree) → slice_get (classes_in definitions) n ≡ o → bases_of (map entry heads) n ≡ bases_of entries n
  bases_by n (Some c) q =
      ap bases_in (entry_found heads n) ∙ entry_bases (slice_get heads n) c.name (own_at owns n)
      ∙ sym (ap bases_in (entry_at heads owns 0 (classes_in definitions) n c q ∙ ap (λ k. Some (class_entry_of (slice_get heads k) c.name (own_at owns k))) (none_more n)))
  bases_by n None q = ap bases_in (entry_found heads n ∙ ap (option_map entry) (gone heads (as_many_headers said (classes_in definitions)))) ∙ sym (ap bases_in (gone entries (entries_long heads owns 0 (classes_in definitions))))
    where
      past : {A : Type 0} (xs : List ClassTree) (ys : List A) (i : ℕ) → slice_get xs i ≡ None → length ys ≡ length xs → slice_get ys i ≡ None
      past [] [] i z l = refl
      past [] (y ∷ ys) i z l = absurd (cc)
      past (x ∷ xs) [] i z l = refl
      past (x ∷ xs) (y ∷ ys) zero z l = absurd (cc)
      past (x ∷ xs) (y ∷ ys) (suc i) z l = past xs ys i z (less (length ys) (length xs) l)
        where
          less : (a b : ℕ) → suc a ≡ suc b → a ≡ b
          less a b e = cc

      gone : {A : Type 0} (ys : List A) → length ys ≡ length (classes_in definitions) → slice_get ys n ≡ None
      gone ys l = past (classes_in definitions) ys n q l

  pub bases_same : (n : ℕ) → bases_of (map entry heads) n ≡ bases_of entries n
  bases_same n = bases_by n (slice_get (classes_in definitions) n) refl

  pub order_same : (n : ℕ) → order (map entry heads) n ≡ order entries n
  order_same n = same_orders (map entry heads) entries sound.tree bases_same n

  -- a class of a module, each class of which has a type
  pub record IsClass (n : ℕ) (e : ClassEntry) : Type 0 where
    pub tree : ClassTree
    pub there : slice_get (classes_in definitions) n ≡ Some tree
    pub shape : Shape
    pub header : slice_get heads n ≡ Some (Typed shape)
    pub is : e ≡ typed_entry shape tree.name (own_at owns n)

  module _ (typed : (n : ℕ) → n < length heads → has_type (slice_get heads n) ≡ true) where
    pub class_of_entry : (n : ℕ) (e : ClassEntry) → slice_get entries n ≡ Some e → IsClass n e
    class_of_entry n e h =
        let r = entry_of_class heads owns (classes_in definitions) n e h in
        let low : n < length heads = subst (λ k. n < k) (entries_long heads owns 0 (classes_in definitions) ∙ sym (as_many_headers said (classes_in definitions))) (slice_get_within entries n e h) in
        let t = typed_by (slice_get heads n) (typed n low) in
        record { tree = r.tree; there = r.there; shape = t.0; header = t.1; is = r.is ∙ ap (λ o. class_entry_of o r.tree.name (own_at owns n)) t.1 }

    trait_there : (b : ℕ) → is_a_trait (slice_get heads b) ≡ true → is_trait_in (slice_get entries b) ≡ true
    trait_there b h = by (slice_get entries b) refl
      where
        by : (o : Option ClassEntry) → slice_get entries b ≡ o → is_trait_in o ≡ true
        by None q = refl
        by (Some e) q =
            let r = entry_of_class heads owns (classes_in definitions) b e q in
            ap (λ (z : ClassEntry). z.is_trait) r.is ∙ trait_entry (slice_get heads b) r.tree.name (own_at owns b) h

    all_traits : (bases : List ℕ) → are_traits heads bases ≡ true → list_all (λ b. is_trait_in (slice_get entries b)) bases ≡ true
    all_traits [] h = refl
    all_traits (b ∷ bases) h =
        let p = and_parts (is_a_trait (slice_get heads b)) (are_traits heads bases) h in
        and_from (is_trait_in (slice_get entries b)) (list_all (λ c. is_trait_in (slice_get entries c)) bases) (trait_there b p.0) (all_traits bases p.1)

    pub bases_below : (n : ℕ) (e : ClassEntry) → IsClass n e → list_all (λ b. nat_lt b n) e.bases ≡ true
    bases_below n e c = ap (λ (z : ClassEntry). list_all (λ b. nat_lt b n) z.bases) c.is ∙ below_of heads n c.shape.bases (sound.each n c.shape c.header).bases

    pub ordered : (n : ℕ) (e : ClassEntry) → IsClass n e → is_some (order entries n) ≡ true
    ordered n e c = ap is_some (sym (order_same n)) ∙ (sound.each n c.shape c.header).ordered

    pub members_apart : (n : ℕ) (e : ClassEntry) → IsClass n e → all_differ (names_of e.attributes ++ names_of e.methods) ≡ true
    members_apart n e c = ap (λ (z : ClassEntry). all_differ (names_of z.attributes ++ names_of z.methods)) c.is ∙ kinds_apart (own_at owns n) (names_differ heads meanings inner definitions n)

    -- ---- in a typed module of these classes

    module _ (is_identifier : List ℕ → Bool) (m : TypedModule) (same : m.classes.classes ≡ entries) where
      differing_same : (bases : List ℕ) → differ bases ≡ true → differing is_identifier m bases ≡ true
      differing_same [] h = refl
      differing_same (b ∷ bases) h =
          let p = and_parts (not (has_class b bases)) (differ bases) h in and_from (not (has_class b bases)) (differing is_identifier m bases) p.0 (differing_same bases p.1)

      pub bases_differ : (n : ℕ) (e : ClassEntry) → IsClass n e → differing is_identifier m e.bases ≡ true
      bases_differ n e c = ap (λ (z : ClassEntry). differing is_identifier m z.bases) c.is ∙ differing_same c.shape.bases (sound.each n c.shape c.header).apart

      traits_in : (bases : List ℕ) → are_traits heads bases ≡ true → list_all (λ b. is_trait_in (slice_get m.classes.classes b)) bases ≡ true
      traits_in bases h = ap (λ (l : List ClassEntry). list_all (λ b. is_trait_in (slice_get l b)) bases) same ∙ all_traits bases h

      with_none : (name : List ℕ) (trait : Bool) (bases : List ℕ) (attributes : List (List ℕ × Sort)) (methods : List (List ℕ × ℕ)) → list_all (λ b. is_trait_in (slice_get m.classes.classes b)) (if trait then bases else drop 1 bases) ≡ true
          → (trait ≡ true → (attributes ≡ []) × (list_any is_init methods ≡ false)) → bases_typed is_identifier m (record { name = name; is_trait = trait; bases = bases; attributes = attributes; methods = methods }) ≡ true
      with_none name true bases attributes methods h k =
          let none = k refl in
          ap (λ l. bases_typed is_identifier m (record { name = name; is_trait = true; bases = bases; attributes = l; methods = methods })) none.0
          ∙ and_from (list_all (λ b. is_trait_in (slice_get m.classes.classes b)) bases) (not (list_any is_init methods)) h (ap not none.1)
      with_none name false bases attributes methods h k = and_from (list_all (λ b. is_trait_in (slice_get m.classes.classes b)) (drop 1 bases)) true h refl

      pub bases_well_typed : (n : ℕ) (e : ClassEntry) → IsClass n e → bases_typed is_identifier m e ≡ true
      bases_well_typed n e c =
          let own = own_at owns n in
          let s = c.shape in
          ap (bases_typed is_identifier m) c.is
          ∙ with_none c.tree.name s.is_trait s.bases (filter_map typed_attribute own) (filter_map own_method own) (traits_in (if s.is_trait then s.bases else drop 1 s.bases) (sound.each n s c.header).fit)
          (λ t.
          let fits = (parts_of_typed said (classes_in definitions) n c.tree s c.there c.header).fits in
          let none = plain_body s.is_trait (has_attributes c.tree.body) (has_init c.tree.body) fits t in
          let plain = plain_classes heads meanings inner definitions n c.tree c.there none.0 none.1 in (no_attributes own plain, no_init_method own plain))

      pub has_an_order : (n : ℕ) (e : ClassEntry) → IsClass n e → has_order is_identifier m (order m.classes.classes n) ≡ true
      has_an_order n e c = ap (λ l. has_order is_identifier m (order l n)) same ∙ some_order (order entries n) (ordered n e c)
        where
          some_order : (o : Option (List ℕ)) → is_some o ≡ true → has_order is_identifier m o ≡ true
          some_order None h = absurd (cc)
          some_order (Some row) h = refl

-- Each class of a typed module is well typed, where each is whole, each method has a signature, and none fails for its members.
use Rattle.std.proofs.Common.{◌≡◌, ℕ, zero, suc, ◌+◌, ◌<◌, ◌≤◌, Bool, true, false, not, ◌&&◌, ◌||◌, cond, List, [], ◌∷◌, ◌++◌, map, drop, length, Option, Some, None, refl, ap, ap₂, sym, ◌∙◌, subst, arith, if◌then◌else◌, ◌⊎◌, inl, inr}
use Rattle.std.proofs.lemmas.Bool.{and_from, and_parts, or_parts, or_left, or_right, eq-eqb}
use Rattle.std.proofs.lemmas.List.Folds.{list_all-append, list_all-map}
use Rattle.std.proofs.lemmas.Option.{same_Some, slice_get-map, slice_get_within, slice_get-get_or}
use Rattle.std.specs.Prelude.{slice_get, is_some, nat_lt, codes, ◌==◌}
use Rattle.std.specs.List.{list_all, list_any, flat_map, filter_map, cons_option, AllByRecursion}
use Rattle.std.specs.Map.{lookup}
use Rattle.std.specs.Option.{option_map}
use Rattle.std.specs.Str.{bytes_eq}
use Rattle.py_syntax.specs.Statements.{StmtTree, FuncTree, ClassTree}
use Rattle.py_typed.specs.Sorts.{Sort}
use Rattle.py_typed.specs.Classes.{ClassEntry, Signature, has_class, bases_of}
use Rattle.py_typed.specs.Order.{order, listed_order, own_attributes}
use Rattle.py_typed.specs.Statements.{TypedFunc, TypedModule}
use Rattle.py_typed.specs.WellTyped.{all_differ, is_called_in}
use Rattle.py_typed.specs.WellTypedExpr.{is_value_type, is_same_place, is_trait_in, init_class}
use Rattle.py_typed.specs.WellTypedModule.{names_of, differing, bases_typed, method_typed, has_order, members_agree, class_typed, all_at, is_listed, is_init_of_trait}
use Rattle.class_layout_members.specs.Names.{own_methods}
use Rattle.class_layout_members.specs.Clashes as layout
use Rattle.class_layout_members.specs.Clashes.{Definition, OfType, OfSignature, members_along}
use Rattle.py_check_context.specs.declared.scope.Meaning.{Meaning}
use Rattle.py_check_context.specs.Context.{some_signature}
use Rattle.py_check_context.specs.Members.{Member, attribute, untyped, unknown, method}
use Rattle.py_check_names.specs.Outline.{held_by}
use Rattle.py_check_signatures.specs.declared.headers.Owner.TheVariants.{Class}
use Rattle.py_check_classes.specs.declared.header.Header.{Header}
use Rattle.py_check_classes.specs.Names.{classes_in}
use Rattle.py_check_classes.specs.Headers.{has_type, entry}
use Rattle.py_check_classes.specs.Laws.{AreSound}
use Rattle.py_check_classes.proofs.HeaderLemmas.{headers_sound}
use Rattle.py_check_classes.proofs.OrderLemmas.{order_below}
use Rattle.py_check_members.specs.Members.{Owns, row_of, own_at, own_member, ClassText, class_texts, class_entry_of, sort_of, function_of, typed_attribute, own_method}
use Rattle.py_check_overrides.specs.Overrides.{Own, Clash, fails, defined, own_of, listed, verdicts}
use Rattle.py_check_overrides.specs.Own as own
use Rattle.py_check_overrides.specs.Own.{own_in}
use Rattle.py_check_overrides.specs.Laws.{AreAmong, IsTable, NoneFails, is_signed}
use Rattle.py_check_overrides.proofs.LawLemmas.{all_agree}
use Rattle.py_check_overrides.proofs.MemberLemmas.{members_fit}
use Rattle.py_check_definitions.specs.Owners.{owners_from}
use Rattle.py_check_members_laws.specs.Laws.{IsMethodOf, are_defs_new}
use Rattle.py_check_members_laws.proofs.Rows.{none_more, zero_more, same_text, swapped, text_is_itself}
use Rattle.py_check_members_laws.proofs.Members.{own_there, names_differ, methods_are_functions, new_functions_are_methods}
use Rattle.py_check_members_laws.proofs.Places.{trees_of_texts}
use Rattle.py_check_members_laws.proofs.Entries.{as_many_headers, entry_at, entries_long}
use Rattle.py_check_members_laws.proofs.Typed.{not_so, names, heads, owns, entries, bases_same, order_same, IsClass, class_of_entry, bases_below, ordered, members_apart, bases_differ, bases_well_typed, has_an_order}

-- ---- each of a row of members is found by its name

abbrev IsFound : List (List ℕ × Member) → List ℕ × Member → Type 0
IsFound row p = lookup (bytes_eq p.0) row ≡ Some p.1

behind_one : (p : List ℕ × Member) (row xs : List (List ℕ × Member)) → is_called_in (names xs) p.0 ≡ false → AllByRecursion (IsFound row) xs → AllByRecursion (IsFound (p ∷ row)) xs
behind_one p row [] h k = tt
behind_one p row (x ∷ xs) h k =
    let q = or_parts (bytes_eq p.0 x.0) (is_called_in (names xs) p.0) h in
    (ap (λ b. cond b (Some p.1) (lookup (bytes_eq x.0) row)) (swapped x.0 p.0 ∙ q.0) ∙ k.0, behind_one p row xs q.1 k.1)

each_found : (row : List (List ℕ × Member)) → all_differ (names row) ≡ true → AllByRecursion (IsFound row) row
each_found [] h = tt
each_found (p ∷ row) h =
    let q = and_parts (not (is_called_in (names row) p.0)) (all_differ (names row)) h in
    (ap (λ b. cond b (Some p.1) (lookup (bytes_eq p.0) row)) (text_is_itself p.0), behind_one p row row (not_so (is_called_in (names row) p.0) q.0) (each_found row q.1))

-- ---- what holds of each of those that have something of their own

one_kept : {B : Type 0} (test : List ℕ × B → Bool) (name : List ℕ) (o : Option B) (rest : List (List ℕ × B)) → ((b : B) → o ≡ Some b → test (name, b) ≡ true) → list_all test rest ≡ true → list_all test (cons_option (option_map (λ b. (name, b)) o) rest) ≡ true
one_kept test name None rest h k = k
one_kept test name (Some b) rest h k = and_from (test (name, b)) (list_all test rest) (h b refl) k

kept_hold : {B : Type 0} (of : Member → Option B) (test : List ℕ × B → Bool) (Q : List ℕ × Member → Type 0) → ((p : List ℕ × Member) (b : B) → Q p → of p.1 ≡ Some b → test (p.0, b) ≡ true) → (row : List (List ℕ × Member)) → AllByRecursion Q row
    → list_all test (filter_map (λ p. option_map (λ b. (p.0, b)) (of p.1)) row) ≡ true
kept_hold of test Q each [] h = refl
kept_hold {B = B} of test Q each (p ∷ row) h = one_kept test p.0 (of p.1) (filter_map (λ (r : List ℕ × Member). option_map (λ b. (r.0, b)) (of r.1)) row) (λ b q. each p b h.0 q) (kept_hold of test Q each row h.1)

attribute_only : (m : Member) (t : Sort) → sort_of m ≡ Some t → m ≡ attribute t
attribute_only (attribute s) t h = ap attribute (same_Some s t h)
attribute_only untyped t h = absurd (cc)
attribute_only (unknown place) t h = absurd (cc)
attribute_only (method f) t h = absurd (cc)

method_only : (m : Member) (f : ℕ) → function_of m ≡ Some f → m ≡ method f
method_only (method g) f h = ap method (same_Some g f h)
method_only (attribute s) f h = absurd (cc)
method_only untyped f h = absurd (cc)
method_only (unknown place) f h = absurd (cc)

-- ---- what members say, of entries and of typing

-- the signature of a method is known, in typing and in its table
pub record HasSignature (signatures : List (Option Signature)) (table : List Signature) (f : ℕ) : Type 0 where
  pub signature : Signature
  pub known : slice_get signatures f ≡ Some (Some signature)
  pub kept : slice_get table f ≡ Some signature

module _ (signatures : List (Option Signature)) (table : List Signature) where
  abbrev Signs : List ℕ × Member → Type 0
  Signs p = (f : ℕ) → p.1 ≡ method f → HasSignature signatures table f

  says_method : (f : ℕ) → (s : HasSignature signatures table f) → own.method_says signatures f ≡ Some (OfSignature (slice_get table f))
  says_method f s = ap (λ o. option_map (λ x. OfSignature (Some x)) (some_signature o)) s.known ∙ ap (λ o. Some (OfSignature o)) (sym s.kept)

  abbrev says : List (List ℕ × Member) → List (List ℕ × Definition)
  says row = defined (own_in signatures row)

  abbrev Sides : (List ℕ × Definition → Bool) → List (List ℕ × Member) → Type 0
  Sides test row =
      (list_all test (map (λ p. (p.0, OfType p.1)) (filter_map typed_attribute row)) ≡ true)
      × (list_all test (map (λ p. (p.0, OfSignature (slice_get table p.1))) (filter_map own_method row)) ≡ true)

  one_more : (test : List ℕ × Definition → Bool) (name : List ℕ) (m : Member) (row : List (List ℕ × Member)) → Signs (name, m) → (list_all test (says row) ≡ true → Sides test row) → list_all test (says ((name, m) ∷ row)) ≡ true → Sides test ((name, m) ∷ row)
  one_more test name (attribute t) row s next h =
      let q = and_parts (test (name, OfType t)) (list_all test (says row)) h in
      let r = next q.1 in
      (and_from (test (name, OfType t)) (list_all test (map (λ (p : List ℕ × Sort). (p.0, OfType p.1)) (filter_map typed_attribute row))) q.0 r.0, r.1)
  one_more test name untyped row s next h = next h
  one_more test name (unknown place) row s next h = next h
  one_more test name (method f) row s next h =
      let d = OfSignature (slice_get table f) in
      let k : list_all test ((name, d) ∷ says row) ≡ true = ap (λ o. list_all test (cons_option (option_map (λ (x : Definition). (name, x)) o) (says row))) (sym (says_method f (s f refl))) ∙ h in
      let q = and_parts (test (name, d)) (list_all test (says row)) k in
      let r = next q.1 in
      (r.0, and_from (test (name, d)) (list_all test (map (λ (p : List ℕ × ℕ). (p.0, OfSignature (slice_get table p.1))) (filter_map own_method row))) q.0 r.1)

  -- what passes of what typing knows passes of what entries have
  say_less : (test : List ℕ × Definition → Bool) (row : List (List ℕ × Member)) → AllByRecursion Signs row → list_all test (says row) ≡ true → Sides test row
  say_less test [] s h = (refl, refl)
  say_less test (p ∷ row) s h = one_more test p.0 p.1 row s.0 (say_less test row s.1) h

  one_signed : (name : List ℕ) (m : Member) (row : List (List ℕ × Member)) → list_all (λ p. is_signed p.1) (says row) ≡ true → list_all (λ p. is_signed p.1) (says ((name, m) ∷ row)) ≡ true
  one_signed name (attribute t) row h = h
  one_signed name untyped row h = h
  one_signed name (unknown place) row h = h
  one_signed name (method f) row h = by (some_signature (slice_get signatures f))
    where
      by : (o : Option Signature) → list_all (λ p. is_signed p.1) (cons_option (option_map (λ (x : Definition). (name, x)) (option_map (λ s. OfSignature (Some s)) o)) (says row)) ≡ true
      by None = h
      by (Some s) = h

  all_signed : (row : List (List ℕ × Member)) → list_all (λ p. is_signed p.1) (says row) ≡ true
  all_signed [] = refl
  all_signed (p ∷ row) = one_signed p.0 p.1 row (all_signed row)

-- ---- classes

all_weaker : {A : Type 0} (P Q : A → Type 0) → ((x : A) → P x → Q x) → (xs : List A) → AllByRecursion P xs → AllByRecursion Q xs
all_weaker P Q h [] k = tt
all_weaker P Q h (x ∷ xs) k = (h x k.0, all_weaker P Q h xs k.1)

listed_there : (o : Option (List ℕ)) → is_some o ≡ true → o ≡ Some (listed_order o)
listed_there None h = absurd (cc)
listed_there (Some row) h = refl

all_found : (cs : List ClassEntry) (e : ClassEntry) (row : List ℕ) → ((x : ℕ) → has_class x row ≡ true → x < length cs) → list_all (λ d. is_some (slice_get cs d)) row ≡ true
all_found cs e [] h = refl
all_found cs e (x ∷ row) h =
    and_from (is_some (slice_get cs x)) (list_all (λ d. is_some (slice_get cs d)) row)
    (ap is_some (slice_get-get_or cs x e (h x (or_left (x == x) (has_class x row) (eq-eqb x x refl)))))
    (all_found cs e row (λ y k. h y (or_right (x == y) (has_class y row) k)))

ten : (a b c d e f g h i j : Bool) → a ≡ true → b ≡ true → c ≡ true → d ≡ true → e ≡ true → f ≡ true → g ≡ true → h ≡ true → i ≡ true → j ≡ true → (a && b && c && d && e && f && g && h && i && j) ≡ true
ten true true true true true true true true true true p0 p1 p2 p3 p4 p5 p6 p7 p8 p9 = refl
ten _ _ _ _ _ _ _ _ _ _ p0 p1 p2 p3 p4 p5 p6 p7 p8 p9 = absurd (cc)

number_is_itself : (n : ℕ) → (n == n) ≡ true
number_is_itself n = eq-eqb n n refl

all_at_each : {A : Type 0} (test : ℕ → A → Bool) (i : ℕ) (xs : List A) → ((k : ℕ) (x : A) → slice_get xs k ≡ Some x → test (i + k) x ≡ true) → all_at i test xs ≡ true
all_at_each test i [] h = refl
all_at_each test i (x ∷ xs) h =
    and_from (test i x) (all_at (suc i) test xs) (ap (λ k. test k x) (sym (zero_more i)) ∙ h 0 x refl) (all_at_each test (suc i) xs (λ k y q. ap (λ n. test n y) (moved i k) ∙ h (suc k) y q))
  where
    moved : (i k : ℕ) → suc i + k ≡ i + suc k
    moved i k = omega arith

-- a member that is found by its name is among those with something of their own
in_row : (name : List ℕ) (f : ℕ) (row : List (List ℕ × Member)) → lookup (bytes_eq name) row ≡ Some (method f) → list_any (λ p. (p.1 == f) && bytes_eq p.0 name) (filter_map own_method row) ≡ true
in_row name f [] h = absurd (cc)
in_row name f (p ∷ row) h = by (bytes_eq name p.0) refl h (in_row name f row)
  where
    test : List ℕ × ℕ → Bool
    test r = (r.1 == f) && bytes_eq r.0 name

    over : (o : Option ℕ) → list_any test (filter_map own_method row) ≡ true → list_any test (cons_option (option_map (λ g. (p.0, g)) o) (filter_map own_method row)) ≡ true
    over None k = k
    over (Some g) k = or_right (test (p.0, g)) (list_any test (filter_map own_method row)) k

    here : (m : Member) → m ≡ method f → bytes_eq p.0 name ≡ true → list_any test (cons_option (option_map (λ g. (p.0, g)) (function_of m)) (filter_map own_method row)) ≡ true
    here m e k =
        ap (λ z. list_any test (cons_option (option_map (λ (g : ℕ). (p.0, g)) (function_of z)) (filter_map own_method row))) e
        ∙ or_left (test (p.0, f)) (list_any test (filter_map own_method row)) (and_from (f == f) (bytes_eq p.0 name) (number_is_itself f) k)

    by : (b : Bool) → bytes_eq name p.0 ≡ b → cond b (Some p.1) (lookup (bytes_eq name) row) ≡ Some (method f) → (lookup (bytes_eq name) row ≡ Some (method f) → list_any test (filter_map own_method row) ≡ true) → list_any test (filter_map own_method (p ∷ row)) ≡ true
    by true e q next = here p.1 (same_Some p.1 (method f) q) (swapped p.0 name ∙ e)
    by false e q next = over (function_of p.1) (next q)

-- the function of a number is that of this name, in the class of this number
pub record IsFunctionOf (funcs : List TypedFunc) (f : ℕ) (name : List ℕ) (class : ℕ) : Type 0 where
  pub func : TypedFunc
  pub there : slice_get funcs f ≡ Some func
  pub named : func.name ≡ name
  pub owned : func.class ≡ Some class

module _ (said : List ℕ → Option Meaning) (meanings : List ℕ → Meaning) (inner : ℕ → List ℕ → Meaning) (definitions : List StmtTree) where
  abbrev hs : List Header
  hs = heads said meanings inner definitions

  abbrev os : Owns
  os = owns said meanings inner definitions

  abbrev es : List ClassEntry
  es = entries said meanings inner definitions

  sound : AreSound hs
  sound = headers_sound said (classes_in definitions)

  row_found : (n : ℕ) → AllByRecursion (IsFound (own_at os n)) (own_at os n)
  row_found n = each_found (own_at os n) (names_differ hs meanings inner definitions n)

  -- what a typed module has of these classes: each of them has a type, names of members pass, attributes are of value types, and
  -- functions stand at their numbers with their signatures
  pub record HasClasses (is_identifier : List ℕ → Bool) (m : TypedModule) (signatures : List (Option Signature)) : Type 0 where
    pub same : m.classes.classes ≡ es
    pub typed : (n : ℕ) → n < length hs → has_type (slice_get hs n) ≡ true
    pub named : (n : ℕ) (e : ClassEntry) → slice_get es n ≡ Some e → (is_identifier e.name ≡ true) × (list_all is_identifier (names_of e.attributes ++ names_of e.methods) ≡ true)
    pub types : (n : ℕ) (a : List ℕ) (t : Sort) → own_member os a n ≡ Some (attribute t) → is_value_type (length m.classes.classes) t ≡ true
    pub functions : (f n : ℕ) (tree : FuncTree) → slice_get (flat_map held_by definitions) f ≡ Some tree → slice_get (owners_from hs 0 definitions) f ≡ Some (Class (Some n)) → IsFunctionOf m.funcs f tree.name n
    pub signed : (f : ℕ) (tree : FuncTree) → slice_get (flat_map held_by definitions) f ≡ Some tree → HasSignature signatures m.classes.signatures f
    pub none : (n : ℕ) (f : Clash) → slice_get (verdicts hs (map (own_in signatures) os)) n ≡ Some (fails f) → ⊥

  -- a class with a member has an entry
  entry_there : (n : ℕ) (a : List ℕ) (x : Member) → own_member os a n ≡ Some x → (e : ClassEntry) × (slice_get es n ≡ Some e)
  entry_there n a x h =
      let o = own_there hs meanings inner definitions n a x h in
      let there : slice_get (classes_in definitions) n ≡ Some o.text.tree =
      ap (λ l. slice_get l n) (sym (trees_of_texts 0 definitions)) ∙ slice_get-map (λ (y : ClassText). y.tree) (class_texts 0 definitions) n ∙ ap (option_map (λ (y : ClassText). y.tree)) o.found in
      (class_entry_of (slice_get hs (0 + n)) o.text.tree.name (own_at os (0 + n)), entry_at hs os 0 (classes_in definitions) n o.text.tree there)

  -- a function of the module is one of this text, in a class
  pub record IsOwned (i : ℕ) (F : TypedFunc) : Type 0 where
    pub class : ℕ
    pub tree : FuncTree
    pub there : slice_get (flat_map held_by definitions) i ≡ Some tree
    pub owned : slice_get (owners_from hs 0 definitions) i ≡ Some (Class (Some class))
    pub named : F.name ≡ tree.name
    pub inside : F.class ≡ Some class

  module _ (is_identifier : List ℕ → Bool) (m : TypedModule) (signatures : List (Option Signature)) (w : HasClasses is_identifier m signatures) where
    abbrev table : List Signature
    table = m.classes.signatures

    abbrev rows : List (List Own)
    rows = map (own_in signatures) os

    row_signs : (n : ℕ) → AllByRecursion (Signs signatures table) (own_at os n)
    row_signs n =
        all_weaker (IsFound (own_at os n)) (Signs signatures table)
        (λ p found f e. let d = methods_are_functions hs meanings inner definitions n f p.0 (found ∙ ap Some e) in w.signed f d.tree d.there) (own_at os n) (row_found n)

    own_same : (n : ℕ) → own_of rows n ≡ own_in signatures (own_at os n)
    own_same n = ap listed (slice_get-map (own_in signatures) os n) ∙ by (slice_get os n)
      where
        by : (o : Option (List (List ℕ × Member))) → listed (option_map (own_in signatures) o) ≡ own_in signatures (row_of o)
        by None = refl
        by (Some row) = refl

    abbrev sides : Option ClassEntry → List (List ℕ × Definition)
    sides o = map (λ p. (p.0, OfType p.1)) (own_attributes o) ++ map (λ p. (p.0, OfSignature (slice_get table p.1))) (own_methods o)

    -- what passes of all that typing knows of a class passes of what its entry has
    of_class : (test : List ℕ × Definition → Bool) (n : ℕ) → list_all test (says signatures table (own_at os n)) ≡ true → list_all test (layout.own_members m.classes n) ≡ true
    of_class test n h = ap (λ l. list_all test (sides (slice_get l n))) w.same ∙ by (slice_get es n) refl
      where
        by : (o : Option ClassEntry) → slice_get es n ≡ o → list_all test (sides o) ≡ true
        by None q = refl
        by (Some e) q =
            let c = class_of_entry said meanings inner definitions w.typed n e q in
            let own = own_at os n in
            let r = say_less signatures table test own (row_signs n) h in
            ap (λ (z : ClassEntry). list_all test (sides (Some z))) c.is
            ∙ list_all-append test (map (λ (p : List ℕ × Sort). (p.0, OfType p.1)) (filter_map typed_attribute own)) (map (λ (p : List ℕ × ℕ). (p.0, OfSignature (slice_get table p.1))) (filter_map own_method own))
            ∙ and_from (list_all test (map (λ (p : List ℕ × Sort). (p.0, OfType p.1)) (filter_map typed_attribute own))) (list_all test (map (λ (p : List ℕ × ℕ). (p.0, OfSignature (slice_get table p.1))) (filter_map own_method own))) r.0 r.1

    is_table : IsTable hs rows m.classes
    is_table = record {
      long = ap length w.same ∙ long;
      bases = λ n. bases_same said meanings inner definitions n ∙ ap (λ l. bases_of l n) (sym w.same);
      says = λ n test h. of_class test n (ap (λ l. list_all test (defined l)) (sym (own_same n)) ∙ h);
    }
      where
        long : length es ≡ length hs
        long = entries_long hs os 0 (classes_in definitions) ∙ sym (as_many_headers said (classes_in definitions))

    signed_along : (row : List ℕ) → list_all (λ p. is_signed p.1) (members_along m.classes row) ≡ true
    signed_along [] = refl
    signed_along (n ∷ row) =
        list_all-append (λ (p : List ℕ × Definition). is_signed p.1) (layout.own_members m.classes n) (members_along m.classes row)
        ∙ and_from (list_all (λ (p : List ℕ × Definition). is_signed p.1) (layout.own_members m.classes n)) (list_all (λ (p : List ℕ × Definition). is_signed p.1) (members_along m.classes row))
        (of_class (λ p. is_signed p.1) n (all_signed signatures table (own_at os n))) (signed_along row)

    module _ (n : ℕ) (e : ClassEntry) (there : slice_get es n ≡ Some e) where
      class : IsClass said meanings inner definitions n e
      class = class_of_entry said meanings inner definitions w.typed n e there

      low : n < length es
      low = slice_get_within es n e there

      low_header : n < length hs
      low_header = subst (λ k. n < k) (entries_long hs os 0 (classes_in definitions) ∙ sym (as_many_headers said (classes_in definitions))) low

      order_there : order (map entry hs) n ≡ Some (listed_order (order es n))
      order_there = order_same said meanings inner definitions n ∙ listed_there (order es n) (ordered said meanings inner definitions w.typed n e class)

      row_there : list_all (λ d. is_some (slice_get es d)) (listed_order (order es n)) ≡ true
      row_there = all_found es e (listed_order (order es n)) (λ x h. let k = order_below (map entry hs) sound.tree.falls n x (listed_order (order es n)) order_there h in omega (arith, k, low))

      agreeing : list_all (members_agree is_identifier m (listed_order (order m.classes.classes n))) (listed_order (order m.classes.classes n)) ≡ true
      agreeing =
          let row = listed_order (order m.classes.classes n) in
          members_fit is_identifier m row (all_agree hs rows m.classes sound is_table (record { typed = w.typed; none = w.none }) n low_header)
          (ap (λ l. list_all (λ d. is_some (slice_get l d)) (listed_order (order l n))) w.same ∙ row_there) (signed_along row)

      value_types : list_all (is_value_type (length m.classes.classes)) (map (λ p. p.1) e.attributes) ≡ true
      value_types =
          ap (λ (z : ClassEntry). list_all (is_value_type (length m.classes.classes)) (map (λ (p : List ℕ × Sort). p.1) z.attributes)) class.is
          ∙ list_all-map (is_value_type (length m.classes.classes)) (λ (p : List ℕ × Sort). p.1) (filter_map typed_attribute (own_at os n))
          ∙ kept_hold sort_of (λ p. is_value_type (length m.classes.classes) p.1) (IsFound (own_at os n)) (λ p t found q. w.types n p.0 t (found ∙ ap Some (attribute_only p.1 t q))) (own_at os n) (row_found n)

      one_method : (p : List ℕ × Member) (f : ℕ) → IsFound (own_at os n) p → function_of p.1 ≡ Some f → method_typed is_identifier m n (p.0, f) ≡ true
      one_method p f found q =
          let d = methods_are_functions hs meanings inner definitions n f p.0 (found ∙ ap Some (method_only p.1 f q)) in
          let g = w.functions f n d.tree d.there d.owned in
          ap its g.there ∙ and_from (bytes_eq g.func.name p.0) (is_same_place g.func.class (Some n)) (ap (λ x. bytes_eq x p.0) (g.named ∙ d.named) ∙ text_is_itself p.0) (ap (λ o. is_same_place o (Some n)) g.owned ∙ number_is_itself n)
        where
          its : Option TypedFunc → Bool
          its None = false
          its (Some f) = bytes_eq f.name p.0 && is_same_place f.class (Some n)

      methods_good : list_all (method_typed is_identifier m n) e.methods ≡ true
      methods_good =
          ap (λ (z : ClassEntry). list_all (method_typed is_identifier m n) z.methods) class.is
          ∙ kept_hold function_of (method_typed is_identifier m n) (IsFound (own_at os n)) one_method (own_at os n) (row_found n)

      -- THE CLASS is well typed
      pub class_formed : class_typed is_identifier m n e ≡ true
      class_formed =
          let names_pass = w.named n e there in
          let row = listed_order (order m.classes.classes n) in
          ten (is_identifier e.name) (list_all (λ b. nat_lt b n) e.bases) (differing is_identifier m e.bases) (bases_typed is_identifier m e) (list_all is_identifier (names_of e.attributes ++ names_of e.methods)) (all_differ (names_of e.attributes ++ names_of e.methods))
          (list_all (is_value_type (length m.classes.classes)) (map (λ (p : List ℕ × Sort). p.1) e.attributes)) (list_all (method_typed is_identifier m n) e.methods) (has_order is_identifier m (order m.classes.classes n)) (list_all (members_agree is_identifier m row) row) names_pass.0
          (bases_below said meanings inner definitions w.typed n e class) (bases_differ said meanings inner definitions w.typed is_identifier m w.same n e class) (bases_well_typed said meanings inner definitions w.typed is_identifier m w.same n e class) names_pass.1
          (members_apart said meanings inner definitions w.typed n e class) value_types methods_good (has_an_order said meanings inner definitions w.typed is_identifier m w.same n e class) agreeing

    -- THE CLASSES are well typed
    pub all_formed : all_at 0 (class_typed is_identifier m) m.classes.classes ≡ true
    all_formed =
        all_at_each (class_typed is_identifier m) 0 m.classes.classes
        (λ n e h. ap (λ k. class_typed is_identifier m k e) (none_more n) ∙ class_formed n e (ap (λ l. slice_get l n) (sym w.same) ∙ h))

    module _ (new : list_all (λ x. are_defs_new [] x.body) (classes_in definitions) ≡ true) where
      function_listed : (i : ℕ) (F : TypedFunc) → IsOwned i F → is_listed is_identifier m i F ≡ true
      function_listed i F o =
          let f = new_functions_are_methods hs meanings inner definitions new o.class i o.tree o.there o.owned in
          let e = entry_there o.class o.tree.name (method i) f in
          let c = class_of_entry said meanings inner definitions w.typed o.class e.0 e.1 in
          ap in_class o.inside ∙ ap (λ l. is_own (slice_get l o.class)) w.same ∙ ap is_own e.1 ∙ ap (λ (z : ClassEntry). list_any (λ (p : List ℕ × ℕ). (p.1 == i) && bytes_eq p.0 F.name) z.methods) c.is
          ∙ ap (λ x. list_any (λ (p : List ℕ × ℕ). (p.1 == i) && bytes_eq p.0 x) (filter_map own_method (own_at os o.class))) o.named ∙ in_row o.tree.name i (own_at os o.class) f
        where
          is_own : Option ClassEntry → Bool
          is_own None = false
          is_own (Some entry) = list_any (λ p. (p.1 == i) && bytes_eq p.0 F.name) entry.methods

          in_class : Option ℕ → Bool
          in_class None = true
          in_class (Some n) = is_own (slice_get m.classes.classes n)

      listed_either : (i : ℕ) (F : TypedFunc) → (F.class ≡ None) ⊎ IsOwned i F → is_listed is_identifier m i F ≡ true
      listed_either i F (inl h) = ap in_class h
        where
          is_own : Option ClassEntry → Bool
          is_own None = false
          is_own (Some entry) = list_any (λ p. (p.1 == i) && bytes_eq p.0 F.name) entry.methods

          in_class : Option ℕ → Bool
          in_class None = true
          in_class (Some n) = is_own (slice_get m.classes.classes n)
      listed_either i F (inr o) = function_listed i F o

      -- THE FUNCTIONS of classes are among their methods
      pub all_listed : ((i : ℕ) (F : TypedFunc) → slice_get m.funcs i ≡ Some F → (F.class ≡ None) ⊎ IsOwned i F) → all_at 0 (is_listed is_identifier m) m.funcs ≡ true
      all_listed h = all_at_each (is_listed is_identifier m) 0 m.funcs (λ i F q. ap (λ k. is_listed is_identifier m k F) (none_more i) ∙ listed_either i F (h i F q))

      -- ---- an `__init__` is in no trait

      some_init : (i : ℕ) (name : List ℕ) (row : List (List ℕ × ℕ)) → bytes_eq name (codes "__init__") ≡ true → list_any (λ p. (p.1 == i) && bytes_eq p.0 name) row ≡ true → list_any (λ p. bytes_eq p.0 (codes "__init__")) row ≡ true
      some_init i name [] e h = absurd (cc)
      some_init i name (p ∷ row) e h = by ((p.1 == i) && bytes_eq p.0 name) refl h (some_init i name row e)
        where
          by : (b : Bool) → ((p.1 == i) && bytes_eq p.0 name) ≡ b → (b || list_any (λ p. (p.1 == i) && bytes_eq p.0 name) row) ≡ true → (list_any (λ p. (p.1 == i) && bytes_eq p.0 name) row ≡ true → list_any (λ p. bytes_eq p.0 (codes "__init__")) row ≡ true) → (bytes_eq p.0 (codes "__init__") || list_any (λ p. bytes_eq p.0 (codes "__init__")) row) ≡ true
          by true q r next =
              or_left (bytes_eq p.0 (codes "__init__")) (list_any (λ (x : List ℕ × ℕ). bytes_eq x.0 (codes "__init__")) row)
              (ap (λ x. bytes_eq x (codes "__init__")) (same_text p.0 name (and_parts (p.1 == i) (bytes_eq p.0 name) q).1) ∙ e)
          by false q r next = or_right (bytes_eq p.0 (codes "__init__")) (list_any (λ (x : List ℕ × ℕ). bytes_eq x.0 (codes "__init__")) row) (next r)

      no_trait : (a b c d : Bool) → (a && (not d || (b && not c))) ≡ true → c ≡ true → d ≡ false
      no_trait a b c true h k = absurd (by a b c h k)
        where
          by : (a b c : Bool) → (a && (b && not c)) ≡ true → c ≡ true → ⊥
          by a b false h k = absurd (cc)
          by true true true h k = absurd (cc)
          by true false true h k = absurd (cc)
          by false b true h k = absurd (cc)
      no_trait a b c false h k = refl

      abbrev is_none : {A : Type 0} → List A → Bool
      is_none [] = true
      is_none (a ∷ more) = false

      init_in_class : (i : ℕ) (F : TypedFunc) (o : IsOwned i F) → bytes_eq F.name (codes "__init__") ≡ true → is_trait_in (slice_get m.classes.classes o.class) ≡ false
      init_in_class i F o h =
          let f = new_functions_are_methods hs meanings inner definitions new o.class i o.tree o.there o.owned in
          let e = entry_there o.class o.tree.name (method i) f in
          let c = class_of_entry said meanings inner definitions w.typed o.class e.0 e.1 in
          let held : list_any (λ (p : List ℕ × ℕ). (p.1 == i) && bytes_eq p.0 F.name) e.0.methods ≡ true =
          ap (λ (z : ClassEntry). list_any (λ (p : List ℕ × ℕ). (p.1 == i) && bytes_eq p.0 F.name) z.methods) c.is
          ∙ ap (λ x. list_any (λ (p : List ℕ × ℕ). (p.1 == i) && bytes_eq p.0 x) (filter_map own_method (own_at os o.class))) o.named ∙ in_row o.tree.name i (own_at os o.class) f in
          ap (λ l. is_trait_in (slice_get l o.class)) w.same ∙ ap is_trait_in e.1
          ∙ no_trait (list_all (λ b. is_trait_in (slice_get m.classes.classes b)) (if e.0.is_trait then e.0.bases else drop 1 e.0.bases)) (is_none e.0.attributes) (list_any (λ (p : List ℕ × ℕ). bytes_eq p.0 (codes "__init__")) e.0.methods) e.0.is_trait
          (bases_well_typed said meanings inner definitions w.typed is_identifier m w.same o.class e.0 c) (some_init i F.name e.0.methods h held)

      pub init_of_no_trait : (i : ℕ) (F : TypedFunc) → IsOwned i F → is_init_of_trait m.classes.classes (init_class F) ≡ false
      init_of_no_trait i F o = by (bytes_eq F.name (codes "__init__")) refl
        where
          by : (b : Bool) → bytes_eq F.name (codes "__init__") ≡ b → is_init_of_trait m.classes.classes (if b then F.class else None) ≡ false
          by true q = ap (is_init_of_trait m.classes.classes) o.inside ∙ init_in_class i F o q
          by false q = refl

-- What is known of targets and of a value's type where a value is bound to them.
use Rattle.std.proofs.Common.{◌≡◌, ℕ, suc, Bool, true, false, List, [], ◌∷◌, length, Option, Some, None, Result, Ok, Err, refl, ap, sym, ◌∙◌, if◌then◌else◌, nat_eq, eqb-true}
use Rattle.std.proofs.lemmas.Option.{same_Some}
use Rattle.std.specs.Option.{option_map}
use Rattle.py_syntax.specs.declared.token.Span.{Span}
use Rattle.py_syntax.specs.declared.expression.BinOp.{BinOp}
use Rattle.py_syntax.specs.Expressions as tree
use Rattle.py_syntax.specs.Expressions.{ExprTree, at}
use Rattle.py_typed.specs.Sorts as sort
use Rattle.py_typed.specs.Sorts.{Sort, Sorts, listed_sorts}
use Rattle.py_typed.specs.Classes.{ClassEntry}
use Rattle.py_typed.specs.Expressions.{TypedExpr, type_of}
use Rattle.py_typed.specs.Statements as act
use Rattle.py_typed.specs.Statements.{TypedTarget, TypedAct}
use Rattle.py_check_context.specs.Context.{Context}
use Rattle.py_check_flow.specs.Bindings.{name_in, marked}
use Rattle.py_check_messages.specs.Seen.{Message, Seen, judged, rule, ruled}
use Rattle.py_check_messages.specs.Messages.{no_target, cannot_assign, index_target}
use Rattle.py_check_coercions.specs.Rows.{first_of}
use Rattle.py_check_operators.specs.Operators.{arithmetic}
use Rattle.py_check_values.specs.Aims.{Aim, held, first, barred, unwritten, lacking, misplaced}
use Rattle.py_check_values.specs.Assignments.{lacking_fault, binding_fault, as_bound, assignment, first_barred, first_unwritten, items_for, items_fault, unpacking_fault}
use Rattle.py_check_places.specs.Places.{Known, bind_names}
use Rattle.py_check_places.specs.Shapes.{is_row, is_flat, leaves, target_names, some_parts, parts_for}
use Rattle.py_check_targets.specs.Targets.{is_placed, targets_of, are_placed, parts_fault, several_fault, asked_fault, taking_fault, one_assigned, value_assigned, act_of, assigned, placed, fault_or, annotation_fault, given_after, given, target_of, written_back, of_operation, updated, next_part, more_parts, single_aim, beyond, aims, is_name_aim, declared_own, given_own, updated_lacking}
use Rattle.py_check_places.specs.Shapes.{bind_target}
use Rattle.py_check_loops.specs.Loops.{Course, course_type, course_items, are_names, head_fault, head}
use Rattle.py_check_loops.specs.Loops as loops
use Rattle.py_check_laws.proofs.Given.{ok_same, if_then, unless_ok, mapped_none, row_given, rule_given}
use Rattle.std.specs.List.{list_all}
use Rattle.py_typed.proofs.FitLemmas.{and_right}
use Rattle.py_check_targets.specs.Attributes.{own_attribute}
use Rattle.py_check_context.specs.Members.{Inside}
use Rattle.py_check_assignments.specs.Assignments.{row_refused}

-- ---- targets

module _ (C : Context) where
  -- several targets are bound to the parts of a value
  pub row_bound : (ok : Bool) (k : Known) (target : ExprTree) (t : Sort) (ts : List Sort) → is_row target ≡ true → items_for t (length (leaves target)) ≡ Some ts → bind_target C ok k target (Some t) ≡ bind_names C ok k (target_names target) ts
  row_bound ok k target t ts h e =
      ap (λ (b : Bool). bind_names C ok k (target_names target) (parts_for b (length (leaves target)) t)) h
      ∙ ap (λ (o : Option (List Sort)). bind_names C ok k (target_names target) (some_parts o)) e

  pub aims_length : (k : Known) (ts : Option (List Sort)) (es : List ExprTree) (l : List Aim) → (aims C k ts es).got ≡ Some l → length l ≡ length es
  aims_length k ts [] l e = ap length (sym (same_Some [] l e))
  aims_length k ts (x ∷ es) l e =
      let behind = beyond C k (name_in x) (next_part ts) in
      let r = row_given (single_aim C k (name_in x) x) (aims C behind (more_parts ts) es) l e in
      ap length (sym r.4) ∙ ap suc (aims_length behind (more_parts ts) es r.1 r.3)

-- ---- a value's type for targets

pub first_none : {A : Type 0} (a b : Option A) → first_of a b ≡ None → (a ≡ None) × (b ≡ None)
first_none None b e = (refl, e)
first_none (Some a) b e = absurd (cc)

-- a value for several targets is a tuple of as many parts
pub items_are : (s : Sort) (n : ℕ) (ss : List Sort) → items_for s n ≡ Some ss → (ts : Sorts) × (s ≡ sort.TupleOf ts) × (listed_sorts ts ≡ ss) × (length ss ≡ n)
items_are (sort.TupleOf ts) n ss e = by (nat_eq (length (listed_sorts ts)) n) refl e
  where
    by : (b : Bool) → nat_eq (length (listed_sorts ts)) n ≡ b → (if b then Some (listed_sorts ts) else None) ≡ Some ss → (us : Sorts) × (sort.TupleOf ts ≡ sort.TupleOf us) × (listed_sorts us ≡ ss) × (length ss ≡ n)
    by true q r = let same = same_Some (listed_sorts ts) ss r in (ts, refl, same, ap length (sym same) ∙ eqb-true (length (listed_sorts ts)) n q)
    by false q r = absurd (cc)
items_are _ n ss e = absurd (cc)

-- no item that is not assigned, and no attribute that nothing declares
abbrev pub is_itemless : List Aim → Bool
is_itemless [] = true
is_itemless (unwritten t ∷ l) = false
is_itemless (misplaced t ∷ l) = false
is_itemless (lacking t x ∷ l) = false
is_itemless (a ∷ l) = is_itemless l

itemless_of : (classes : List ClassEntry) (l : List Aim) → first_unwritten l ≡ None → lacking_fault classes l ≡ None → is_itemless l ≡ true
itemless_of classes [] p q = refl
itemless_of classes (held t s ∷ l) p q = itemless_of classes l p q
itemless_of classes (first t x ∷ l) p q = itemless_of classes l p q
itemless_of classes (barred x ∷ l) p q = itemless_of classes l p q
itemless_of classes (unwritten t ∷ l) p q = absurd (cc)
itemless_of classes (misplaced t ∷ l) p q = absurd (cc)
itemless_of classes (lacking t x ∷ l) p q = absurd (cc)

-- of names nothing is lacking
names_declared : (classes : List ClassEntry) (l : List Aim) → list_all is_name_aim l ≡ true → lacking_fault classes l ≡ None
names_declared classes [] h = refl
names_declared classes (held t s ∷ l) h = names_declared classes l (and_right (is_name_aim (held t s)) (list_all is_name_aim l) h)
names_declared classes (first t x ∷ l) h = names_declared classes l h
names_declared classes (barred x ∷ l) h = names_declared classes l h
names_declared classes (unwritten t ∷ l) h = absurd (cc)
names_declared classes (misplaced t ∷ l) h = absurd (cc)
names_declared classes (lacking t x ∷ l) h = absurd (cc)

-- what is known where a value of a type is bound to several targets
pub record RowBound (classes : List ClassEntry) (l : List Aim) (t : Sort) : Type 0 where
  pub parts : List Sort
  pub items : items_for t (length l) ≡ Some parts
  pub refused : first_barred l ≡ None
  pub itemless : is_itemless l ≡ true
  pub fit : parts_fault classes [] l parts ≡ None

-- and to one, or to several
abbrev pub BoundTo : List ClassEntry → Bool → List Aim → Sort → Type 0
BoundTo classes true l t = RowBound classes l t
BoundTo classes false l t = (a : Aim) × (l ≡ a ∷ []) × (binding_fault classes a t ≡ None)

row_by : (classes : List ClassEntry) (l : List Aim) (t : Sort) (n : ℕ) (o : Option (List Sort)) → n ≡ length l → items_for t n ≡ o → first_barred l ≡ None → is_itemless l ≡ true → items_fault classes n t o ≡ None
    → parts_fault classes [] l (some_parts (items_for t (length l))) ≡ None → RowBound classes l t
row_by classes l t n None same q ref less e w = absurd (cc)
row_by classes l t n (Some ss) same q ref less e w =
    let items : items_for t (length l) ≡ Some ss = ap (items_for t) (sym same) ∙ q in
    record {
      parts = ss;
      items = items;
      refused = ref;
      itemless = less;
      fit = ap (λ (o : Option (List Sort)). parts_fault classes [] l (some_parts o)) (sym items) ∙ w;
    }

pub several_bound : (classes : List ClassEntry) (l : List Aim) (t : Sort) → lacking_fault classes l ≡ None → several_fault classes l t ≡ None → RowBound classes l t
several_bound classes l t d e =
    let p = first_none (unpacking_fault classes l t) (parts_fault classes [] l (some_parts (items_for t (length l)))) e in
    let q = first_none (option_map cannot_assign (first_barred l)) _ p.0 in
    let r = first_none (option_map (index_target classes) (first_unwritten l)) _ q.1 in
    row_by classes l t (length l) (items_for t (length l)) refl refl (mapped_none cannot_assign (first_barred l) q.0) (itemless_of classes l (mapped_none (index_target classes) (first_unwritten l) r.0) d) r.1 p.1

-- ---- assignments

pub act_given : (ts : List TypedTarget) (r : Result TypedExpr Message) (a : TypedAct) → act_of ts r ≡ Ok a → (e : TypedExpr) × (r ≡ Ok e) × (act.Assign ts e ≡ a)
act_given ts (Ok e) a h = (e, refl, ok_same (act.Assign ts e) a h)
act_given ts (Err m) a h = absurd (cc)

-- the value as it is bound to one target, or to several
abbrev pub as_value : Bool → List Aim → TypedExpr → TypedExpr
as_value true l e = e
as_value false [] e = e
as_value false (a ∷ more) e = as_bound a e

one_by : (classes : List ClassEntry) (l : List Aim) (v e : TypedExpr) → one_assigned classes l v ≡ Ok e → BoundTo classes false l (type_of v) × (as_value false l v ≡ e)
one_by classes [] v e h = absurd (cc)
one_by classes (a ∷ []) v e h = let r = unless_ok (binding_fault classes a (type_of v)) (as_bound a v) e h in ((a, refl, r.0), r.1)
one_by classes (a ∷ b ∷ l) v e h = absurd (cc)

-- several targets take a value that fits what it was asked for too
abbrev pub FitsAsked : List ClassEntry → Bool → Option Sort → List Aim → Sort → Type 0
FitsAsked classes true asked l t = asked_fault classes (length l) asked t ≡ None
FitsAsked classes false asked l t = Unit {0}

value_by : (classes : List ClassEntry) (several : Bool) (asked : Option Sort) (l : List Aim) (v e : TypedExpr) → lacking_fault classes l ≡ None → value_assigned classes several asked l v ≡ Ok e → BoundTo classes several l (type_of v) × FitsAsked classes several asked l (type_of v) × (as_value several l v ≡ e)
value_by classes true asked l v e d h =
    let r = unless_ok (taking_fault classes asked l (type_of v)) v e h in
    let f = first_none (several_fault classes l (type_of v)) (asked_fault classes (length l) asked (type_of v)) r.0 in
    (several_bound classes l (type_of v) d f.0, f.1, r.1)
value_by classes false asked l v e d h = let r = one_by classes l v e h in (r.0, tt, r.1)

-- an assignment that holds
pub record Assigned (classes : List ClassEntry) (target : ExprTree) (asked : Option Sort) (l : List Aim) (v : TypedExpr) (a : TypedAct) : Type 0 where
  pub placed : are_placed (is_flat target) l ≡ true
  pub bound : BoundTo classes (is_row target) l (type_of v)
  pub fits : FitsAsked classes (is_row target) asked l (type_of v)
  pub is : act.Assign (targets_of l) (as_value (is_row target) l v) ≡ a

-- nothing is wrong before the rule
pub right_of : {A : Type 0} (o : Option Message) (r : Result A Message) (a : A) → fault_or o r ≡ Ok a → (o ≡ None) × (r ≡ Ok a)
right_of None r a h = (refl, h)
right_of (Some m) r a h = absurd (cc)

placed_is : (classes : List ClassEntry) (target : ExprTree) (asked : Option Sort) (p : List Aim × TypedExpr) (a : TypedAct) → lacking_fault classes p.0 ≡ None → placed classes target asked p ≡ Ok a → Assigned classes target asked p.0 p.1 a
placed_is classes target asked p a d h =
    let r = if_then (are_placed (is_flat target) p.0) (act_of (targets_of p.0) (value_assigned classes (is_row target) asked p.0 p.1)) no_target a h in
    let q = act_given (targets_of p.0) (value_assigned classes (is_row target) asked p.0 p.1) a r.1 in
    let v = value_by classes (is_row target) asked p.0 p.1 q.0 d q.1 in
    record { placed = r.0; bound = v.0; fits = v.1; is = ap (act.Assign (targets_of p.0)) v.2 ∙ q.2 }

pub assigned_is : (classes : List ClassEntry) (target : ExprTree) (asked : Option Sort) (p : List Aim × TypedExpr) (a : TypedAct) → assigned classes target asked p ≡ Ok a → Assigned classes target asked p.0 p.1 a
assigned_is classes target asked p a h = let r = right_of (lacking_fault classes p.0) (placed classes target asked p) a h in placed_is classes target asked p a r.0 r.1

-- ---- an annotation with a value

-- the annotation is one, and the value is bound to the name
pub record Given (classes : List ClassEntry) (a : Aim) (v : TypedExpr) (d : TypedAct) : Type 0 where
  pub right : binding_fault classes a (type_of v) ≡ None
  pub is : act.Assign (target_of a) (as_bound a v) ≡ d

given_by : (classes : List ClassEntry) (o : Option Message) (a : Aim) (v : TypedExpr) (d : TypedAct) → given_after classes o a v ≡ Ok d → Given classes a v d
given_by classes None a v d h =
    let q = act_given (target_of a) (assignment classes a v) d h in
    let r = unless_ok (binding_fault classes a (type_of v)) (as_bound a v) q.0 q.1 in
    record { right = r.0; is = ap (act.Assign (target_of a)) r.1 ∙ q.2 }
given_by classes (Some m) a v d h = absurd (cc)

pub given_is : (classes : List ClassEntry) (x : List ℕ) (bound : Bool) (p : (Aim × Sort) × TypedExpr) (d : TypedAct) → given classes x bound p ≡ Ok d → Given classes p.0.0 p.1 d
given_is classes x bound p d h = given_by classes (annotation_fault x bound p.0.0) p.0.0 p.1 d h

-- several targets are not updated
pub row_none : (classes : List ClassEntry) (span : Span) (o : Option (List Aim × TypedExpr)) → (ruled span (row_refused classes) o).got ≡ None
row_none classes span None = refl
row_none classes span (Some p) = by (lacking_fault classes p.0)
  where
    by : (o : Option Message) → (judged {A = TypedAct} span (fault_or o (Err no_target))).got ≡ None
    by None = refl
    by (Some m) = refl

pub never_row : (classes : List ClassEntry) (span : Span) (s : Seen (List Aim × TypedExpr)) (d : TypedAct) → (rule span (row_refused classes) s).got ≡ Some d → ⊥
never_row classes span s d h = let n = sym (row_none classes span s.got) ∙ h in cc

-- an attribute that nothing declares is never updated
pub never_lacking : (classes : List ClassEntry) (span : Span) (x : List ℕ) (s : Seen (TypedExpr × TypedExpr)) (d : TypedAct) → (rule span (updated_lacking classes x) s).got ≡ Some d → ⊥
never_lacking classes span x s d h = let r = rule_given span (updated_lacking classes x) s d h in let q = r.2 in cc

-- ---- an attribute of the object that an `__init__` sets up

-- such a target is a single one, and no name
pub own_single : (i : Option Inside) (target : ExprTree) (p : ExprTree × List ℕ) → own_attribute i target ≡ Some p → (is_row target ≡ false) × (name_in target ≡ None)
own_single i (at (tree.Attr e a) span) p h = (refl, refl)
own_single i _ p h = absurd (cc)

pub own_unmarked : (i : Option Inside) (target : ExprTree) (p : ExprTree × List ℕ) (mark : ExprTree) → own_attribute i target ≡ Some p → marked (name_in target) target mark ≡ []
own_unmarked i (at (tree.Attr e a) span) p mark h = refl
own_unmarked i _ p mark h = absurd (cc)

pub declared_own_is : (o : Option Message) (p : List Aim × Sort) (d : TypedAct) → declared_own o p ≡ Ok d → act.Pass ≡ d
declared_own_is o p d h = (unless_ok o act.Pass d h).1

pub given_own_is : (classes : List ClassEntry) (target : ExprTree) (o : Option Message) (p : (List Aim × Sort) × TypedExpr) (d : TypedAct) → given_own classes target o p ≡ Ok d → Assigned classes target None p.0.0 p.1 d
given_own_is classes target o p d h = assigned_is classes target None (p.0.0, p.1) d (right_of o (assigned classes target None (p.0.0, p.1)) d h).1

-- ---- an operation with assignment

pub record Updated (classes : List ClassEntry) (span : Span) (o : BinOp) (a : Aim) (p : TypedExpr × TypedExpr) (d : TypedAct) : Type 0 where
  pub result : TypedExpr
  pub operates : arithmetic classes span o p ≡ Ok result
  pub placed : is_placed a ≡ true
  pub right : binding_fault classes a (type_of result) ≡ None
  pub target : TypedTarget
  pub more : List TypedTarget
  pub aimed : target_of a ≡ target ∷ more
  pub is : act.Aug target o p.1 (type_of result) ≡ d

written_by : (o : BinOp) (b : TypedExpr) (s : Sort) (f : Option Message) (ts : List TypedTarget) (d : TypedAct) → written_back o b s f ts ≡ Ok d → (f ≡ None) × (t : TypedTarget) × (more : List TypedTarget) × (ts ≡ t ∷ more) × (act.Aug t o b s ≡ d)
written_by o b s (Some m) ts d h = absurd (cc)
written_by o b s None [] d h = absurd (cc)
written_by o b s None (t ∷ more) d h = (refl, t, more, refl, ok_same (act.Aug t o b s) d h)

updated_by : (classes : List ClassEntry) (span : Span) (o : BinOp) (a : Aim) (p : TypedExpr × TypedExpr) (d : TypedAct) (r : Result TypedExpr Message) → arithmetic classes span o p ≡ r → of_operation classes a o p.1 r ≡ Ok d → Updated classes span o a p d
updated_by classes span o a p d (Err m) q h = absurd (cc)
updated_by classes span o a p d (Ok v) q h =
    let c = if_then (is_placed a) (written_back o p.1 (type_of v) (binding_fault classes a (type_of v)) (target_of a)) no_target d h in
    let w = written_by o p.1 (type_of v) (binding_fault classes a (type_of v)) (target_of a) d c.1 in
    record { result = v; operates = q; placed = c.0; right = w.0; target = w.1; more = w.2; aimed = w.3; is = w.4 }

pub updated_is : (classes : List ClassEntry) (span : Span) (o : BinOp) (aim : TypedExpr → Aim) (p : TypedExpr × TypedExpr) (d : TypedAct) → updated classes span o aim p ≡ Ok d → Updated classes span o (aim p.0) p d
updated_is classes span o aim p d h = updated_by classes span o (aim p.0) p d (arithmetic classes span o p) refl h

-- ---- heads of loops

-- a head that holds: what is gone over has items
pub record Headed (classes : List ClassEntry) (target : ExprTree) (l : List Aim) (w : Course) : Type 0 where
  pub item : Sort
  pub items : course_items w ≡ Some item
  pub names : are_names (is_flat target) l ≡ true
  pub bound : BoundTo classes (is_row target) l item

head_items : (classes : List ClassEntry) (several : Bool) (l : List Aim) (t : Sort) → list_all is_name_aim l ≡ true → loops.items_fault classes several l t ≡ None → BoundTo classes several l t
head_items classes true l t names h = several_bound classes l t (names_declared classes l names) h
head_items classes false [] t names h = absurd (cc)
head_items classes false (a ∷ []) t names h = (a, refl, h)
head_items classes false (a ∷ b ∷ l) t names h = absurd (cc)

names_by : (b : Bool) (o : Option Message) (m : Message) → (if b then o else Some m) ≡ None → (b ≡ true) × (o ≡ None)
names_by true o m h = (refl, h)
names_by false o m h = absurd (cc)

head_by : (classes : List ClassEntry) (target : ExprTree) (l : List Aim) (w : Course) (o : Option Sort) → course_items w ≡ o → head_fault classes (is_flat target) (is_row target) l (course_type w) o ≡ None → Headed classes target l w
head_by classes target l w None q h = absurd (cc)
head_by classes target l w (Some t) q h =
    let r = names_by (are_names (is_flat target) l) (loops.items_fault classes (is_row target) l t) no_target h in
    record { item = t; items = q; names = r.0; bound = head_items classes (is_row target) l t (and_right (is_flat target) (list_all is_name_aim l) r.0) r.1 }

pub head_is : (classes : List ClassEntry) (target : ExprTree) (p q : List Aim × Course) → head classes (is_flat target) (is_row target) p ≡ Ok q → Headed classes target p.0 p.1 × (p ≡ q)
head_is classes target p q h =
    let r = unless_ok (head_fault classes (is_flat target) (is_row target) p.0 (course_type p.1) (course_items p.1)) p q h in
    (head_by classes target p.0 p.1 (course_items p.1) refl r.0, r.1)

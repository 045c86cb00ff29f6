-- What an assignment says, from what was said of its value.
use Rattle.std.proofs.Common.{◌≡◌, ℕ, Bool, true, false, List, [], ◌∷◌, ◌++◌, reverse, map, Option, Some, None, is_some, Result, Ok, Err, IfOk, refl, ap, sym, ◌∙◌, subst, append_assoc}
use Rattle.std.proofs.lemmas.List.{append-nil, reverse-append}
use Rattle.std.specs.declared.boxed.Box.{Box}
use Rattle.std.specs.declared.alloc.Global.{Global}
use Rattle.std.specs.Prelude.{if◌then◌else◌}
use Rattle.std.specs.Option.{option_map, option_zip}
use Rattle.value_core.specs.declared.memory.Memory.{Memory}
use Rattle.py_syntax.specs.declared.token.Span.{Span}
use Rattle.py_syntax.specs.Expressions as tree
use Rattle.py_syntax.specs.Expressions.{ExprTree, at}
use Rattle.py_syntax_diagnostics.specs.declared.diagnostic.Diag.{Diag}
use Rattle.py_typed.specs.declared.types.Ty.{Ty}
use Rattle.py_typed.specs.declared.expression.TExpr.{TExpr}
use Rattle.py_typed.specs.declared.statement.TStmtKind.{TStmtKind}
use Rattle.py_typed.specs.Classes.{ClassEntry}
use Rattle.py_typed.specs.Sorts.{Sort, sort}
use Rattle.py_typed.specs.Expressions.{TypedExpr, type_of}
use Rattle.py_typed.specs.Statements as act
use Rattle.py_typed.specs.Statements.{TypedTarget, TypedAct}
use Rattle.py_check_messages.specs.Seen.{Seen, Message, Tells, Finds, behind, both, fails, judged, rule, ruled, silent}
use Rattle.py_check_messages.proofs.RowLemmas.{two_parts}
use Rattle.py_check_messages.specs.Messages.{no_target}
use Rattle.py_check_annotations.specs.Annotations.{annotation}
use Rattle.py_check_coercions.specs.Boxes.{boxed}
use Rattle.py_check_coercions.specs.Several.{unless, with_part}
use Rattle.py_check_values.specs.Assignments.{assignment, lacking_fault}
use Rattle.py_check_context.specs.Context.{Context}
use Rattle.py_check_places.specs.Places.{Known, is_bound}
use Rattle.py_check_places.specs.Shapes.{is_row, is_flat, bind_target}
use Rattle.py_check_values.specs.declared.aims.Aim as declared
use Rattle.py_check_values.specs.Aims.{Aim, aim_seen}
use Rattle.py_check_targets.specs.Attributes.{own_attribute}
use Rattle.py_check_targets.specs.Targets.{fault_or, asked_sort, act_of, target_of, targets_of, are_placed, value_assigned, placed, assigned, given, given_after, name_aim, target_aims, aims_behind}
use Rattle.py_check_targets.specs.Views.{boxed_aim, boxed_act, boxed_sort}
use Rattle.py_check_targets.proofs.LookLemmas.{one_look}
use Rattle.py_check_targets.proofs.SeenLemmas.{seen_of}
use Rattle.py_check_assignments.specs.Assignments.{asked_for, value_for, assigns, annotated_value, gives_value, annotates_other}
use Rattle.py_check_assignments.specs.Views.{Shows}

-- a rule of two parts, where both are typed
pub parts_typed : {A B : Type 0} (span : Span) (f : A × B → Result TypedAct Message) (o : Option A) (p : Option B) (a : A) (b : B) (r : Result (Option (Box TStmtKind Global)) Memory) (old new : List Diag) → o ≡ Some a → p ≡ Some b → IfOk r (λ t. Tells boxed_act t old new (judged span (f (a, b)))) → IfOk r (λ t. Tells boxed_act t old new (ruled span f (option_zip o p)))
parts_typed {A} {B} span f o p a b r old new is_a is_b h =
    let P : Option A → Type 0 = λ q. IfOk r (λ t. Tells boxed_act t old new (ruled span f (option_zip q p))) in
    let Q : Option B → Type 0 = λ q. IfOk r (λ t. Tells boxed_act t old new (ruled span f (option_zip (Some a) q))) in
    subst P (sym is_a) (subst Q (sym is_b) h)

acts : (span : Span) (ts : List TypedTarget) (r : Result TypedExpr Message) (e : Option (Box TExpr Global)) (t : Option (Box TStmtKind Global)) (old new : List Diag) → Tells boxed e old new (judged span r) → option_map boxed_act t ≡ option_map (act.Assign ts) (option_map boxed e) → Tells boxed_act t old new (judged span (act_of ts r))
acts span ts (Ok x) e t old new told is = (is ∙ ap (option_map (act.Assign ts)) told.0, told.1)
acts span ts (Err m) e t old new told is = (is ∙ ap (option_map (act.Assign ts)) told.0, told.1)

-- what is kept where nothing is wrong, and where something is
pub kept_says : {A B : Type 0} (view : B → A) (span : Span) (fault : Option Message) (b : B) (right : Bool) (old new : List Diag) → Finds right old new span fault → right ≡ true → Tells view (Some b) old new (judged span (unless fault (view b)))
kept_says view span None b right old new found holds = (refl, found.1 ∙ sym (append-nil old))
kept_says view span (Some m) b right old new found holds = absurd (let clash : false ≡ true = sym found.0 ∙ holds in cc)

pub lost_says : {A B : Type 0} (view : B → A) (span : Span) (fault : Option Message) (a : A) (right : Bool) (old new : List Diag) → Finds right old new span fault → right ≡ false → Tells view None old new (judged span (unless fault a))
lost_says view span None a right old new found wrong = absurd (let clash : true ≡ false = sym found.0 ∙ wrong in cc)
lost_says view span (Some m) a right old new found wrong = (refl, found.1)

-- what is wrong comes before a rule, and where nothing is
pub wrong_says : (span : Span) (fault : Option Message) (x : Result TypedAct Message) (right : Bool) (old new : List Diag) → Finds right old new span fault → right ≡ false → Tells boxed_act None old new (judged span (fault_or fault x))
wrong_says span None x right old new found wrong = absurd (let clash : true ≡ false = sym found.0 ∙ wrong in cc)
wrong_says span (Some m) x right old new found wrong = (refl, found.1)

pub right_says : (span : Span) (fault : Option Message) (x : Result TypedAct Message) (right : Bool) (r : Result (Option (Box TStmtKind Global)) Memory) (old mid new : List Diag) → Finds right old mid span fault → right ≡ true → IfOk r (λ t. Tells boxed_act t mid new (judged span x)) → IfOk r (λ t. Tells boxed_act t old new (judged span (fault_or fault x)))
right_says span (Some m) x right r old mid new found holds h = absurd (let clash : false ≡ true = sym found.0 ∙ holds in cc)
right_says span None x right r old mid new found holds h =
    let P : List Diag → Type 0 = λ l. IfOk r (λ t. Tells boxed_act t l new (judged span x)) in
    subst P found.1 h

-- ---- targets without an annotation

abbrev by_place : List ClassEntry → ExprTree → Option Sort → List Aim → TypedExpr → Bool → Result TypedAct Message
by_place classes target asked aims x stands =
    if stands then act_of (targets_of aims) (value_assigned classes (is_row target) asked aims x) else Err no_target

-- targets that cannot be assigned to
pub misplaced_says : (classes : List ClassEntry) (span : Span) (target : ExprTree) (asked : Option Sort) (aims : List Aim) (x : TypedExpr) (r : Result (Option (Box TStmtKind Global)) Memory) (old new : List Diag) → are_placed (is_flat target) aims ≡ false → IfOk r (λ t. Tells boxed_act t old new (fails {A = TypedAct} span no_target)) → IfOk r (λ t. Tells boxed_act t old new (judged span (placed classes target asked (aims, x))))
misplaced_says classes span target asked aims x r old new misplaced h =
    let P : Bool → Type 0 = λ b. IfOk r (λ t. Tells boxed_act t old new (judged span (by_place classes target asked aims x b))) in
    subst P (sym misplaced) h

-- a value is assigned to them
pub placed_says : (classes : List ClassEntry) (span : Span) (target : ExprTree) (asked : Option Sort) (aims : List Aim) (x : TypedExpr) (e : Option (Box TExpr Global)) (ts : List TypedTarget) (r : Result (Option (Box TStmtKind Global)) Memory) (old new : List Diag) → are_placed (is_flat target) aims ≡ true → Tells boxed e old new (judged span (value_assigned classes (is_row target) asked aims x)) → ts ≡ targets_of aims → IfOk r (λ t. option_map boxed_act t ≡ option_map (act.Assign ts) (option_map boxed e)) → IfOk r (λ t. Tells boxed_act t old new (judged span (placed classes target asked (aims, x))))
placed_says classes span target asked aims x e ts (Ok t) old new stands told written h =
    let V : Result TypedExpr Message = value_assigned classes (is_row target) asked aims x in
    let P : Bool → Type 0 = λ b. Tells boxed_act t old new (judged span (by_place classes target asked aims x b)) in
    let Q : List TypedTarget → Type 0 = λ l. Tells boxed_act t old new (judged span (act_of l V)) in
    subst P (sym stands) (subst Q written (acts span ts V e t old new told h))
placed_says classes span target asked aims x e ts (Err m) old new stands told written h = tt

-- one more target is put behind the others
pub target_step : (front after : List TypedTarget) (rest left : List declared.Aim) (a : declared.Aim) (whole : List TypedTarget) → rest ≡ left ++ a ∷ [] → after ≡ front ++ target_of (aim_seen a) → front ++ targets_of (map aim_seen (reverse rest)) ≡ whole → after ++ targets_of (map aim_seen (reverse left)) ≡ whole
target_step front after rest left a whole taken put h =
    ap (λ l. l ++ targets_of (map aim_seen (reverse left))) put
    ∙ append_assoc front (target_of (aim_seen a)) (targets_of (map aim_seen (reverse left)))
    ∙ sym (ap (λ l. front ++ targets_of (map aim_seen l)) (ap reverse taken ∙ reverse-append left (a ∷ [])))
    ∙ h

-- ---- targets and their value

-- what targets ask for
pub is_asked_for : (c : Context) (k : Known) (target : ExprTree) (asked : Option (Box Ty Global)) (aims : Option (List declared.Aim)) (several : Bool) → several ≡ is_row target → option_map (map aim_seen) aims ≡ (target_aims c k target).got → option_map boxed_sort asked ≡ asked_sort several (option_map (map aim_seen) aims) → option_map boxed_sort asked ≡ asked_for c k target
is_asked_for c k target asked aims several row looked is =
    is ∙ ap (λ b. asked_sort b (option_map (map aim_seen) aims)) row ∙ ap (asked_sort (is_row target)) looked

pub is_asked_for_so : (c : Context) (k : Known) (target : ExprTree) (r : Result (Option (Box Ty Global)) Memory) (aims : Option (List declared.Aim)) (several : Bool) → several ≡ is_row target → option_map (map aim_seen) aims ≡ (target_aims c k target).got → IfOk r (λ asked. option_map boxed_sort asked ≡ asked_sort several (option_map (map aim_seen) aims)) → IfOk r (λ asked. option_map boxed_sort asked ≡ asked_for c k target)
is_asked_for_so c k target (Ok asked) aims several row looked is = is_asked_for c k target asked aims several row looked is
is_asked_for_so c k target (Err m) aims several row looked is = tt

-- of targets and a value, each as it was looked at
pub row_says : (span : Span) (f : List Aim × TypedExpr → Result TypedAct Message) (s : Seen (List Aim)) (v : Seen TypedExpr) (found : Option (List declared.Aim)) (e : Option (Box TExpr Global)) (r : Result (Option (Box TStmtKind Global)) Memory) (old mid next new : List Diag) → Tells (map aim_seen) found old mid s → Tells boxed e mid next v → IfOk r (λ t. Tells boxed_act t next new (ruled span f (option_zip (option_map (map aim_seen) found) (option_map boxed e)))) → IfOk r (λ t. Tells boxed_act t old new (rule span f (both s v)))
row_says span f s v found e (Ok t) old mid next new told spoken h = two_parts span f (map aim_seen) boxed boxed_act s v found e t old mid next new told spoken h
row_says span f s v found e (Err m) old mid next new told spoken h = tt

-- a value whose diagnostics are put behind those of its targets
pub behind_says : (span : Span) (f : List Aim × TypedExpr → Result TypedAct Message) (s : Seen (List Aim)) (found : Option (List declared.Aim)) (e : Option (Box TExpr Global)) (said : List Diag) (r : Result (Option (Box TStmtKind Global)) Memory) (old mid next new : List Diag) → Tells (map aim_seen) found old mid s → next ≡ mid ++ said → IfOk r (λ t. Tells boxed_act t next new (ruled span f (option_zip (option_map (map aim_seen) found) (option_map boxed e)))) → IfOk r (λ t. Tells boxed_act t old new (rule span f (both s (seen_of (option_map boxed e) said))))
behind_says span f s found e said r old mid next new told put h = row_says span f s (seen_of (option_map boxed e) said) found e r old mid next new told (refl, put) h

-- several targets, that were looked at behind the value
pub several_says : (c : Context) (k : Known) (span : Span) (target e : ExprTree) (v : Seen TypedExpr) (asked s : Option Sort) (t : Option (Box TStmtKind Global)) (old new : List Diag) → asked ≡ asked_for c k target → v ≡ value_for c k target e → s ≡ option_map type_of v.got → Tells boxed_act t old new (rule span (assigned c.classes target asked) (both (aims_behind c k target s) v)) → Tells boxed_act t old new (assigns c k span target e)
several_says c k span target e v asked s t old new sought is type h =
    let P : Option Sort → Seen TypedExpr → Option Sort → Type 0 = λ a w u. Tells boxed_act t old new (rule span (assigned c.classes target a) (both (aims_behind c k target u) w)) in
    let V = value_for c k target e in
    subst (λ a. P a V (option_map type_of V.got)) sought (subst (λ w. P asked w (option_map type_of w.got)) is (subst (λ u. P asked v u) type h))

-- what is no name, with its annotation, looked at behind the value
pub other_says : (c : Context) (k : Known) (span : Span) (target mark e : ExprTree) (v : Seen TypedExpr) (s : Option Sort) (old new : List Diag) → v ≡ value_for c k target e → s ≡ option_map type_of v.got → Tells boxed_act None old new (behind (both (both (aims_behind c k target s) (annotation c.meaning mark)) v) (λ p. with_part p (λ q. fails span no_target))) → Tells boxed_act None old new (annotates_other c k span target mark (Some e))
other_says c k span target mark e v s old new is type h =
    let P : Seen TypedExpr → Option Sort → Type 0 = λ w u. Tells boxed_act None old new (behind (both (both (aims_behind c k target u) (annotation c.meaning mark)) w) (λ p. with_part p (λ q. fails span no_target))) in
    subst (λ w. P w (option_map type_of w.got)) is (subst (λ u. P v u) type h)

-- an attribute of the object that is set up binds no name
pub own_unbound : (c : Context) (k : Known) (target : ExprTree) (p : ExprTree × List ℕ) (t : Option Sort) → own_attribute c.inside target ≡ Some p → bind_target c false k target t ≡ k
own_unbound c k (at (tree.Attr e a) span) p None h = refl
own_unbound c k (at (tree.Attr e a) span) p (Some t) h = refl
own_unbound c k _ p t h = absurd (cc)

-- whatever a value was asked for, one target has only to take it
abbrev taken : List ClassEntry → ExprTree → Bool → Option Sort → List Aim × TypedExpr → Result TypedAct Message
taken classes target several asked p =
    fault_or (lacking_fault classes p.0)
    (if are_placed (is_flat target) p.0 then act_of (targets_of p.0) (value_assigned classes several asked p.0 p.1) else Err no_target)

pub one_says : {R : Type 0} (kind : R → Option (Box TStmtKind Global)) (r : Result R Memory) (c : Context) (k : Known) (span : Span) (target e : ExprTree) (old new : List Diag) → is_row target ≡ false → IfOk r (λ a. Tells boxed_act (kind a) old new (rule span (assigned c.classes target None) (both (target_aims c k target) (value_for c k target e)))) → IfOk r (λ a. Tells boxed_act (kind a) old new (assigns c k span target e))
one_says kind r c k span target e old new one h =
    let V = value_for c k target e in
    let s = option_map type_of V.got in
    let P : Option Sort → Bool → Seen (List Aim) → Type 0 = λ asked b l. IfOk r (λ a. Tells boxed_act (kind a) old new (rule span (taken c.classes target b asked) (both l V))) in
    subst (λ b. P (asked_for c k target) b (aims_behind c k target s)) (sym one)
    (subst (λ l. P None false l) (one_look c k target s one) (subst (λ b. P None b (target_aims c k target)) one h))

-- ---- a name with an annotation and a value

-- from the name, its annotation and the value
pub gives_says : {R : Type 0} (kind : R → Option (Box TStmtKind Global)) (r : Result R Memory) (c : Context) (k : Known) (span : Span) (x y : List ℕ) (bound : Bool) (mark e : ExprTree) (aim : Option (Box declared.Aim Global)) (t : Option Ty) (u : Option Sort) (o0 o1 o2 : List Diag) → y ≡ x → bound ≡ is_bound k (c.meaning x) → option_map boxed_aim aim ≡ name_aim k x (c.meaning x) → Tells sort t o0 o1 (annotation c.meaning mark) → u ≡ option_map sort t
    → IfOk r (λ a. Tells boxed_act (kind a) o1 o2 (behind (annotated_value c k y e) (λ v. ruled span (given c.classes y bound) (option_zip (option_zip (option_map boxed_aim aim) u) v)))) → IfOk r (λ a. Tells boxed_act (kind a) o0 o2 (gives_value c k span x mark e))
gives_says kind (Err m) c k span x y bound mark e aim t u o0 o1 o2 same before named told type h = tt
gives_says kind (Ok a) c k span x y bound mark e aim t u o0 o1 o2 same before named told type h =
    let M = annotation c.meaning mark in
    let V = annotated_value c k x e in
    let N = name_aim k x (c.meaning x) in
    let G = given c.classes x (is_bound k (c.meaning x)) in
    let P : List ℕ → Bool → Option Aim → Option Sort → Type 0 = λ z b o s. Tells boxed_act (kind a) o1 o2 (behind (annotated_value c k z e) (λ v. ruled span (given c.classes z b) (option_zip (option_zip o s) v))) in
    let all : P x (is_bound k (c.meaning x)) N M.got =
    subst (λ s. P x (is_bound k (c.meaning x)) N s) (type ∙ told.0) (subst (λ o. P x (is_bound k (c.meaning x)) o u) named (subst (λ b. P x b (option_map boxed_aim aim) u) before (subst (λ z. P z bound (option_map boxed_aim aim) u) same h))) in
    let last = (ruled span G (option_zip (option_zip N M.got) V.got)).said in
    (all.0, all.1 ∙ ap (λ l. l ++ (V.said ++ last)) told.1 ∙ append_assoc o0 M.said (V.said ++ last) ∙ ap (λ l. o0 ++ l) (sym (append_assoc M.said V.said last)))

-- the value is assigned
pub given_says : (classes : List ClassEntry) (span : Span) (fault : Option Message) (a : Aim) (x : TypedExpr) (right : Bool) (e : Option (Box TExpr Global)) (r : Result (Option (Box TStmtKind Global)) Memory) (old mid new : List Diag) → Finds right old mid span fault → right ≡ true → Tells boxed e mid new (judged span (assignment classes a x)) → IfOk r (λ t. option_map boxed_act t ≡ option_map (act.Assign (target_of a)) (option_map boxed e)) → IfOk r (λ t. Tells boxed_act t old new (judged span (given_after classes fault a x)))
given_says classes span fault a x right e (Err m) old mid new found holds told made = tt
given_says classes span (Some m) a x right e (Ok t) old mid new found holds told made = absurd (let clash : false ≡ true = sym found.0 ∙ holds in cc)
given_says classes span None a x right e (Ok t) old mid new found holds told made =
    let P : List Diag → Type 0 = λ l. Tells boxed_act t l new (judged span (act_of (target_of a) (assignment classes a x))) in
    subst P found.1 (acts span (target_of a) (assignment classes a x) e t mid new told made)

-- ---- an attribute with an annotation

typed_so : {A : Type 0} (span : Span) (x : Result TypedAct Message) (o : Option A) → (if is_some o then judged span x else silent) ≡ ruled span (λ q. x) o
typed_so span x None = refl
typed_so span x (Some a) = refl

-- a rule that is the same whatever the parts are
pub fixed_says : {A : Type 0} (span : Span) (x : Result TypedAct Message) (s : Seen A) (complete : Bool) (r : Result (Option (Box TStmtKind Global)) Memory) (old mid new : List Diag) → Shows complete old mid s → IfOk r (λ t. Tells boxed_act t mid new (if complete then judged span x else silent)) → IfOk r (λ t. Tells boxed_act t old new (rule span (λ q. x) s))
fixed_says span x s complete (Err m) old mid new shows h = tt
fixed_says span x s complete (Ok t) old mid new shows h =
    let P : Seen TypedAct → Type 0 = λ y. Tells boxed_act t mid new y in
    let Y = ruled span (λ q. x) s.got in
    let told : Tells boxed_act t mid new Y = subst P (ap (λ b. if b then judged span x else silent) shows.0 ∙ typed_so span x s.got) h in
    (told.0, told.1 ∙ ap (λ l. l ++ Y.said) shows.1 ∙ append_assoc old s.said Y.said)

-- three parts, of which the second has only to be typed
without_second : {A B C : Type 0} (span : Span) (g : A × C → Result TypedAct Message) (o : Option A) (m : Option B) (p : Option C) → ruled span g (if is_some m then option_zip o p else None) ≡ ruled span (λ q. g (q.0.0, q.1)) (option_zip (option_zip o m) p)
without_second span g None None p = refl
without_second span g None (Some b) p = refl
without_second span g (Some a) None p = refl
without_second span g (Some a) (Some b) None = refl
without_second span g (Some a) (Some b) (Some x) = refl

pub third_says : {A B C : Type 0} (span : Span) (g : A × C → Result TypedAct Message) (s : Seen A) (m : Seen B) (v : Seen C) (o : Option A) (p : Option C) (marked : Bool) (r : Result (Option (Box TStmtKind Global)) Memory) (o0 o1 o2 o3 o4 : List Diag) → o ≡ s.got → o1 ≡ o0 ++ s.said → Shows marked o1 o2 m → p ≡ v.got → o3 ≡ o2 ++ v.said
    → IfOk r (λ t. Tells boxed_act t o3 o4 (ruled span g (if marked then option_zip o p else None))) → IfOk r (λ t. Tells boxed_act t o0 o4 (rule span (λ q. g (q.0.0, q.1)) (both (both s m) v)))
third_says span g s m v o p marked (Err e) o0 o1 o2 o3 o4 is said shows value spoken h = tt
third_says span g s m v o p marked (Ok t) o0 o1 o2 o3 o4 is said shows value spoken h =
    let P : Seen TypedAct → Type 0 = λ y. Tells boxed_act t o3 o4 y in
    let Y = ruled span (λ q. g (q.0.0, q.1)) (option_zip (option_zip s.got m.got) v.got) in
    let told : Tells boxed_act t o3 o4 Y =
    subst P (ap (λ b. ruled span g (if b then option_zip o p else None)) shows.0 ∙ ap (λ q. ruled span g (if is_some m.got then option_zip q p else None)) is ∙ ap (λ q. ruled span g (if is_some m.got then option_zip s.got q else None)) value ∙ without_second span g s.got m.got v.got) h in
    let parts : o3 ≡ o0 ++ ((s.said ++ m.said) ++ v.said) =
    spoken ∙ ap (λ l. l ++ v.said) (shows.1 ∙ ap (λ l. l ++ m.said) said ∙ append_assoc o0 s.said m.said) ∙ append_assoc o0 (s.said ++ m.said) v.said in
    (told.0, told.1 ∙ ap (λ l. l ++ Y.said) parts ∙ append_assoc o0 ((s.said ++ m.said) ++ v.said) Y.said)

-- Behind statements that are typed each variable has a type that a variable may have, or none yet.
use Rattle.std.proofs.Common.{◌≡◌, ℕ, Bool, true, false, List, [], ◌∷◌, ◌++◌, length, cond, Option, Some, None, refl, ap, sym, ◌∙◌, subst, if◌then◌else◌}
use Rattle.std.proofs.lemmas.Slice.Eq.{bytes_eq-Decides}
use Rattle.std.specs.List.{list_all}
use Rattle.std.specs.Prelude.{is_some}
use Rattle.std.specs.Option.{option_map}
use Rattle.std.specs.Str.{bytes_eq}
use Rattle.value_core.specs.declared.exception.ExcClass.TheVariants.{Exception}
use Rattle.py_syntax.specs.declared.token.Span.{Span}
use Rattle.py_syntax.specs.Expressions.{ExprTree}
use Rattle.py_syntax.specs.Statements as node
use Rattle.py_syntax.specs.Statements.{StmtTree, StmtNode, Suite, no_stmts, stmt_then, Arms, no_arms, arm_then, Handlers, no_handlers, handler_then, MaybeSuite, no_suite, some_suite}
use Rattle.py_typed.specs.Sorts as sort
use Rattle.py_typed.specs.Sorts.{Sort, Exc, Sorts, listed_sorts}
use Rattle.py_typed.specs.Fits.{is_nothing}
use Rattle.py_typed.specs.Expressions.{TypedExpr, type_of}
use Rattle.py_typed.specs.Statements as act
use Rattle.py_typed.specs.Statements.{Variable, TypedModule, TypedTarget, TypedStmt, TypedAct, TypedSuite, HandlerParts, on_line, suite_of, arms_of}
use Rattle.py_typed.specs.WellTypedExpr.{is_value_type, are_value_types, declared}
use Rattle.py_typed.proofs.FitLemmas.{and_left, and_right}
use Rattle.py_check_context.specs.declared.scope.Meaning.{Meaning}
use Rattle.py_check_context.specs.declared.scope.Meaning.TheVariants as meaning
use Rattle.py_check_context.specs.Context.{Context, VarSort, unset, untyped, has, VarSorts, var_at}
use Rattle.py_check_flow.specs.Bindings.{Binding, bound, target_bindings, name_in, marked, caught, stmt_bindings, act_bindings, suite_bindings, arms_bindings, handlers_bindings, last_bindings}
use Rattle.py_check_flow.specs.Closed.{is_closed}
use Rattle.py_check_messages.specs.Seen.{both, rule, made}
use Rattle.py_check_messages.specs.Messages.{no_target, needs_annotation}
use Rattle.py_check_messages.specs.Rows.{row_then}
use Rattle.py_check_annotations.specs.Annotations.{annotation}
use Rattle.py_check_values.specs.Returns.{ReturnSort}
use Rattle.py_check_values.specs.Aims.{Aim, held, first, barred, unwritten, misplaced, lacking}
use Rattle.py_check_values.specs.Assignments.{binding_fault, items_for}
use Rattle.py_check_places.specs.Places.{Known, with_names, is_unset, fix, first_type, bind_variable, bind_name, bind_names, where_test, entering, Way, setting_out, behind_arm}
use Rattle.py_check_places.specs.Shapes.{is_row, is_flat, leaves, target_names, bind_target}
use Rattle.py_check_targets.specs.Targets.{variable_aim, name_aim, targets_of, assigned, target_aims, aims_behind}
use Rattle.py_check_assignments.specs.Assignments.{value_for, assigns, binds, annotates_name, annotates, value_sort, other_sort, binds_annotated, asked_for, annotates_at}
use Rattle.py_check_assignments.proofs.AssignmentLemmas.{own_unbound}
use Rattle.py_check_loops.specs.Loops.{Course, course, head, loop_of}
use Rattle.py_check_loops.specs.Heads.{some_items, for_head, in_for}
use Rattle.py_check_exceptions.specs.Handlers.{handler_head, in_handler}
use Rattle.py_check_statements.specs.Bodies.{is_definition, around_loop, around_clause, is_last, clause_of, present, try_of, condition, outside_try, after, node_after, block_after, arms_after, handlers_after, last_after, statement, node_statement, block, branches, clauses, maybe_block}
use Rattle.py_check_statements.specs.declared.bodies.Around.{Around}
use Rattle.py_check_expressions_laws.specs.WellTyped as law
use Rattle.py_check_expressions_laws.specs.WellTyped.{Describes}
use Rattle.py_check_expressions_laws.proofs.Types.{clash}
use Rattle.py_check_expressions_laws.proofs.Inside.{either}
use Rattle.py_check_laws.proofs.Looked.{LookedAt, looked_behind}
use Rattle.py_check_laws.specs.WellTyped.{is_filled, are_targets, is_stmt_written, is_act_written, is_suite_written, are_arms_written, has_clause, are_handlers_written, is_last_written, IsScope}
use Rattle.py_check_laws.proofs.Given.{some_is, made_given, both_given, rule_given, row_given}
use Rattle.py_check.proofs.Bound.{single_bound, name_no_row, closed_variable}
use Rattle.py_check.proofs.Kept.{fix_cases, Follows, follows_on, follows_name, follows_target, follows_stmt, follows_block, follows_arms, follows_clauses, follows_last, is_open, bind_set}
use Rattle.py_check_laws.proofs.Assigned.{row_bound, items_are, BoundTo, assigned_is, head_is, own_unmarked}
use Rattle.py_check_laws.proofs.Whole.{definition_after, bound_same}
use Rattle.py_check_laws.proofs.Aims.{AimAt, AimsOf}
use Rattle.py_check_laws.proofs.Shapes.{definition_shape, no_part_given}
use Rattle.py_check_laws.proofs.Values.{scene, values_listed, stands_type, parts_type, given_stands}
use Rattle.py_check_laws.proofs.Closed.{scope_there, scope_on, AllClosed, closed_both, closed_on, target_closed, name_closed, IsMarked, marked_front, marked_behind}
use Rattle.py_check_laws.proofs.Courses.{course_stands, item_type}
use Rattle.py_check_targets.specs.Attributes.{own_attribute}

-- ---- variables

-- each variable that has a type has one that a variable may have
pub record Valued (n : ℕ) (V : VarSorts) : Type 0 where
  pub locals : (i : ℕ) (t : Sort) → var_at V.locals i ≡ has t → is_value_type n t ≡ true
  pub globals : (i : ℕ) (t : Sort) → var_at V.globals i ≡ has t → is_value_type n t ≡ true

-- and is declared with it
pub record AreDeclared (m : TypedModule) (locals : List Variable) (V : VarSorts) : Type 0 where
  pub of_function : (i : ℕ) (t : Sort) → var_at V.locals i ≡ has t → declared locals i ≡ Some t
  pub of_module : (i : ℕ) (t : Sort) → var_at V.globals i ≡ has t → declared m.globals i ≡ Some t

pub declared_before : (m : TypedModule) (locals : List Variable) (V W : VarSorts) → Follows V W → AreDeclared m locals W → AreDeclared m locals V
declared_before m locals V W f d = record {
  of_function = λ i t e. d.of_function i t (f.locals.stays i (ap is_unset e) ∙ e);
  of_module = λ i t e. d.of_module i t (f.globals.stays i (ap is_unset e) ∙ e);
}

no_type : (ok : Bool) (s : Sort) → first_type ok None ≡ has s → ⊥
no_type true s h = cc
no_type false s h = cc

untyped_first : (t : Option Sort) (s : Sort) → first_type false t ≡ has s → ⊥
untyped_first t s h = cc

sort_of_has : (s t : Sort) → has s ≡ has t → s ≡ t
sort_of_has s t e = cc

valued_fix : (n : ℕ) (types : List VarSort) (i : ℕ) (v : VarSort) → ((j : ℕ) (s : Sort) → var_at types j ≡ has s → is_value_type n s ≡ true) → (is_unset (var_at types i) ≡ true → (s : Sort) → v ≡ has s → is_value_type n s ≡ true) → (j : ℕ) (s : Sort) → var_at (fix types i v) j ≡ has s → is_value_type n s ≡ true
valued_fix n types i v all h j s e = either (fix_cases types i j v) (λ q. all j s (sym q ∙ e)) (λ q. h q.0 s (sym q.1 ∙ e))

valued_variable : (n : ℕ) (ok : Bool) (k : Known) → Valued n k.types → (m : Meaning) (t : Option Sort) → (is_open k.types m ≡ true → (s : Sort) → first_type ok t ≡ has s → is_value_type n s ≡ true) → Valued n (bind_variable ok k m t).types
valued_variable n ok k v (meaning.Local i) t h = record { locals = valued_fix n k.types.locals i (first_type ok t) v.locals h; globals = v.globals }
valued_variable n ok k v (meaning.Global i) t h = record { locals = v.locals; globals = valued_fix n k.types.globals i (first_type ok t) v.globals h }
valued_variable n ok k v _ t h = v

-- a variable with a type is no longer open
set_by : (t u : TypedTarget) (x : List ℕ) (v : VarSort) (s : Sort) → variable_aim t x v ≡ Some (held u s) → is_unset v ≡ false
set_by t u x unset s h = absurd (cc)
set_by t u x untyped s h = absurd (cc)
set_by t u x (has r) s h = refl

pub aim_set : (k : Known) (x : List ℕ) (m : Meaning) (u : TypedTarget) (s : Sort) → name_aim k x m ≡ Some (held u s) → is_open k.types m ≡ false
aim_set k x (meaning.Local i) u s h = set_by (act.LocalTarget i) u x (var_at k.types.locals i) s h
aim_set k x (meaning.Global i) u s h = set_by (act.GlobalTarget i) u x (var_at k.types.globals i) s h
aim_set k x _ u s h = refl

first_value : (n : ℕ) (t s : Sort) → (is_nothing t ≡ false → is_value_type n t ≡ true) → is_nothing t ≡ false → first_type true (Some t) ≡ has s → is_value_type n s ≡ true
first_value n t s v q h = subst (λ x. is_value_type n x ≡ true) (sort_of_has t s h) (v q)

pub not_none : (t : Sort) (x : List ℕ) → (if is_nothing t then Some (needs_annotation x) else None) ≡ None → is_nothing t ≡ false
not_none t x h = by (is_nothing t) h
  where
    by : (b : Bool) → (if b then Some (needs_annotation x) else None) ≡ None → b ≡ false
    by true q = absurd (cc)
    by false q = refl

module _ (C : Context) (n : ℕ) where
  valued_names : (ok : Bool) (k : Known) → Valued n k.types → (xs : List (Option (List ℕ))) (ts : List Sort) → list_all (is_value_type n) ts ≡ true → Valued n (bind_names C ok k xs ts).types
  valued_names ok k v [] ts h = v
  valued_names ok k v (x ∷ xs) [] h = valued_names ok (bind_name C ok k x None) (by x) xs [] h
    where
      by : (x : Option (List ℕ)) → Valued n (bind_name C ok k x None).types
      by None = v
      by (Some y) = valued_variable n ok k v (C.meaning y) None (λ o s e. absurd (no_type ok s e))
  valued_names ok k v (x ∷ xs) (t ∷ ts) h =
      valued_names ok (bind_name C ok k x (Some t)) (by x) xs ts (and_right (is_value_type n t) (list_all (is_value_type n) ts) h)
    where
      of_type : (b : Bool) (s : Sort) → first_type b (Some t) ≡ has s → is_value_type n s ≡ true
      of_type true s e = subst (λ z. is_value_type n z ≡ true) (sort_of_has t s e) (and_left (is_value_type n t) (list_all (is_value_type n) ts) h)
      of_type false s e = absurd (untyped_first (Some t) s e)

      by : (x : Option (List ℕ)) → Valued n (bind_name C ok k x (Some t)).types
      by None = v
      by (Some y) = valued_variable n ok k v (C.meaning y) (Some t) (λ o s e. of_type ok s e)

  -- a name that takes a value's type
  name_valued : (k : Known) → Valued n k.types → (e : ExprTree) (x : Option (List ℕ)) (a : Aim) → AimAt C k x e a → (t : Sort) → binding_fault C.classes a t ≡ None → (is_nothing t ≡ false → is_value_type n t ≡ true) → Valued n (bind_name C true k x (Some t)).types
  name_valued k v e None a h t f value = v
  name_valued k v e (Some x) (held u s) h t f value =
      valued_variable n true k v (C.meaning x) (Some t) (λ o r q. clash (is_open k.types (C.meaning x)) o (aim_set k x (C.meaning x) u s h))
  name_valued k v e (Some x) (first u y) h t f value = valued_variable n true k v (C.meaning x) (Some t) (λ o r q. first_value n t r value (not_none t y f) q)
  name_valued k v e (Some x) (barred y) h t f value = absurd (cc)
  name_valued k v e (Some x) (unwritten s) h t f value = absurd (cc)
  name_valued k v e (Some x) (lacking s y) h t f value = absurd (cc)
  name_valued k v e (Some x) (misplaced s) h t f value = absurd (cc)

  aims_single : (k : Known) (target : ExprTree) (l : List Aim) (a : Aim) (ts : Option (List Sort)) → l ≡ a ∷ [] → leaves target ≡ target ∷ [] → AimsOf C k ts (leaves target) l → AimAt C k (name_in target) target a
  aims_single k target l a ts q p h = (subst (λ z. AimsOf C k ts z (a ∷ [])) p (subst (AimsOf C k ts (leaves target)) q h)).here

  -- THE NAMES of a target behind a value of a type
  target_valued : (k : Known) → Valued n k.types → (target : ExprTree) (l : List Aim) (t : Sort) → LookedAt C k target l t → BoundTo C.classes (is_row target) l t → (is_nothing t ≡ false → is_value_type n t ≡ true)
      → ((ts : Sorts) → t ≡ sort.TupleOf ts → are_value_types n ts ≡ true) → Valued n (bind_target C true k target (Some t)).types
  target_valued k v target l t looked r value parts = by (is_row target) refl r
    where
      by : (b : Bool) → is_row target ≡ b → BoundTo C.classes b l t → Valued n (bind_target C true k target (Some t)).types
      by false q r =
          subst (λ (z : Known). Valued n z.types) (sym (single_bound C true k target (Some t) q))
          (name_valued k v target (name_in target) r.0 (aims_single k target l r.0 looked.parts r.1 (Rattle.py_check.proofs.Bound.leaves_one target q) looked.aims) t r.2 value)
      by true q r =
          let i = items_are t (length l) r.parts r.items in
          subst (λ (z : Known). Valued n z.types) (sym (row_bound C true k target t r.parts q (ap (items_for t) (sym looked.many) ∙ r.items)))
          (valued_names true k v (target_names target) r.parts (subst (λ z. list_all (is_value_type n) z ≡ true) i.2 (values_listed n i.0 (parts i.0 i.1))))

module _ (C : Context) (m : TypedModule) (locals : List Variable) (init : Option ℕ) where
  abbrev here : Context
  here = scene C m locals init

  abbrev size : ℕ
  size = length m.classes.classes

  valued_here : (V : VarSorts) → Describes here V m locals init → Valued size V
  valued_here V D = record { locals = λ i t e. (D.locals_are i t e).type; globals = λ i t e. (D.globals_are i t e).type }

  pub described : (V W : VarSorts) → Describes here V m locals init → AreDeclared m locals W → Valued size W → Describes here W m locals init
  described V W D d v = record {
    classes = D.classes;
    tree = D.tree;
    locals_are = λ i t e. record { is = d.of_function i t e; type = v.locals i t e };
    globals_are = λ i t e. record { is = d.of_module i t e; type = v.globals i t e };
    functions_are = D.functions_are;
    attributes_are = D.attributes_are;
    attributes_typed = D.attributes_typed;
    methods_are = D.methods_are;
    inits_are = D.inits_are;
    inits_signed = D.inits_signed;
    inside_is = D.inside_is;
    next_signed = D.next_signed;
  }

  -- behind statements with these bindings
  pub record Settled (V : VarSorts) (bs : List Binding) : Type 0 where
    pub valued : Valued size V
    pub closed : AllClosed here V bs

  -- ---- single statements

  settled_assign : (k : Known) → Describes here k.types m locals init → IsScope here k.types → (span : Span) (target e : ExprTree) → list_all law.is_written (leaves target) ≡ true → law.is_written e ≡ true → (a : TypedAct) → (assigns here k span target e).got ≡ Some a → Settled (binds here k span target e).types (target_bindings target)
  settled_assign k D s span target e wt we a h =
      let value = value_for here k target e in
      let targets = aims_behind here k target (option_map type_of value.got) in
      let r = rule_given span (assigned m.classes.classes target (asked_for here k target)) (both targets value) a h in
      let b = both_given targets value r.0 r.1 in
      let d = assigned_is m.classes.classes target (asked_for here k target) r.0 a r.2 in
      let v = given_stands C m locals init k D target wt r.0.0 (option_map type_of value.got) b.0 e we r.0.1 d.bound d.fits b.1 k.names (λ x q. q) in
      record {
        valued = subst (λ (l : Known). Valued size l.types) (sym (bound_same here k target (is_some (assigns here k span target e).got) (option_map type_of value.got) (type_of r.0.1) (some_is (assigns here k span target e).got a h) (ap (option_map type_of) b.1)))
            (target_valued here size k (valued_here k.types D) target r.0.0 (type_of r.0.1) (looked_behind here k target r.0.0 (option_map type_of value.got) (type_of r.0.1) b.0 (ap (option_map type_of) b.1)) d.bound (stands_type C m locals init k.names r.0.1 v) (λ ts q. parts_type C m locals init k.names r.0.1 ts v q));
        closed = target_closed here (is_some (assigns here k span target e).got) k s target (option_map type_of value.got);
      }

  text_is_itself : (x : List ℕ) → bytes_eq x x ≡ true
  text_is_itself x = (bytes_eq-Decides x x).1 refl

  mark_found : (x : List ℕ) (mark : ExprTree) → Rattle.py_check_definitions.specs.Starts.first_mark (bound x (Some mark)) x ≡ Some (Some mark)
  mark_found x mark = ap (λ b. cond b (Some (Some mark)) None) (text_is_itself x)

  settled_name : (k : Known) → Describes here k.types m locals init → IsScope here k.types → (ok : Bool) (target mark : ExprTree) (x : List ℕ) (t : Option Sort) → name_in target ≡ Some x → IsMarked here k.types (bound x (Some mark)) → Settled (bind_target here ok k target t).types (marked (name_in target) target mark)
  settled_name k D s ok target mark x t n h =
      let kept : (bind_target here ok k target t).types ≡ k.types =
      ap (λ (l : Known). l.types) (single_bound here ok k target t (name_no_row target x n) ∙ ap (λ o. bind_name here ok k o t) n) ∙ bind_set ok k (C.meaning x) t (h x mark (mark_found x mark)) in
      record {
        valued = subst (Valued size) (sym kept) (valued_here k.types D);
        closed = subst (λ o. AllClosed here (bind_target here ok k target t).types (marked o target mark)) (sym n) (record { here = name_closed here ok k s target t x n; rest = tt });
      }

  settled_annotated : (k : Known) → Describes here k.types m locals init → IsScope here k.types → (span : Span) (target mark : ExprTree) (e : Option ExprTree) (x : Option (List ℕ)) → name_in target ≡ x → IsMarked here k.types (marked x target mark) → (a : TypedAct) → (annotates here k span x target mark e).got ≡ Some a
      → Settled (binds_annotated here k span x target mark e).types (marked (name_in target) target mark)
  settled_annotated k D s span target mark e (Some x) n h a g = settled_name k D s (is_some (annotates_name here k span x mark e).got) target mark x (value_sort here k x e) n h
  settled_annotated k D s span target mark e None n h a g = by (own_attribute C.inside target) refl e g
    where
      by : (o : Option (ExprTree × List ℕ)) → own_attribute C.inside target ≡ o → (e : Option ExprTree) → (annotates_at here k span o target mark e).got ≡ Some a → Settled (bind_target here false k target (other_sort here k target e)).types (marked (name_in target) target mark)
      by None q None g = absurd (no_part_given (both (target_aims here k target) (annotation C.meaning mark)).got span no_target a g)
      by None q (Some e) g = absurd (no_part_given (both (both (aims_behind here k target (option_map type_of (value_for here k target e).got)) (annotation C.meaning mark)) (value_for here k target e)).got span no_target a g)
      by (Some p) q e g =
          let same = own_unbound here k target p (other_sort here k target e) q in
          subst (λ bs. Settled (bind_target here false k target (other_sort here k target e)).types bs) (sym (own_unmarked C.inside target p mark q))
          (record { valued = subst (λ (z : Known). Valued size z.types) (sym same) (valued_here k.types D); closed = tt })

  settled_update : (k : Known) → Describes here k.types m locals init → IsScope here k.types → (target : ExprTree) → Settled (bind_target here false k target None).types (target_bindings target)
  settled_update k D s target = record { valued = valued_names here size false k (valued_here k.types D) (target_names target) [] refl; closed = target_closed here false k s target None }

  settled_head : (k : Known) → Describes here k.types m locals init → IsScope here k.types → (s : StmtTree) (span : Span) (target e : ExprTree) → law.is_written e ≡ true → (p : List TypedTarget × Course) → (for_head here k s span target e).got ≡ Some p → Settled (in_for here k s span target e).types (target_bindings target)
  settled_head k D sc s span target e we p h =
      let l = entering here k s in
      let targets = aims_behind here l target (some_items (course here k e).got) in
      let parts = both targets (course here k e) in
      let q = made_given (λ (z : List Aim × Course). (targets_of z.0, z.1)) (rule span (head m.classes.classes (is_flat target) (is_row target)) parts) p h in
      let g = rule_given span (head m.classes.classes (is_flat target) (is_row target)) parts q.0 q.1 in
      let b = both_given targets (course here k e) g.0 g.1 in
      let d = head_is m.classes.classes target g.0 q.0 g.2 in
      let c = course_stands C m locals init None k D e we g.0.1 b.1 k.names (λ x z. z) in
      let v : is_value_type size d.0.item ≡ true = item_type C m locals init None k.names g.0.1 d.0.item c d.0.items in
      record {
        valued = subst (λ (z : Known). Valued size z.types) (sym (bound_same here l target (is_some (for_head here k s span target e).got) (some_items (course here k e).got) d.0.item (some_is (for_head here k s span target e).got p h) (ap some_items b.1 ∙ d.0.items)))
            (target_valued here size l (valued_here k.types D) target g.0.0 d.0.item (looked_behind here l target g.0.0 (some_items (course here k e).got) d.0.item b.0 (ap some_items b.1 ∙ d.0.items)) d.0.bound (λ z. v) (λ ts z. Rattle.py_check_laws.proofs.Values.third (Rattle.std.specs.Prelude.nat_lt 0 (length (listed_sorts ts))) (Rattle.std.specs.Prelude.nat_lt (length (listed_sorts ts)) 17) (are_value_types size ts) (subst (λ x. is_value_type size x ≡ true) z v)));
        closed = target_closed here (is_some (for_head here k s span target e).got) l sc target (some_items (course here k e).got);
      }

  -- the name of an except clause, which takes an exception
  settled_caught : (ok : Bool) (k : Known) → Describes here k.types m locals init → IsScope here k.types → (x : Option (List ℕ)) → Settled (bind_name here ok k x (Some (Exc Exception))).types (caught x)
  settled_caught ok k D sc None = record { valued = valued_here k.types D; closed = tt }
  settled_caught ok k D sc (Some x) = record {
    valued = valued_variable size ok k (valued_here k.types D) (C.meaning x) (Some (Exc Exception)) (λ o s e. of_type ok s e);
    closed = record { here = closed_variable ok k (C.meaning x) (Some (Exc Exception)) (scope_there here k.types sc x); rest = tt };
  }
    where
      of_type : (b : Bool) (s : Sort) → first_type b (Some (Exc Exception)) ≡ has s → is_value_type size s ≡ true
      of_type true s e = subst (λ z. is_value_type size z ≡ true) (sort_of_has (Exc Exception) s e) refl
      of_type false s e = absurd (untyped_first (Some (Exc Exception)) s e)

  -- ---- statements in a row

  -- what a row of statements stands on
  pub record Setting (V : VarSorts) (bs : List Binding) (end : VarSorts) : Type 0 where
    pub describes : Describes here V m locals init
    pub scope : IsScope here V
    pub marked : IsMarked here V bs
    pub follows : Follows V end
    pub declared : AreDeclared m locals end

  -- in front of what comes next
  setting_on : (V W end : VarSorts) (a b : List Binding) → Setting V (a ++ b) end → Follows V W → Follows W end → Settled W a → Setting W b end
  setting_on V W end a b g f r d = record {
    describes = described V W g.describes (declared_before m locals W end r g.declared) d.valued;
    scope = scope_on here V W f g.scope;
    marked = marked_behind here V W f a b g.marked d.closed;
    follows = r;
    declared = g.declared;
  }

  setting_front : (V end : VarSorts) (a b : List Binding) → Setting V (a ++ b) end → Setting V a end
  setting_front V end a b g = record { describes = g.describes; scope = g.scope; marked = marked_front here V a b g.marked; follows = g.follows; declared = g.declared }

  settled_both : (V W : VarSorts) (a b : List Binding) → Follows V W → Settled V a → Settled W b → Settled W (a ++ b)
  settled_both V W a b f p q = record { valued = q.valued; closed = closed_both here W a b (closed_on here V W f a p.closed) q.closed }

  nothing_bound : (V end : VarSorts) (bs : List Binding) → Setting V bs end → Settled V []
  nothing_bound V end bs g = record { valued = valued_here V g.describes; closed = tt }

  settled_definition : (k : Known) (end : VarSorts) (bs : List Binding) → Setting k.types bs end → (s : StmtTree) → is_definition s ≡ true → Settled (after here k s).types (stmt_bindings s)
  settled_definition k end bs g s d =
      subst (λ (l : Known). Settled l.types (stmt_bindings s)) (sym (definition_after here k s d)) (subst (Settled k.types) (sym (definition_shape s d).2) (nothing_bound k.types end bs g))

  module _ (r : ReturnSort) where
    -- a statement, and what stands behind it
    stmt_and_rest : (around : Around) (k : Known) (s : StmtTree) (more : Suite) (ts : List TypedStmt) (b : Bool) → is_definition s ≡ b → (b ≡ true → Settled (after here k s).types (stmt_bindings s)) → ((t : TypedStmt) → (statement here r around k s).got ≡ Some t → Settled (after here k s).types (stmt_bindings s))
        → (if b then block here r around k more else row_then (statement here r around k s) (block here r around (after here k s) more)).got ≡ Some ts → Settled (after here k s).types (stmt_bindings s) × (l : List TypedStmt) × ((block here r around (after here k s) more).got ≡ Some l)
    stmt_and_rest around k s more ts true d f g h = (f refl, ts, ap (λ (l : Known). (block here r around l more).got) (definition_after here k s d) ∙ h)
    stmt_and_rest around k s more ts false d f g h = let q = row_given (statement here r around k s) (block here r around (after here k s) more) ts h in (g q.0 q.2, q.1, q.3)

    mutual
      settled_stmt : (around : Around) (k : Known) (s : StmtTree) (end : VarSorts) → Setting k.types (stmt_bindings s) end → Follows (after here k s).types end → is_stmt_written s ≡ true → (t : TypedStmt) → (statement here r around k s).got ≡ Some t → Settled (after here k s).types (stmt_bindings s)
      settled_stmt around k (node.at n span) end g f w t h = let q = made_given (λ a. on_line a span.line) (node_statement here r around k span n) t h in settled_act around k span n end g f w q.0 q.1

      settled_act : (around : Around) (k : Known) (span : Span) (n : StmtNode) (end : VarSorts) → Setting k.types (act_bindings n) end → Follows (node_after here k span n).types end → is_act_written n ≡ true → (a : TypedAct) → (node_statement here r around k span n).got ≡ Some a → Settled (node_after here k span n).types (act_bindings n)
      settled_act around k span (node.Assign target e) end g f w a h =
          let wt = and_left (are_targets (leaves target)) (law.is_written e) w in
          settled_assign k g.describes g.scope span target e wt (and_right (are_targets (leaves target)) (law.is_written e) w) a h
      settled_act around k span (node.Annot target mark e) end g f w a h = settled_annotated k g.describes g.scope span target mark e (name_in target) refl g.marked a h
      settled_act around k span (node.Aug target op e) end g f w a h = settled_update k g.describes g.scope target
      settled_act around k span (node.If arms other) end g f w a h =
          let l = (arms_after here (setting_out k) arms).at in
          let s = branches here r around (setting_out k) arms in
          let t = block here r around l other in
          let q = made_given (λ p. act.If (arms_of p.0) (suite_of p.1)) (both s t) a h in
          let b = both_given s t q.0 q.1 in
          let written = Rattle.py_check_laws.proofs.Values.of_three (Rattle.py_check_laws.specs.WellTyped.has_test arms) (are_arms_written arms) (is_suite_written other) w in
          let fl = follows_block here l other in
          let first = settled_arms around (setting_out k) arms end (setting_front k.types end (arms_bindings arms) (suite_bindings other) g) (follows_on l.types (block_after here l other).types end fl f) written.1 q.0.0 b.0 in
          let next = setting_on k.types l.types end (arms_bindings arms) (suite_bindings other) g (follows_arms here (setting_out k) arms) (follows_on l.types (block_after here l other).types end fl f) first in
          settled_both l.types (block_after here l other).types (arms_bindings arms) (suite_bindings other) fl first (settled_block around l other end next f written.2 q.0.1 b.1)
      settled_act around k span (node.While e body) end g f w a h =
          let l = entering here k (node.at (node.While e body) span) in
          let s = condition here l e in
          let t = block here r (around_loop around) (where_test here l true e) body in
          let q = made_given (λ p. act.While p.0 (suite_of p.1)) (both s t) a h in
          let b = both_given s t q.0 q.1 in
          let written = Rattle.py_check_laws.proofs.Values.of_three (law.is_written e) (is_filled body) (is_suite_written body) w in
          settled_block (around_loop around) (where_test here l true e) body end g f written.2 q.0.1 b.1
      settled_act around k span (node.For target e body) end g f w a h =
          let st = node.at (node.For target e body) span in
          let s = for_head here k st span target e in
          let l = in_for here k st span target e in
          let t = block here r (around_loop around) l body in
          let q = made_given (λ p. loop_of p.0.0 p.0.1 (suite_of p.1)) (both s t) a h in
          let b = both_given s t q.0 q.1 in
          let written = Rattle.py_check_laws.proofs.Values.of_three (law.is_written e) (is_filled body) (is_suite_written body) w in
          let fl = follows_block here l body in
          let first = settled_head k g.describes g.scope st span target e written.0 q.0.0 b.0 in
          let fh = follows_target here (is_some s.got) (entering here k st) target (some_items (course here k e).got) in
          let next = setting_on k.types l.types end (target_bindings target) (suite_bindings body) g fh (follows_on l.types (block_after here l body).types end fl f) first in
          settled_both l.types (block_after here l body).types (target_bindings target) (suite_bindings body) fl first (settled_block (around_loop around) l body end next f written.2 q.0.1 b.1)
      settled_act around k span (node.Try body handlers last) end g f w a h =
          let names = outside_try here k (node.at (node.Try body handlers last) span) in
          let l = block_after here k body in
          let n = handlers_after here names l handlers in
          let z = last_after here names n last in
          let s = block here r around k body in
          let t = clauses here r around names l handlers in
          let u = maybe_block here r around names n last in
          let q = made_given try_of (both (both s t) u) a h in
          let b = both_given (both s t) u q.0 q.1 in
          let d = both_given s t q.0.0 b.0 in
          let written = Rattle.py_check_laws.proofs.Values.of_five (has_clause handlers last) (is_filled body) (is_suite_written body) (are_handlers_written handlers) (is_last_written last) w in
          let bs = suite_bindings body in
          let hs = handlers_bindings handlers in
          let ls = last_bindings last in
          let fc = follows_clauses here names l handlers in
          let fl = follows_last here names n last in
          let fn = follows_on n.types z.types end fl f in
          let fe = follows_on l.types n.types end fc fn in
          let first = settled_block around k body end (setting_front k.types end bs (hs ++ ls) g) fe written.2 q.0.0.0 d.0 in
          let next = setting_on k.types l.types end bs (hs ++ ls) g (follows_block here k body) fe first in
          let second = settled_clauses around names l handlers end (setting_front l.types end hs ls next) fn written.3 q.0.0.1 d.1 in
          let third = settled_last around names n last end (setting_on l.types n.types end hs ls next fc fn second) f written.4 q.0.1 b.1 in
          settled_both l.types z.types bs (hs ++ ls) (follows_on l.types n.types z.types fc fl) first (settled_both n.types z.types hs ls fl second third)
      settled_act around k span n end g f w a h = nothing_bound k.types end (act_bindings n) g

      pub settled_block : (around : Around) (k : Known) (body : Suite) (end : VarSorts) → Setting k.types (suite_bindings body) end → Follows (block_after here k body).types end → is_suite_written body ≡ true → (ts : List TypedStmt) → (block here r around k body).got ≡ Some ts → Settled (block_after here k body).types (suite_bindings body)
      settled_block around k no_stmts end g f w ts h = nothing_bound k.types end [] g
      settled_block around k (stmt_then s more) end g f w ts h =
          let l = after here k s in
          let fl = follows_block here l more in
          let fe = follows_on l.types (block_after here l more).types end fl f in
          let front = setting_front k.types end (stmt_bindings s) (suite_bindings more) g in
          let q = stmt_and_rest around k s more ts (is_definition s) refl (λ d. settled_definition k end (stmt_bindings s) front s d)
          (λ t e. settled_stmt around k s end front fe (and_left (is_stmt_written s) (is_suite_written more) w) t e) h in
          let next = setting_on k.types l.types end (stmt_bindings s) (suite_bindings more) g (follows_stmt here k s) fe q.0 in
          settled_both l.types (block_after here l more).types (stmt_bindings s) (suite_bindings more) fl q.0 (settled_block around l more end next f (and_right (is_stmt_written s) (is_suite_written more) w) q.1 q.2)

      settled_arms : (around : Around) (w : Way) (arms : Arms) (end : VarSorts) → Setting w.at.types (arms_bindings arms) end → Follows (arms_after here w arms).at.types end → are_arms_written arms ≡ true → (l : List (TypedExpr × TypedSuite)) → (branches here r around w arms).got ≡ Some l → Settled (arms_after here w arms).at.types (arms_bindings arms)
      settled_arms around w no_arms end g f written l h = nothing_bound w.at.types end [] g
      settled_arms around w (arm_then e body more) end g f written l h =
          let s = condition here w.at e in
          let inner = where_test here w.at true e in
          let t = block here r around inner body in
          let after_body = block_after here inner body in
          let next = behind_arm here w e (is_closed body) after_body in
          let one = made (λ p. (p.0, suite_of p.1)) (both s t) in
          let q = row_given one (branches here r around next more) l h in
          let v = made_given (λ p. (p.0, suite_of p.1)) (both s t) q.0 q.2 in
          let b = both_given s t v.0 v.1 in
          let ws = Rattle.py_check_laws.proofs.Values.of_four (law.is_written e) (is_filled body) (is_suite_written body) (are_arms_written more) written in
          let fr = follows_arms here next more in
          let fe = follows_on after_body.types (arms_after here next more).at.types end fr f in
          let first = settled_block around inner body end (setting_front w.at.types end (suite_bindings body) (arms_bindings more) g) fe ws.2 v.0.1 b.1 in
          let rest = setting_on w.at.types after_body.types end (suite_bindings body) (arms_bindings more) g (follows_block here inner body) fe first in
          settled_both after_body.types (arms_after here next more).at.types (suite_bindings body) (arms_bindings more) fr first (settled_arms around next more end rest f ws.3 q.1 q.3)

      settled_clauses : (around : Around) (names : List ℕ) (k : Known) (handlers : Handlers) (end : VarSorts) → Setting k.types (handlers_bindings handlers) end → Follows (handlers_after here names k handlers).types end → are_handlers_written handlers ≡ true → (l : List HandlerParts) → (clauses here r around names k handlers).got ≡ Some l → Settled (handlers_after here names k handlers).types (handlers_bindings handlers)
      settled_clauses around names k no_handlers end g f w l h = nothing_bound k.types end [] g
      settled_clauses around names k (handler_then e x body span more) end g f w l h =
          let begun = in_handler here (with_names k names) span e x (is_last more) in
          let after_body = block_after here begun body in
          let z = handlers_after here names after_body more in
          let s = handler_head here (with_names k names) span e x (is_last more) in
          let t = block here r (around_clause around) begun body in
          let q = row_given (made clause_of (both s t)) (clauses here r around names after_body more) l h in
          let v = made_given clause_of (both s t) q.0 q.2 in
          let b = both_given s t v.0 v.1 in
          let ws = Rattle.py_check_laws.proofs.Values.of_three (is_filled body) (is_suite_written body) (are_handlers_written more) w in
          let bs = suite_bindings body in
          let hs = handlers_bindings more in
          let fb = follows_block here begun body in
          let fr = follows_clauses here names after_body more in
          let fe = follows_on after_body.types z.types end fr f in
          let fn = follows_on begun.types after_body.types end fb fe in
          let first = settled_caught (is_some s.got) (with_names k names) g.describes g.scope x in
          let next = setting_on k.types begun.types end (caught x) (bs ++ hs) g (follows_name here (is_some s.got) (with_names k names) x (Some (Exc Exception))) fn first in
          let second = settled_block (around_clause around) begun body end (setting_front begun.types end bs hs next) fe ws.1 v.0.1 b.1 in
          let third = settled_clauses around names after_body more end (setting_on begun.types after_body.types end bs hs next fb fe second) f ws.2 q.1 q.3 in
          settled_both begun.types z.types (caught x) (bs ++ hs) (follows_on begun.types after_body.types z.types fb fr) first (settled_both after_body.types z.types bs hs fr second third)

      settled_last : (around : Around) (names : List ℕ) (k : Known) (last : MaybeSuite) (end : VarSorts) → Setting k.types (last_bindings last) end → Follows (last_after here names k last).types end → is_last_written last ≡ true → (o : Option (List TypedStmt)) → (maybe_block here r around names k last).got ≡ Some o → Settled (last_after here names k last).types (last_bindings last)
      settled_last around names k no_suite end g f w o h = nothing_bound k.types end [] g
      settled_last around names k (some_suite body) end g f w o h =
          let q = made_given present (block here r around (with_names k names) body) o h in settled_block around (with_names k names) body end g f (and_right (is_filled body) (is_suite_written body) w) q.0 q.1

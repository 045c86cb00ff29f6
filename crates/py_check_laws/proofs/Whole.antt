-- Statements of which nothing is said and in which each name is known are typed whole, and leave no name without a type.
use Rattle.std.proofs.Common.{◌≡◌, ℕ, suc, Bool, true, false, List, [], ◌∷◌, ◌++◌, length, Option, Some, None, refl, ap, sym, ◌∙◌, subst, if◌then◌else◌}
use Rattle.std.proofs.lemmas.Option.{same_Some}
use Rattle.std.proofs.lemmas.List.{length-map}
use Rattle.std.specs.Prelude.{is_some}
use Rattle.std.specs.Option.{option_map, option_and_then}
use Rattle.value_core.specs.declared.exception.ExcClass.TheVariants.{Exception}
use Rattle.py_syntax.specs.declared.token.Span.{Span}
use Rattle.py_syntax.specs.declared.expression.BinOp.{BinOp}
use Rattle.py_syntax.specs.Expressions as tree
use Rattle.py_syntax.specs.Expressions.{ExprTree, at, ExprTrees, no_exprs, expr_then, Arguments}
use Rattle.py_syntax.specs.Statements as node
use Rattle.py_syntax.specs.Statements.{StmtTree, StmtNode, Suite, no_stmts, stmt_then, Arms, no_arms, arm_then, Handlers, no_handlers, handler_then, MaybeSuite, no_suite, some_suite}
use Rattle.py_typed.specs.Sorts as sort
use Rattle.py_typed.specs.Sorts.{Sort}
use Rattle.py_typed.specs.Fits.{is_nothing}
use Rattle.py_typed.specs.Expressions.{TypedExpr, TypedNode, type_of}
use Rattle.py_typed.specs.Statements as act
use Rattle.py_typed.specs.Statements.{TypedTarget, TypedAct, TypedStmt, TypedSuite, on_line, suite_of, arms_of}
use Rattle.py_binder.specs.declared.sight.Manner.TheVariants.{Value, Annotation}
use Rattle.py_binder.specs.declared.sight.Home.{Home}
use Rattle.py_binder.specs.Sights.{Sight, reads, maybe_reads, list_reads, exprs_reads, arguments_reads, target_sights, stmt_sights, stmt_node_sights, suite_sights, arms_sights, caught_sights, handlers_sights, maybe_suite_sights}
use Rattle.py_check_context.specs.declared.scope.Meaning.{Meaning}
use Rattle.py_check_context.specs.declared.scope.Meaning.TheVariants as meaning
use Rattle.py_check_context.specs.Context.{Context, VarSort, unset, untyped, has, VarSorts, var_at, Wanted, free, test, along}
use Rattle.py_check_flow.specs.Bindings.{name_in}
use Rattle.py_check_flow.specs.Closed.{is_closed}
use Rattle.py_check_messages.specs.Seen.{Seen, Message, is, fails, both, behind, rule, made}
use Rattle.py_check_messages.specs.Rows.{row_then}
use Rattle.py_check_messages.specs.Messages.{no_target}
use Rattle.py_check_annotations.specs.Annotations.{annotation}
use Rattle.py_check_annotations.specs.Names.{is_unknown}
use Rattle.py_check_coercions.specs.Values.{truth}
use Rattle.py_check_coercions.specs.Several.{with_part}
use Rattle.py_check_operators.specs.Names.{variable, named}
use Rattle.py_check_calls.specs.Callees.{has_key}
use Rattle.py_check_calls.specs.Calls.{positional}
use Rattle.py_check_expressions.specs.Typing.{arguments}
use Rattle.py_check_values.specs.Returns as ret
use Rattle.py_check_values.specs.Returns.{ReturnSort, bare_return, value_return, due}
use Rattle.py_check_places.specs.Places.{Known, is_unset, fix, is_bound, bind_variable, bind_name, bind_names, with_names, where_test, entering, Way, setting_out, behind_arm}
use Rattle.py_check_places.specs.Shapes.{is_row, is_item, is_flat, leaves, target_names, bind_target, parts_of, is_access}
use Rattle.py_check_values.specs.Aims.{Aim}
use Rattle.py_check_targets.specs.Targets.{name_aim, variable_aim, seen_aim, value_aim, read_aim, targets_of, assigned, declared, given, updated, typed_at, single_aim, aims, target_aims, next_part, more_parts, beyond, aims_behind, other_aim, declared_own, given_own}
use Rattle.py_check_assignments.specs.Assignments.{value_for, assigns, binds, declares, annotated_value, gives_value, annotates_name, annotates_other, annotates, other_sort, binds_annotated, updates_one, updates_row, updates, asked_for, annotates_own, annotates_at, updates_single, row_refused}
use Rattle.py_check_loops.specs.Loops.{value, range_call, is_range_name, range_arguments, span_of, course_by, course, head, loop_of}
use Rattle.py_check_loops.specs.Heads.{some_items, for_head, in_for}
use Rattle.py_check_statements.specs.Deletions.{deletion}
use Rattle.py_check_exceptions.specs.Raises.{asked, raised, asserted, raises_value, raises_named, raises_by, raises, asserts}
use Rattle.py_check_exceptions.specs.Handlers.{only, tuple_items, named_class, class_by, class_at, classes_along, caught_by, caught, name_at, is_early, handler_head, in_handler}
use Rattle.py_check_exceptions.specs.Handlers as clause
use Rattle.py_check_statements.specs.declared.bodies.Around.{Around}
use Rattle.py_check_statements.specs.Bodies.{is_definition, condition, after, node_after, block_after, arms_after, handlers_after, last_after, outside_try, return_wanted, returns, in_loop, around_loop, around_clause, is_last, clause_of, try_of, present, statement, node_statement, block, branches, clauses, maybe_block}
use Rattle.py_check_expressions_laws.specs.Laws.{is_voiceless, is_untyped, AllHaveTypes, is_voiceless_member, is_voiceless_init, is_voiceless_inside}
use Rattle.py_check_expressions_laws.proofs.Inside.{either}
use Rattle.py_check_expressions_laws.proofs.Loud.{IsLoud, loud_is, loud_fails, none_before, none_behind, both_say, loud_both, loud_made, loud_behind, loud_judged, loud_rule, loud_row, loud_positional, loud_typing, loud_arguments}
use Rattle.py_check_laws.proofs.Looked.{looked_behind}
use Rattle.py_check_laws.specs.Statements.{is_judged}
use Rattle.py_check_laws.proofs.Given.{some_is, rule_given, both_given, made_given}
use Rattle.py_check.proofs.Bound.{single_bound, name_no_row}
use Rattle.py_check.proofs.Kept.{fix_cases, is_open, bind_set}
use Rattle.py_check_assignments.proofs.AssignmentLemmas.{own_unbound}
use Rattle.py_check_laws.proofs.Assigned.{row_bound, items_are, BoundTo, assigned_is, head_is, row_none}
use Rattle.py_check_expressions_laws.proofs.Known.{known_left, known_right, known_name}
use Rattle.py_check_laws.proofs.KnownParts.{AreKnown, target_read, leaves_read}
use Rattle.py_check_laws.proofs.Annotated.{loud_if, loud_annotation}
use Rattle.py_check_context.specs.Members as member
use Rattle.py_check_context.specs.Members.{Member}
use Rattle.py_check_targets.specs.Attributes.{own_attribute, lacking_in, lacking_at, is_set_first, class_inside, declaring_fault}

-- ---- variables

-- no variable is without a type for good
pub record AllTyped (V : VarSorts) : Type 0 where
  pub locals : (i : ℕ) → is_untyped (var_at V.locals i) ≡ false
  pub globals : (i : ℕ) → is_untyped (var_at V.globals i) ≡ false

typed_fix : (types : List VarSort) (i : ℕ) (v : VarSort) → ((j : ℕ) → is_untyped (var_at types j) ≡ false) → is_untyped v ≡ false → (j : ℕ) → is_untyped (var_at (fix types i v) j) ≡ false
typed_fix types i v all h j = either (fix_cases types i j v) (λ e. ap is_untyped e ∙ all j) (λ e. ap is_untyped e.1 ∙ h)

typed_variable : (k : Known) → AllTyped k.types → (m : Meaning) (t : Sort) → AllTyped (bind_variable true k m (Some t)).types
typed_variable k all (meaning.Local i) t = record { locals = typed_fix k.types.locals i (has t) all.locals refl; globals = all.globals }
typed_variable k all (meaning.Global i) t = record { locals = all.locals; globals = typed_fix k.types.globals i (has t) all.globals refl }
typed_variable k all _ t = all

-- ---- what is loud

-- what is said of nothing is typed
pub quiet_got : {A : Type 0} (s : Seen A) → IsLoud s → s.said ≡ [] → (a : A) × (s.got ≡ Some a)
quiet_got {A = A} s l h = by s.got refl
  where
    by : (o : Option A) → s.got ≡ o → (a : A) × (s.got ≡ Some a)
    by None q = absurd (l.says q h)
    by (Some a) q = (a, q)

loud_both_then : {A B : Type 0} (s : Seen A) (t : Seen B) → IsLoud s → (s.said ≡ [] → IsLoud t) → IsLoud (both s t)
loud_both_then s t l next = record { says = λ e f. both_say s t l (next (none_before s.said t.said f)) s.got t.got refl refl e f }

loud_then : {A : Type 0} (one : Seen A) (rest : Seen (List A)) → IsLoud one → (one.said ≡ [] → IsLoud rest) → IsLoud (row_then one rest)
loud_then one rest l next = loud_made (λ p. p.0 ∷ p.1) (both one rest) (loud_both_then one rest l next)

loud_unless : {A : Type 0} (b : Bool) (s t : Seen A) → IsLoud s → (b ≡ false → IsLoud t) → IsLoud (if b then s else t)
loud_unless true s t l m = l
loud_unless false s t l m = m refl

loud_seen : (o : Option Aim) → (o ≡ None → ⊥) → IsLoud (seen_aim o)
loud_seen o n = record { says = λ e f. n e }

loud_bare : (span : Span) (r : ReturnSort) → is_judged r ≡ true → IsLoud (bare_return span r)
loud_bare span ret.outside h = loud_fails span _
loud_bare span ret.untyped h = absurd (cc)
loud_bare span (ret.gives t) h = loud_if (is_nothing t) (is tt) (fails span _) (loud_is tt) (loud_fails span _)

variable_there : (t : TypedTarget) (x : List ℕ) (v : VarSort) → is_untyped v ≡ false → variable_aim t x v ≡ None → ⊥
variable_there t x unset h e = cc
variable_there t x untyped h e = absurd (cc)
variable_there t x (has s) h e = cc

aim_there : (k : Known) → AllTyped k.types → (x : List ℕ) (m : Meaning) → name_aim k x m ≡ None → ⊥
aim_there k all x (meaning.Local i) e = variable_there (act.LocalTarget i) x (var_at k.types.locals i) (all.locals i) e
aim_there k all x (meaning.Global i) e = variable_there (act.GlobalTarget i) x (var_at k.types.globals i) (all.globals i) e
aim_there k all x _ e = cc

loud_in_loop : (r : ReturnSort) (C : Context) (looping : Bool) (span : Span) (word : List ℕ) (a : TypedAct) → IsLoud (in_loop looping span word a)
loud_in_loop r C true span word a = loud_is a
loud_in_loop r C false span word a = loud_fails span _

meaning_typed : (signatures : List (Option Rattle.py_typed.specs.Classes.Signature)) (m : Meaning) → is_voiceless signatures m ≡ false → Rattle.py_check_annotations.specs.Names.is_untyped m ≡ false
meaning_typed signatures meaning.Untyped h = absurd (cc)
meaning_typed signatures meaning.UntypedClass h = absurd (cc)
meaning_typed signatures _ h = refl

no_part : {A B : Type 0} (o : Option A) (span : Span) (m : Message) → (with_part {A = A} {B = B} o (λ q. fails span m)).got ≡ None
no_part None span m = refl
no_part (Some a) span m = refl

-- ---- a name that is read

variable_set : (span : Span) (x : List ℕ) (e : TypedNode) (b : Bool) (v : VarSort) (t : TypedExpr) → (variable span x e b v).got ≡ Some t → is_unset v ≡ false
variable_set span x e b unset t h = absurd (cc)
variable_set span x e b untyped t h = refl
variable_set span x e b (has s) t h = refl

named_set : (k : Known) (span : Span) (x : List ℕ) (m : Meaning) (t : TypedExpr) → (named k.types k.names span x m).got ≡ Some t → is_open k.types m ≡ false
named_set k span x (meaning.Local i) t h = variable_set span x (Rattle.py_typed.specs.Expressions.Local i) (Rattle.py_typed.specs.Narrowing.is_in k.names i) (var_at k.types.locals i) t h
named_set k span x (meaning.Global i) t h = variable_set span x (Rattle.py_typed.specs.Expressions.Global i) false (var_at k.types.globals i) t h
named_set k span x _ t h = refl

module _ (C : Context) where
  pub read_set : (k : Known) (target : ExprTree) (x : List ℕ) → name_in target ≡ Some x → (t : TypedExpr) → (typed_at C k free target).got ≡ Some t → is_open k.types (C.meaning x) ≡ false
  read_set k (at (tree.Name y) span) x h t g = ap (λ z. is_open k.types (C.meaning z)) (sym (same_Some y x h)) ∙ named_set k span y (C.meaning y) t g
  read_set k _ x h t g = absurd (cc)

  -- a binding of one target that is no tuple
  pub definition_after : (k : Known) (s : StmtTree) → is_definition s ≡ true → after C k s ≡ k
  definition_after k (node.at (node.Import m other) span) h = refl
  definition_after k (node.at (node.From m names) span) h = refl
  definition_after k (node.at (node.Def f params ret body marks) span) h = refl
  definition_after k (node.at (node.ClassDef x bases body marks) span) h = refl
  definition_after k _ h = absurd (cc)

  pub bound_same : (k : Known) (target : ExprTree) (b : Bool) (o : Option Sort) (t : Sort) → b ≡ true → o ≡ Some t → bind_target C b k target o ≡ bind_target C true k target (Some t)
  bound_same k target b o t p q = ap (λ (c : Bool). bind_target C c k target o) p ∙ ap (λ (s : Option Sort). bind_target C true k target s) q

  -- ---- what is bound to typed parts has a type

  typed_name : (k : Known) → AllTyped k.types → (x : Option (List ℕ)) (t : Sort) → AllTyped (bind_name C true k x (Some t)).types
  typed_name k all None t = all
  typed_name k all (Some x) t = typed_variable k all (C.meaning x) t

  typed_names : (k : Known) → AllTyped k.types → (xs : List (Option (List ℕ))) (ts : List Sort) → length xs ≡ length ts → AllTyped (bind_names C true k xs ts).types
  typed_names k all [] ts h = all
  typed_names k all (x ∷ xs) [] h = absurd (cc)
  typed_names k all (x ∷ xs) (t ∷ ts) h = typed_names (bind_name C true k x (Some t)) (typed_name k all x t) xs ts (one_less (length xs) (length ts) h)
    where
      one_less : (a b : ℕ) → suc a ≡ suc b → a ≡ b
      one_less a b h = cc

  typed_single : (k : Known) → AllTyped k.types → (target : ExprTree) (t : Sort) → is_row target ≡ false → AllTyped (bind_target C true k target (Some t)).types
  typed_single k all target t h = subst (λ (l : Known). AllTyped l.types) (sym (single_bound C true k target (Some t) h)) (typed_name k all (name_in target) t)

  typed_bound : (k : Known) → AllTyped k.types → (target : ExprTree) (l : List Aim) → length l ≡ length (leaves target) → (t : Sort) → BoundTo C.classes (is_row target) l t → AllTyped (bind_target C true k target (Some t)).types
  typed_bound k all target l n t r = by (is_row target) refl r
    where
      by : (b : Bool) → is_row target ≡ b → BoundTo C.classes b l t → AllTyped (bind_target C true k target (Some t)).types
      by false q r = typed_single k all target t q
      by true q r =
          let i = items_are t (length l) r.parts r.items in
          subst (λ (l : Known). AllTyped l.types) (sym (row_bound C true k target t r.parts q (ap (Rattle.py_check_values.specs.Assignments.items_for t) (sym n) ∙ r.items))) (typed_names k all (target_names target) r.parts (length-map (leaves target) name_in ∙ sym n ∙ sym i.3))

  -- no name in reach but a variable, and no member of a class, is without a type
  pub record InReach : Type 0 where
    pub names : (x : List ℕ) → is_voiceless C.signatures (C.meaning x) ≡ false
    pub members : (n : ℕ) (a : List ℕ) → is_voiceless_member C.signatures (C.member n a) ≡ false
    pub inits : (n : ℕ) → is_voiceless_init C.signatures (C.init n) ≡ false
    pub inside : is_voiceless_inside C.signatures C.inside ≡ false

  module _ (reach : InReach) where
    names : (x : List ℕ) → is_voiceless C.signatures (C.meaning x) ≡ false
    names x = reach.names x

    pub all_have : (V : VarSorts) → AllTyped V → AllHaveTypes C V
    all_have V all = record { names = reach.names; locals = all.locals; globals = all.globals; members = reach.members; inits = reach.inits; inside = reach.inside }

    -- so nothing sets an attribute that nothing declares
    not_first : (o : Option Member) (span : Span) → is_voiceless_member C.signatures o ≡ false → is_set_first o span ≡ false
    not_first None span h = refl
    not_first (Some (member.attribute t)) span h = refl
    not_first (Some member.untyped) span h = absurd (cc)
    not_first (Some (member.unknown place)) span h = absurd (cc)
    not_first (Some (member.method f)) span h = refl

    none_lacks : (e : ExprTree) → lacking_in C e ≡ None
    none_lacks (at n span) = by (own_attribute C.inside (at n span))
      where
        in_class : (a : List ℕ) (o : Option ℕ) → is_set_first (option_and_then (λ n. C.member n a) o) span ≡ false
        in_class a None = refl
        in_class a (Some n) = not_first (C.member n a) span (reach.members n a)

        by : (o : Option (ExprTree × List ℕ)) → lacking_at C span o ≡ None
        by None = refl
        by (Some p) = ap (λ b. if b then Some p else None) (in_class p.1 (class_inside C.inside))

    meanings_typed : (x : List ℕ) → Rattle.py_check_annotations.specs.Names.is_untyped (C.meaning x) ≡ false
    meanings_typed x = meaning_typed C.signatures (C.meaning x) (names x)

    -- ---- parts

    front : (xs ys : List Sight) → AreKnown C.meaning (xs ++ ys) → AreKnown C.meaning xs
    front xs ys u = known_left C.meaning xs ys u

    back : (xs ys : List Sight) → AreKnown C.meaning (xs ++ ys) → AreKnown C.meaning ys
    back xs ys u = known_right C.meaning xs ys u

    loud_value : (k : Known) → AllTyped k.types → (w : Wanted) (e : ExprTree) → AreKnown C.meaning (reads Value e) → IsLoud (typed_at C k w e)
    loud_value k all w e u = loud_typing C k.types (all_have k.types all) w k.names e u

    loud_single : (k : Known) → AllTyped k.types → (x : Option (List ℕ)) (e : ExprTree) → AreKnown C.meaning (reads Value e) → IsLoud (single_aim C k x e)
    loud_single k all None e u = subst (λ o. IsLoud (other_aim C k e o)) (sym (none_lacks e)) (loud_made (value_aim (is_access e)) (typed_at C k free e) (loud_value k all free e u))
    loud_single k all (Some x) e u = loud_seen (name_aim k x (C.meaning x)) (aim_there k all x (C.meaning x))

    read_known : (e : ExprTree) (x : List ℕ) → name_in e ≡ Some x → AreKnown C.meaning (reads Value e) → is_unknown (C.meaning x) ≡ false
    read_known (at (tree.Name y) span) x q u = ap (λ (z : List ℕ). is_unknown (C.meaning z)) (sym (same_Some y x q)) ∙ known_name C.meaning y span u
    read_known _ x q u = absurd (cc)

    loud_aims : (k : Known) → AllTyped k.types → (ts : Option (List Sort)) (es : List ExprTree) → AreKnown C.meaning (list_reads Value es) → IsLoud (aims C k ts es)
    loud_aims k all ts [] u = loud_is []
    loud_aims k all ts (e ∷ more) u =
        let next = beyond C k (name_in e) (next_part ts) in
        loud_row (single_aim C k (name_in e) e) (aims C next (more_parts ts) more) (loud_single k all (name_in e) e (front (reads Value e) (list_reads Value more) u)) (loud_aims next all (more_parts ts) more (back (reads Value e) (list_reads Value more) u))

    loud_targets : (k : Known) → AllTyped k.types → (target : ExprTree) → AreKnown C.meaning (target_sights target) → IsLoud (target_aims C k target)
    loud_targets k all target u = loud_aims k all None (leaves target) (leaves_read C.meaning target u)

    loud_late : (k : Known) → AllTyped k.types → (target : ExprTree) (t : Option Sort) → AreKnown C.meaning (target_sights target) → IsLoud (aims_behind C k target t)
    loud_late k all target t u = loud_aims k all (Some (parts_of (is_row target) (length (leaves target)) t)) (leaves target) (leaves_read C.meaning target u)

    loud_assigns : (k : Known) → AllTyped k.types → (span : Span) (target e : ExprTree) → AreKnown C.meaning (target_sights target ++ reads Value e) → IsLoud (assigns C k span target e)
    loud_assigns k all span target e u =
        let value = value_for C k target e in
        let targets = aims_behind C k target (option_map type_of value.got) in
        loud_rule span (assigned C.classes target (asked_for C k target)) (both targets value) (loud_both targets value (loud_late k all target (option_map type_of value.got) (front (target_sights target) (reads Value e) u)) (loud_value k all _ e (back (target_sights target) (reads Value e) u)))

    loud_declares : (k : Known) → AllTyped k.types → (span : Span) (x : List ℕ) (mark : ExprTree) → AreKnown C.meaning (reads Annotation mark) → IsLoud (declares C k span x mark)
    loud_declares k all span x mark u =
        let a = seen_aim (name_aim k x (C.meaning x)) in
        loud_rule span (declared x (is_bound k (C.meaning x))) (both a (annotation C.meaning mark)) (loud_both a (annotation C.meaning mark) (loud_seen (name_aim k x (C.meaning x)) (aim_there k all x (C.meaning x))) (loud_annotation C.meaning meanings_typed mark u))

    loud_gives : (k : Known) → AllTyped k.types → (span : Span) (x : List ℕ) (mark e : ExprTree) → AreKnown C.meaning (reads Annotation mark ++ reads Value e) → IsLoud (gives_value C k span x mark e)
    loud_gives k all span x mark e u =
        let a = seen_aim (name_aim k x (C.meaning x)) in
        let b = both a (annotation C.meaning mark) in
        loud_rule span (given C.classes x (is_bound k (C.meaning x))) (both b (annotated_value C k x e))
        (loud_both b (annotated_value C k x e) (loud_both a (annotation C.meaning mark) (loud_seen (name_aim k x (C.meaning x)) (aim_there k all x (C.meaning x))) (loud_annotation C.meaning meanings_typed mark (front (reads Annotation mark) (reads Value e) u))) (loud_value k all _ e (back (reads Annotation mark) (reads Value e) u)))

    loud_annotates_name : (k : Known) → AllTyped k.types → (span : Span) (x : List ℕ) (mark : ExprTree) (e : Option ExprTree) → AreKnown C.meaning (reads Annotation mark ++ maybe_reads Value e) → IsLoud (annotates_name C k span x mark e)
    loud_annotates_name k all span x mark None u = loud_declares k all span x mark (front (reads Annotation mark) [] u)
    loud_annotates_name k all span x mark (Some e) u = loud_gives k all span x mark e u

    loud_marked_target : (k : Known) → AllTyped k.types → (target mark : ExprTree) → AreKnown C.meaning (target_sights target) → AreKnown C.meaning (reads Annotation mark) → IsLoud (both (target_aims C k target) (annotation C.meaning mark))
    loud_marked_target k all target mark ut um = loud_both (target_aims C k target) (annotation C.meaning mark) (loud_targets k all target ut) (loud_annotation C.meaning meanings_typed mark um)

    loud_other : (k : Known) → AllTyped k.types → (span : Span) (target mark : ExprTree) (e : Option ExprTree) → AreKnown C.meaning (target_sights target ++ (reads Annotation mark ++ maybe_reads Value e)) → IsLoud (annotates_other C k span target mark e)
    loud_other k all span target mark None u =
        let a = both (target_aims C k target) (annotation C.meaning mark) in
        let more = (reads Annotation mark ++ maybe_reads Value None) in
        loud_behind a (λ p. with_part p (λ q. fails span no_target)) (loud_marked_target k all target mark (front (target_sights target) more u) (front (reads Annotation mark) [] (back (target_sights target) more u))) (λ q. loud_fails span no_target)
    loud_other k all span target mark (Some e) u =
        let V = value_for C k target e in
        let targets = aims_behind C k target (option_map type_of V.got) in
        let a = both targets (annotation C.meaning mark) in
        let more = (reads Annotation mark ++ reads Value e) in
        loud_behind (both a V) (λ p. with_part p (λ q. fails span no_target))
        (loud_both a V (loud_both targets (annotation C.meaning mark) (loud_late k all target (option_map type_of V.got) (front (target_sights target) more u)) (loud_annotation C.meaning meanings_typed mark (front (reads Annotation mark) (reads Value e) (back (target_sights target) more u)))) (loud_value k all _ e (back (reads Annotation mark) (reads Value e) (back (target_sights target) more u)))) (λ q. loud_fails span no_target)

    other_never : (k : Known) (span : Span) (target mark : ExprTree) (e : Option ExprTree) → (annotates_other C k span target mark e).got ≡ None
    other_never k span target mark None = no_part (both (target_aims C k target) (annotation C.meaning mark)).got span no_target
    other_never k span target mark (Some e) = no_part (both (both (aims_behind C k target (option_map type_of (value_for C k target e).got)) (annotation C.meaning mark)) (value_for C k target e)).got span no_target

    loud_own : (k : Known) → AllTyped k.types → (span : Span) (a : List ℕ) (target mark : ExprTree) (e : Option ExprTree) → AreKnown C.meaning (target_sights target ++ (reads Annotation mark ++ maybe_reads Value e)) → IsLoud (annotates_own C k span a target mark e)
    loud_own k all span a target mark None u =
        let more = (reads Annotation mark ++ maybe_reads Value None) in
        loud_rule span (declared_own (declaring_fault C.inside a span)) (both (target_aims C k target) (annotation C.meaning mark)) (loud_marked_target k all target mark (front (target_sights target) more u) (front (reads Annotation mark) [] (back (target_sights target) more u)))
    loud_own k all span a target mark (Some e) u =
        let s = both (target_aims C k target) (annotation C.meaning mark) in
        let more = (reads Annotation mark ++ reads Value e) in
        loud_rule span (given_own C.classes target (declaring_fault C.inside a span)) (both s (value_for C k target e))
        (loud_both s (value_for C k target e) (loud_marked_target k all target mark (front (target_sights target) more u) (front (reads Annotation mark) (reads Value e) (back (target_sights target) more u))) (loud_value k all _ e (back (reads Annotation mark) (reads Value e) (back (target_sights target) more u))))

    loud_at : (k : Known) → AllTyped k.types → (span : Span) (o : Option (ExprTree × List ℕ)) (target mark : ExprTree) (e : Option ExprTree) → AreKnown C.meaning (target_sights target ++ (reads Annotation mark ++ maybe_reads Value e)) → IsLoud (annotates_at C k span o target mark e)
    loud_at k all span None target mark e u = loud_other k all span target mark e u
    loud_at k all span (Some p) target mark e u = loud_own k all span p.1 target mark e u

    loud_annotates : (k : Known) → AllTyped k.types → (span : Span) (x : Option (List ℕ)) (target mark : ExprTree) (e : Option ExprTree) → AreKnown C.meaning (target_sights target ++ (reads Annotation mark ++ maybe_reads Value e)) → IsLoud (annotates C k span x target mark e)
    loud_annotates k all span None target mark e u = loud_at k all span (own_attribute C.inside target) target mark e u
    loud_annotates k all span (Some x) target mark e u = loud_annotates_name k all span x mark e (back (target_sights target) (reads Annotation mark ++ maybe_reads Value e) u)

    loud_row_update : (k : Known) → AllTyped k.types → (span : Span) (target e : ExprTree) → AreKnown C.meaning (target_sights target ++ reads Value e) → IsLoud (updates_row C k span target e)
    loud_row_update k all span target e u =
        loud_rule span (row_refused C.classes) (both (aims_behind C k target None) (typed_at C k free e)) (loud_both (aims_behind C k target None) (typed_at C k free e) (loud_late k all target None (front (target_sights target) (reads Value e) u)) (loud_value k all free e (back (target_sights target) (reads Value e) u)))

    loud_one_update : (k : Known) → AllTyped k.types → (span : Span) (target : ExprTree) (op : BinOp) (e : ExprTree) → AreKnown C.meaning (target_sights target ++ reads Value e) → IsLoud (updates_one C k span target op e)
    loud_one_update k all span target op e u =
        loud_rule span (updated C.classes span op (read_aim C k (name_in target) (is_access target))) (both (typed_at C k free target) (typed_at C k free e)) (loud_both (typed_at C k free target) (typed_at C k free e) (loud_value k all free target (target_read C.meaning target (front (target_sights target) (reads Value e) u))) (loud_value k all free e (back (target_sights target) (reads Value e) u)))

    loud_updates : (k : Known) → AllTyped k.types → (span : Span) (target : ExprTree) (op : BinOp) (e : ExprTree) → AreKnown C.meaning (target_sights target ++ reads Value e) → IsLoud (updates C k span target op e)
    loud_updates k all span target op e u =
        loud_if (is_row target) (updates_row C k span target e) (updates_single C k span (lacking_in C target) target op e) (loud_row_update k all span target e u)
        (subst (λ o. IsLoud (updates_single C k span o target op e)) (sym (none_lacks target)) (loud_one_update k all span target op e u))

    range_read : (e : ExprTree) (args : Arguments) → range_arguments C e ≡ Some args → AreKnown C.meaning (reads Value e) → AreKnown C.meaning (arguments_reads Value args)
    range_read (at (tree.Call f given) span) args q u = by (is_range_name C (name_in f)) q
      where
        by : (b : Bool) → (if b then Some given else None) ≡ Some args → AreKnown C.meaning (arguments_reads Value args)
        by true r = subst (λ (z : Arguments). AreKnown C.meaning (arguments_reads Value z)) (same_Some given args r) (back (reads Value f) (arguments_reads Value given) u)
        by false r = absurd (cc)
    range_read _ args q u = absurd (cc)

    loud_course : (k : Known) → AllTyped k.types → (o : Option Arguments) (e : ExprTree) → range_arguments C e ≡ o → AreKnown C.meaning (reads Value e) → IsLoud (course_by C k o e)
    loud_course k all None e q u = loud_made value (typed_at C k free e) (loud_value k all free e u)
    loud_course k all (Some args) e q u =
        loud_rule (span_of e) (range_call C.classes) (behind (arguments C k.types (along []) 0 k.names args) (positional (span_of e) (has_key args)))
        (loud_behind (arguments C k.types (along []) 0 k.names args) (positional (span_of e) (has_key args)) (loud_arguments C k.types (all_have k.types all) (along []) 0 k.names args (range_read e args q u)) (λ es. loud_positional (span_of e) (has_key args) es))

    loud_head : (k : Known) → AllTyped k.types → (s : StmtTree) (span : Span) (target e : ExprTree) → AreKnown C.meaning (target_sights target) → AreKnown C.meaning (reads Value e) → IsLoud (for_head C k s span target e)
    loud_head k all s span target e ut u =
        let inner = entering C k s in
        let targets = aims_behind C inner target (some_items (course C k e).got) in
        let parts = both targets (course C k e) in
        loud_made (λ p. (targets_of p.0, p.1)) (rule span (head C.classes (is_flat target) (is_row target)) parts)
        (loud_rule span (head C.classes (is_flat target) (is_row target)) parts (loud_both targets (course C k e) (loud_late inner all target (some_items (course C k e).got) ut) (loud_course k all (range_arguments C e) e refl u)))

    loud_condition : (k : Known) → AllTyped k.types → (e : ExprTree) → AreKnown C.meaning (reads Value e) → IsLoud (condition C k e)
    loud_condition k all e u = loud_made truth (typed_at C k test e) (loud_value k all test e u)

    -- ---- names of exceptions, and heads of clauses

    loud_raised_value : (k : Known) → AllTyped k.types → (span : Span) (e : ExprTree) → AreKnown C.meaning (reads Value e) → IsLoud (raises_value C k span e)
    loud_raised_value k all span e u = loud_rule span raised (typed_at C k free e) (loud_value k all free e u)

    loud_raised_name : (k : Known) → AllTyped k.types → (span : Span) (e : ExprTree) → AreKnown C.meaning (reads Value e) → (m : Meaning) → is_unknown m ≡ false → is_voiceless C.signatures m ≡ false → IsLoud (raises_named C k span e (asked m))
    loud_raised_name k all span e u (meaning.Exception x) known voice = loud_is _
    loud_raised_name k all span e u (meaning.Local i) known voice = loud_raised_value k all span e u
    loud_raised_name k all span e u (meaning.Global i) known voice = loud_raised_value k all span e u
    loud_raised_name k all span e u meaning.Unknown known voice = absurd (cc)
    loud_raised_name k all span e u meaning.Untyped known voice = absurd (cc)
    loud_raised_name k all span e u meaning.UntypedClass known voice = absurd (cc)
    loud_raised_name k all span e u _ known voice = loud_fails span _

    loud_raises : (handling : Bool) (k : Known) → AllTyped k.types → (span : Span) (e : Option ExprTree) → AreKnown C.meaning (maybe_reads Value e) → IsLoud (raises C handling k span e)
    loud_raises true k all span None u = loud_is _
    loud_raises false k all span None u = loud_fails span _
    loud_raises handling k all span (Some e) u = by (name_in e) refl
      where
        by : (o : Option (List ℕ)) → name_in e ≡ o → IsLoud (raises_by C k span e o)
        by None q = loud_raised_value k all span e u
        by (Some x) q = loud_raised_name k all span e u (C.meaning x) (read_known e x q u) (names x)

    loud_asserts : (k : Known) → AllTyped k.types → (span : Span) (e : ExprTree) (text : Option ExprTree) → AreKnown C.meaning (reads Value e ++ maybe_reads Value text) → IsLoud (asserts C k span e text)
    loud_asserts k all span e None u = loud_made (λ t. act.Assert t None) (condition C k e) (loud_condition k all e (front (reads Value e) [] u))
    loud_asserts k all span e (Some text) u =
        loud_rule span (asserted C.classes) (both (condition C k e) (typed_at C k free text))
        (loud_both (condition C k e) (typed_at C k free text) (loud_condition k all e (front (reads Value e) (reads Value text) u)) (loud_value k all free text (back (reads Value e) (reads Value text) u)))

    loud_named_class : (m : Meaning) → is_unknown m ≡ false → is_voiceless C.signatures m ≡ false → IsLoud (named_class (asked m))
    loud_named_class meaning.Unknown known voice = absurd (cc)
    loud_named_class meaning.Untyped known voice = absurd (cc)
    loud_named_class meaning.UntypedClass known voice = absurd (cc)
    loud_named_class _ known voice = loud_is _

    loud_class : (k : Known) → AllTyped k.types → (e : ExprTree) → AreKnown C.meaning (reads Value e) → IsLoud (class_at C k e)
    loud_class k all e u = by (name_in e) refl
      where
        by : (o : Option (List ℕ)) → name_in e ≡ o → IsLoud (class_by C k e o)
        by None q = loud_made _ (typed_at C k free e) (loud_value k all free e u)
        by (Some x) q = loud_named_class (C.meaning x) (read_known e x q u) (names x)

    loud_classes : (k : Known) → AllTyped k.types → (es : ExprTrees) → AreKnown C.meaning (exprs_reads Value es) → IsLoud (classes_along C k es)
    loud_classes k all no_exprs u = loud_is []
    loud_classes k all (expr_then e more) u = loud_row (class_at C k e) (classes_along C k more) (loud_class k all e (front (reads Value e) (exprs_reads Value more) u)) (loud_classes k all more (back (reads Value e) (exprs_reads Value more) u))

    tuple_read : (e : ExprTree) (es : ExprTrees) → tuple_items e ≡ Some es → AreKnown C.meaning (reads Value e) → AreKnown C.meaning (exprs_reads Value es)
    tuple_read (at (tree.TupleOf items) span) es q u = subst (λ (z : ExprTrees). AreKnown C.meaning (exprs_reads Value z)) (same_Some items es q) u
    tuple_read _ es q u = absurd (cc)

    loud_caught : (k : Known) → AllTyped k.types → (e : Option ExprTree) → AreKnown C.meaning (maybe_reads Value e) → IsLoud (caught C k e)
    loud_caught k all None u = loud_is _
    loud_caught k all (Some e) u = by (tuple_items e) refl
      where
        by : (o : Option ExprTrees) → tuple_items e ≡ o → IsLoud (caught_by C k e o)
        by None q = loud_made only (class_at C k e) (loud_class k all e u)
        by (Some es) q = loud_classes k all es (tuple_read e es q u)

    loud_caught_name : (k : Known) → AllTyped k.types → (x : Option (List ℕ)) → IsLoud (name_at C k x)
    loud_caught_name k all None = loud_is None
    loud_caught_name k all (Some x) = loud_made clause.named (seen_aim (name_aim k x (C.meaning x))) (loud_seen (name_aim k x (C.meaning x)) (aim_there k all x (C.meaning x)))

    loud_clause_head : (k : Known) → AllTyped k.types → (span : Span) (e : Option ExprTree) (x : Option (List ℕ)) (last : Bool) → AreKnown C.meaning (maybe_reads Value e) → IsLoud (handler_head C k span e x last)
    loud_clause_head k all span e x last u =
        loud_rule span (clause.head C.classes (is_early e last)) (both (caught C k e) (name_at C k x)) (loud_both (caught C k e) (name_at C k x) (loud_caught k all e u) (loud_caught_name k all x))

    -- ---- what is bound where nothing is said

    quiet_assign : (k : Known) → AllTyped k.types → (span : Span) (target e : ExprTree) → AreKnown C.meaning (target_sights target ++ reads Value e) → (assigns C k span target e).said ≡ [] → AllTyped (binds C k span target e).types
    quiet_assign k all span target e u h =
        let g = quiet_got (assigns C k span target e) (loud_assigns k all span target e u) h in
        let value = value_for C k target e in
        let targets = aims_behind C k target (option_map type_of value.got) in
        let r = rule_given span (assigned C.classes target (asked_for C k target)) (both targets value) g.0 g.1 in
        let b = both_given targets value r.0 r.1 in
        let a = assigned_is C.classes target (asked_for C k target) r.0 g.0 r.2 in
        subst (λ (l : Known). AllTyped l.types) (sym (bound_same k target (is_some (assigns C k span target e).got) (option_map type_of (value_for C k target e).got) (type_of r.0.1) (some_is (assigns C k span target e).got g.0 g.1) (ap (option_map type_of) b.1)))
        (typed_bound k all target r.0.0 (looked_behind C k target r.0.0 (option_map type_of value.got) (type_of r.0.1) b.0 (ap (option_map type_of) b.1)).many (type_of r.0.1) a.bound)

    quiet_name : (k : Known) → AllTyped k.types → (span : Span) (x : List ℕ) (target mark : ExprTree) (e : Option ExprTree) → name_in target ≡ Some x → AreKnown C.meaning (reads Annotation mark ++ maybe_reads Value e) → (annotates_name C k span x mark e).said ≡ [] → AllTyped (binds_annotated C k span (Some x) target mark e).types
    quiet_name k all span x target mark None n u h =
        let g = quiet_got (declares C k span x mark) (loud_declares k all span x mark (front (reads Annotation mark) [] u)) h in
        subst (λ (l : Known). AllTyped l.types) (sym (bound_same k target (is_some (declares C k span x mark).got) (Some sort.Nothing) sort.Nothing (some_is (declares C k span x mark).got g.0 g.1) refl)) (typed_single k all target sort.Nothing (name_no_row target x n))
    quiet_name k all span x target mark (Some e) n u h =
        let s = gives_value C k span x mark e in
        let g = quiet_got s (loud_gives k all span x mark e u) h in
        let parts = both (seen_aim (name_aim k x (C.meaning x))) (annotation C.meaning mark) in
        let r = rule_given span (given C.classes x (is_bound k (C.meaning x))) (both parts (annotated_value C k x e)) g.0 g.1 in
        let b = both_given parts (annotated_value C k x e) r.0 r.1 in
        subst (λ (l : Known). AllTyped l.types) (sym (bound_same k target (is_some s.got) (option_map type_of (annotated_value C k x e).got) (type_of r.0.1) (some_is s.got g.0 g.1) (ap (option_map type_of) b.1))) (typed_single k all target (type_of r.0.1) (name_no_row target x n))

    quiet_annotated : (k : Known) → AllTyped k.types → (span : Span) (x : Option (List ℕ)) (target mark : ExprTree) (e : Option ExprTree) → name_in target ≡ x → AreKnown C.meaning (target_sights target ++ (reads Annotation mark ++ maybe_reads Value e)) → (annotates C k span x target mark e).said ≡ [] → AllTyped (binds_annotated C k span x target mark e).types
    quiet_annotated k all span None target mark e n u h = by (own_attribute C.inside target) refl h
      where
        by : (o : Option (ExprTree × List ℕ)) → own_attribute C.inside target ≡ o → (annotates_at C k span o target mark e).said ≡ [] → AllTyped (bind_target C false k target (other_sort C k target e)).types
        by None q g = absurd ((loud_other k all span target mark e u).says (other_never k span target mark e) g)
        by (Some p) q g =
            subst (λ (l : Known). AllTyped l.types) (sym (own_unbound C k target p (other_sort C k target e) q)) all
    quiet_annotated k all span (Some x) target mark e n u h = quiet_name k all span x target mark e n (back (target_sights target) (reads Annotation mark ++ maybe_reads Value e) u) h

    kept_name : (k : Known) → AllTyped k.types → (x : Option (List ℕ)) → ((y : List ℕ) → x ≡ Some y → is_open k.types (C.meaning y) ≡ false) → AllTyped (bind_name C false k x None).types
    kept_name k all None h = all
    kept_name k all (Some x) h = subst AllTyped (sym (bind_set false k (C.meaning x) None (h x refl))) all

    quiet_one : (k : Known) → AllTyped k.types → (span : Span) (target : ExprTree) (op : BinOp) (e : ExprTree) → is_row target ≡ false → AreKnown C.meaning (target_sights target ++ reads Value e) → (updates_one C k span target op e).said ≡ [] → AllTyped (bind_target C false k target None).types
    quiet_one k all span target op e n u h =
        let g = quiet_got (updates_one C k span target op e) (loud_one_update k all span target op e u) h in
        let r = rule_given span (updated C.classes span op (read_aim C k (name_in target) (is_access target))) (both (typed_at C k free target) (typed_at C k free e)) g.0 g.1 in
        let b = both_given (typed_at C k free target) (typed_at C k free e) r.0 r.1 in
        subst (λ (l : Known). AllTyped l.types) (sym (single_bound C false k target None n)) (kept_name k all (name_in target) (λ y q. read_set k target y q r.0.0 b.0))

    quiet_update : (k : Known) → AllTyped k.types → (span : Span) (target : ExprTree) (op : BinOp) (e : ExprTree) → AreKnown C.meaning (target_sights target ++ reads Value e) → (updates C k span target op e).said ≡ [] → AllTyped (bind_target C false k target None).types
    quiet_update k all span target op e u h = by (is_row target) refl h
      where
        by : (b : Bool) → is_row target ≡ b → (if b then updates_row C k span target e else updates_single C k span (lacking_in C target) target op e).said ≡ [] → AllTyped (bind_target C false k target None).types
        by true q f = absurd ((loud_row_update k all span target e u).says (row_none C.classes span (both (aims_behind C k target None) (typed_at C k free e)).got) f)
        by false q f = quiet_one k all span target op e q u (ap (λ o. (updates_single C k span o target op e).said) (sym (none_lacks target)) ∙ f)

    quiet_head : (k : Known) → AllTyped k.types → (s : StmtTree) (span : Span) (target e : ExprTree) → AreKnown C.meaning (target_sights target) → AreKnown C.meaning (reads Value e) → (for_head C k s span target e).said ≡ [] → AllTyped (in_for C k s span target e).types
    quiet_head k all s span target e ut u h =
        let hd = for_head C k s span target e in
        let g = quiet_got hd (loud_head k all s span target e ut u) h in
        let l = entering C k s in
        let targets = aims_behind C l target (some_items (course C k e).got) in
        let parts = both targets (course C k e) in
        let m = made_given (λ p. (targets_of p.0, p.1)) (rule span (head C.classes (is_flat target) (is_row target)) parts) g.0 g.1 in
        let r = rule_given span (head C.classes (is_flat target) (is_row target)) parts m.0 m.1 in
        let b = both_given targets (course C k e) r.0 r.1 in
        let d = head_is C.classes target r.0 m.0 r.2 in
        subst (λ (z : Known). AllTyped z.types) (sym (bound_same l target (is_some hd.got) (some_items (course C k e).got) d.0.item (some_is hd.got g.0 g.1) (ap some_items b.1 ∙ d.0.items)))
        (typed_bound l all target r.0.0 (looked_behind C l target r.0.0 (some_items (course C k e).got) d.0.item b.0 (ap some_items b.1 ∙ d.0.items)).many d.0.item d.0.bound)

    -- a clause binds its name
    quiet_clause_head : (k : Known) → AllTyped k.types → (span : Span) (e : Option ExprTree) (x : Option (List ℕ)) (last : Bool) → AreKnown C.meaning (maybe_reads Value e) → (handler_head C k span e x last).said ≡ [] → AllTyped (in_handler C k span e x last).types
    quiet_clause_head k all span e x last u h =
        let hd = handler_head C k span e x last in
        let g = quiet_got hd (loud_clause_head k all span e x last u) h in
        subst (λ (b : Bool). AllTyped (bind_name C b k x (Some (sort.Exc Exception))).types) (sym (some_is hd.got g.0 g.1)) (typed_name k all x (sort.Exc Exception))

    -- ---- statements

    quiet_step : (k : Known) (s : StmtTree) (more : Suite) (one two : Seen (List TypedStmt)) (b : Bool) → is_definition s ≡ b → (one.said ≡ [] → AllTyped (block_after C k more).types) → (two.said ≡ [] → AllTyped (block_after C (after C k s) more).types) → (if b then one else two).said ≡ []
        → AllTyped (block_after C (after C k s) more).types
    quiet_step k s more one two true q f g h = subst (λ (l : Known). AllTyped (block_after C l more).types) (sym (definition_after k s q)) (f h)
    quiet_step k s more one two false q f g h = g h

    module _ (r : ReturnSort) (judged : is_judged r ≡ true) (home : Home) where
      loud_value_return : (span : Span) (v : TypedExpr) (s : ReturnSort) → is_judged s ≡ true → IsLoud (value_return C.classes span s v)
      loud_value_return span v ret.outside h = loud_fails span _
      loud_value_return span v ret.untyped h = absurd (cc)
      loud_value_return span v (ret.gives t) h = loud_judged span (due C.classes t v)

      loud_returns : (k : Known) → AllTyped k.types → (span : Span) (e : Option ExprTree) → AreKnown C.meaning (maybe_reads Value e) → IsLoud (returns C r k span e)
      loud_returns k all span None u = loud_made (λ u. act.Return None) (bare_return span r) (loud_bare span r judged)
      loud_returns k all span (Some e) u =
          loud_made (λ v. act.Return (Some v)) (behind (typed_at C k (return_wanted r) e) (λ p. with_part p (value_return C.classes span r)))
          (loud_behind (typed_at C k (return_wanted r) e) (λ p. with_part p (value_return C.classes span r)) (loud_value k all (return_wanted r) e u) (λ v. loud_value_return span v r judged))

      mutual
        loud_stmt : (around : Around) (k : Known) → AllTyped k.types → (s : StmtTree) → is_definition s ≡ false → AreKnown C.meaning (stmt_sights home s) → IsLoud (statement C r around k s)
        loud_stmt around k all (node.at n span) d u = loud_made (λ a. on_line a span.line) (node_statement C r around k span n) (loud_node around k all span n d u)

        loud_node : (around : Around) (k : Known) → AllTyped k.types → (span : Span) (n : StmtNode) → is_definition (node.at n span) ≡ false → AreKnown C.meaning (stmt_node_sights home n span) → IsLoud (node_statement C r around k span n)
        loud_node around k all span (node.Do e) d u = loud_made act.Do (typed_at C k _ e) (loud_value k all _ e u)
        loud_node around k all span (node.Assign target e) d u = loud_assigns k all span target e u
        loud_node around k all span (node.Annot target mark e) d u = loud_annotates k all span (name_in target) target mark e u
        loud_node around k all span (node.Aug target op e) d u = loud_updates k all span target op e u
        loud_node around k all span (node.Del e) d u = loud_rule span (deletion (is_item e)) (typed_at C k free e) (loud_value k all free e u)
        loud_node around k all span (node.Return e) d u = loud_returns k all span e u
        loud_node around k all span node.Pass d u = loud_is act.Pass
        loud_node around k all span (node.Global names) d u = loud_is act.Pass
        loud_node around k all span node.Break d u = loud_in_loop r C around.looping span _ act.Break
        loud_node around k all span node.Continue d u = loud_in_loop r C around.looping span _ act.Continue
        loud_node around k all span (node.If arms other) d u =
            let w = arms_after C (setting_out k) arms in
            let s = branches C r around (setting_out k) arms in
            let t = block C r around w.at other in
            loud_made (λ p. act.If (arms_of p.0) (suite_of p.1)) (both s t) (loud_both_then s t (loud_arms around (setting_out k) all arms (front (arms_sights home arms) (suite_sights home other) u)) (λ q. loud_block around w.at (quiet_arms around (setting_out k) all arms (front (arms_sights home arms) (suite_sights home other) u) q) other (back (arms_sights home arms) (suite_sights home other) u)))
        loud_node around k all span (node.While e body) d u =
            let l = entering C k (node.at (node.While e body) span) in
            let s = condition C l e in
            let t = block C r (around_loop around) (where_test C l true e) body in
            loud_made (λ p. act.While p.0 (suite_of p.1)) (both s t) (loud_both s t (loud_condition l all e (front (reads Value e) (suite_sights home body) u)) (loud_block (around_loop around) (where_test C l true e) all body (back (reads Value e) (suite_sights home body) u)))
        loud_node around k all span (node.For target e body) d u =
            let here = node.at (node.For target e body) span in
            let s = for_head C k here span target e in
            let l = in_for C k here span target e in
            let t = block C r (around_loop around) l body in
            loud_made (λ p. loop_of p.0.0 p.0.1 (suite_of p.1)) (both s t) (loud_both_then s t (loud_head k all here span target e (front (target_sights target) (reads Value e ++ suite_sights home body) u) (front (reads Value e) (suite_sights home body) (back (target_sights target) (reads Value e ++ suite_sights home body) u))) (λ q. loud_block (around_loop around) l (quiet_head k all here span target e (front (target_sights target) (reads Value e ++ suite_sights home body) u) (front (reads Value e) (suite_sights home body) (back (target_sights target) (reads Value e ++ suite_sights home body) u)) q) body (back (reads Value e) (suite_sights home body) (back (target_sights target) (reads Value e ++ suite_sights home body) u))))
        loud_node around k all span (node.Raise e) d u = loud_raises around.handling k all span e u
        loud_node around k all span (node.Assert e text) d u = loud_asserts k all span e text u
        loud_node around k all span (node.Try body handlers last) d u =
            let later = handlers_sights home handlers ++ maybe_suite_sights home last in
            let ub = front (suite_sights home body) later u in
            let uh = front (handlers_sights home handlers) (maybe_suite_sights home last) (back (suite_sights home body) later u) in
            let ul = back (handlers_sights home handlers) (maybe_suite_sights home last) (back (suite_sights home body) later u) in
            let outer = outside_try C k (node.at (node.Try body handlers last) span) in
            let first = block_after C k body in
            let b = block C r around k body in
            let cs = clauses C r around outer first handlers in
            let handled = handlers_after C outer first handlers in
            let l = maybe_block C r around outer handled last in
            loud_made try_of (both (both b cs) l)
            (loud_both_then (both b cs) l (loud_both_then b cs (loud_block around k all body ub) (λ q. loud_clauses around outer first (quiet_block around k all body ub q) handlers uh))
            (λ q. loud_last around outer handled (quiet_clauses around outer first (quiet_block around k all body ub (none_before b.said cs.said q)) handlers uh (none_behind b.said cs.said q)) last ul))
        loud_node around k all span _ d u = absurd (cc)

        pub loud_block : (around : Around) (k : Known) → AllTyped k.types → (body : Suite) → AreKnown C.meaning (suite_sights home body) → IsLoud (block C r around k body)
        loud_block around k all no_stmts u = loud_is []
        loud_block around k all (stmt_then s more) u =
            let one = statement C r around k s in
            let rest = block C r around (after C k s) more in
            loud_unless (is_definition s) (block C r around k more) (row_then one rest) (loud_block around k all more (back (stmt_sights home s) (suite_sights home more) u)) (λ d. loud_then one rest (loud_stmt around k all s d (front (stmt_sights home s) (suite_sights home more) u)) (λ q. loud_block around (after C k s) (quiet_stmt around k all s (front (stmt_sights home s) (suite_sights home more) u) q) more (back (stmt_sights home s) (suite_sights home more) u)))

        loud_arms : (around : Around) (w : Way) → AllTyped w.at.types → (arms : Arms) → AreKnown C.meaning (arms_sights home arms) → IsLoud (branches C r around w arms)
        loud_arms around w all no_arms u = loud_is []
        loud_arms around w all (arm_then e body more) u =
            let ue = front (reads Value e) (suite_sights home body ++ arms_sights home more) u in
            let ub = front (suite_sights home body) (arms_sights home more) (back (reads Value e) (suite_sights home body ++ arms_sights home more) u) in
            let um = back (suite_sights home body) (arms_sights home more) (back (reads Value e) (suite_sights home body ++ arms_sights home more) u) in
            let s = condition C w.at e in
            let l = where_test C w.at true e in
            let t = block C r around l body in
            let next = behind_arm C w e (is_closed body) (block_after C l body) in
            let one = made (λ p. (p.0, suite_of p.1)) (both s t) in
            loud_then one (branches C r around next more) (loud_made (λ p. (p.0, suite_of p.1)) (both s t) (loud_both s t (loud_condition w.at all e ue) (loud_block around l all body ub)))
            (λ q. loud_arms around next (quiet_block around l all body ub (none_behind s.said t.said q)) more um)

        loud_clauses : (around : Around) (outer : List ℕ) (k : Known) → AllTyped k.types → (handlers : Handlers) → AreKnown C.meaning (handlers_sights home handlers) → IsLoud (clauses C r around outer k handlers)
        loud_clauses around outer k all no_handlers u = loud_is []
        loud_clauses around outer k all (handler_then e x body span more) u =
            let ue = front (maybe_reads Value e) (caught_sights x span ++ (suite_sights home body ++ handlers_sights home more)) u in
            let later = back (caught_sights x span) (suite_sights home body ++ handlers_sights home more) (back (maybe_reads Value e) (caught_sights x span ++ (suite_sights home body ++ handlers_sights home more)) u) in
            let ub = front (suite_sights home body) (handlers_sights home more) later in
            let l = with_names k outer in
            let hd = handler_head C l span e x (is_last more) in
            let begun = in_handler C l span e x (is_last more) in
            let t = block C r (around_clause around) begun body in
            let end = block_after C begun body in
            loud_then (made clause_of (both hd t)) (clauses C r around outer end more)
            (loud_made clause_of (both hd t) (loud_both_then hd t (loud_clause_head l all span e x (is_last more) ue) (λ q. loud_block (around_clause around) begun (quiet_clause_head l all span e x (is_last more) ue q) body ub)))
            (λ q. loud_clauses around outer end (quiet_block (around_clause around) begun (quiet_clause_head l all span e x (is_last more) ue (none_before hd.said t.said q)) body ub (none_behind hd.said t.said q)) more (back (suite_sights home body) (handlers_sights home more) later))

        loud_last : (around : Around) (outer : List ℕ) (k : Known) → AllTyped k.types → (last : MaybeSuite) → AreKnown C.meaning (maybe_suite_sights home last) → IsLoud (maybe_block C r around outer k last)
        loud_last around outer k all no_suite u = loud_is None
        loud_last around outer k all (some_suite body) u = loud_made present (block C r around (with_names k outer) body) (loud_block around (with_names k outer) all body u)

        quiet_stmt : (around : Around) (k : Known) → AllTyped k.types → (s : StmtTree) → AreKnown C.meaning (stmt_sights home s) → (statement C r around k s).said ≡ [] → AllTyped (after C k s).types
        quiet_stmt around k all (node.at n span) u h = quiet_node around k all span n u h

        quiet_node : (around : Around) (k : Known) → AllTyped k.types → (span : Span) (n : StmtNode) → AreKnown C.meaning (stmt_node_sights home n span) → (node_statement C r around k span n).said ≡ [] → AllTyped (node_after C k span n).types
        quiet_node around k all span (node.Assign target e) u h = quiet_assign k all span target e u h
        quiet_node around k all span (node.Annot target mark e) u h = quiet_annotated k all span (name_in target) target mark e refl u h
        quiet_node around k all span (node.Aug target op e) u h = quiet_update k all span target op e u h
        quiet_node around k all span (node.If arms other) u h =
            let w = arms_after C (setting_out k) arms in
            let s = branches C r around (setting_out k) arms in
            let t = block C r around w.at other in
            quiet_block around w.at (quiet_arms around (setting_out k) all arms (front (arms_sights home arms) (suite_sights home other) u) (none_before s.said t.said h)) other (back (arms_sights home arms) (suite_sights home other) u) (none_behind s.said t.said h)
        quiet_node around k all span (node.While e body) u h =
            let l = entering C k (node.at (node.While e body) span) in
            let s = condition C l e in
            let t = block C r (around_loop around) (where_test C l true e) body in
            quiet_block (around_loop around) (where_test C l true e) all body (back (reads Value e) (suite_sights home body) u) (none_behind s.said t.said h)
        quiet_node around k all span (node.For target e body) u h =
            let here = node.at (node.For target e body) span in
            let s = for_head C k here span target e in
            let l = in_for C k here span target e in
            let t = block C r (around_loop around) l body in
            quiet_block (around_loop around) l (quiet_head k all here span target e (front (target_sights target) (reads Value e ++ suite_sights home body) u) (front (reads Value e) (suite_sights home body) (back (target_sights target) (reads Value e ++ suite_sights home body) u)) (none_before s.said t.said h)) body (back (reads Value e) (suite_sights home body) (back (target_sights target) (reads Value e ++ suite_sights home body) u)) (none_behind s.said t.said h)
        quiet_node around k all span (node.Try body handlers last) u h =
            let later = handlers_sights home handlers ++ maybe_suite_sights home last in
            let ub = front (suite_sights home body) later u in
            let uh = front (handlers_sights home handlers) (maybe_suite_sights home last) (back (suite_sights home body) later u) in
            let ul = back (handlers_sights home handlers) (maybe_suite_sights home last) (back (suite_sights home body) later u) in
            let outer = outside_try C k (node.at (node.Try body handlers last) span) in
            let first = block_after C k body in
            let b = block C r around k body in
            let cs = clauses C r around outer first handlers in
            let handled = handlers_after C outer first handlers in
            let l = maybe_block C r around outer handled last in
            let q = none_before (both b cs).said l.said h in
            quiet_last around outer handled (quiet_clauses around outer first (quiet_block around k all body ub (none_before b.said cs.said q)) handlers uh (none_behind b.said cs.said q)) last ul (none_behind (both b cs).said l.said h)
        quiet_node around k all span _ u h = all

        quiet_clauses : (around : Around) (outer : List ℕ) (k : Known) → AllTyped k.types → (handlers : Handlers) → AreKnown C.meaning (handlers_sights home handlers) → (clauses C r around outer k handlers).said ≡ [] → AllTyped (handlers_after C outer k handlers).types
        quiet_clauses around outer k all no_handlers u h = all
        quiet_clauses around outer k all (handler_then e x body span more) u h =
            let ue = front (maybe_reads Value e) (caught_sights x span ++ (suite_sights home body ++ handlers_sights home more)) u in
            let later = back (caught_sights x span) (suite_sights home body ++ handlers_sights home more) (back (maybe_reads Value e) (caught_sights x span ++ (suite_sights home body ++ handlers_sights home more)) u) in
            let ub = front (suite_sights home body) (handlers_sights home more) later in
            let l = with_names k outer in
            let hd = handler_head C l span e x (is_last more) in
            let begun = in_handler C l span e x (is_last more) in
            let t = block C r (around_clause around) begun body in
            let end = block_after C begun body in
            let one = made clause_of (both hd t) in
            let rest = clauses C r around outer end more in
            let q = none_before one.said rest.said h in
            quiet_clauses around outer end (quiet_block (around_clause around) begun (quiet_clause_head l all span e x (is_last more) ue (none_before hd.said t.said q)) body ub (none_behind hd.said t.said q)) more (back (suite_sights home body) (handlers_sights home more) later) (none_behind one.said rest.said h)

        quiet_last : (around : Around) (outer : List ℕ) (k : Known) → AllTyped k.types → (last : MaybeSuite) → AreKnown C.meaning (maybe_suite_sights home last) → (maybe_block C r around outer k last).said ≡ [] → AllTyped (last_after C outer k last).types
        quiet_last around outer k all no_suite u h = all
        quiet_last around outer k all (some_suite body) u h = quiet_block around (with_names k outer) all body u h

        pub quiet_block : (around : Around) (k : Known) → AllTyped k.types → (body : Suite) → AreKnown C.meaning (suite_sights home body) → (block C r around k body).said ≡ [] → AllTyped (block_after C k body).types
        quiet_block around k all no_stmts u h = all
        quiet_block around k all (stmt_then s more) u h =
            let one = statement C r around k s in
            let rest = block C r around (after C k s) more in
            quiet_step k s more (block C r around k more) (row_then one rest) (is_definition s) refl (λ q. quiet_block around k all more (back (stmt_sights home s) (suite_sights home more) u) q)
            (λ q. quiet_block around (after C k s) (quiet_stmt around k all s (front (stmt_sights home s) (suite_sights home more) u) (none_before one.said rest.said q)) more (back (stmt_sights home s) (suite_sights home more) u) (none_behind one.said rest.said q)) h

        quiet_arms : (around : Around) (w : Way) → AllTyped w.at.types → (arms : Arms) → AreKnown C.meaning (arms_sights home arms) → (branches C r around w arms).said ≡ [] → AllTyped (arms_after C w arms).at.types
        quiet_arms around w all no_arms u h = all
        quiet_arms around w all (arm_then e body more) u h =
            let ub = front (suite_sights home body) (arms_sights home more) (back (reads Value e) (suite_sights home body ++ arms_sights home more) u) in
            let um = back (suite_sights home body) (arms_sights home more) (back (reads Value e) (suite_sights home body ++ arms_sights home more) u) in
            let s = condition C w.at e in
            let l = where_test C w.at true e in
            let t = block C r around l body in
            let next = behind_arm C w e (is_closed body) (block_after C l body) in
            let one : Seen (TypedExpr × TypedSuite) = made (λ p. (p.0, suite_of p.1)) (both s t) in
            let rest = branches C r around next more in
            quiet_arms around next (quiet_block around l all body ub (none_behind s.said t.said (none_before one.said rest.said h))) more um (none_behind one.said rest.said h)

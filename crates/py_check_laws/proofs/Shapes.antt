-- How typed statements end, and what they bind, is how they end as they are written, and some of what they bind there.
use Rattle.std.proofs.Common.{◌≡◌, ℕ, Bool, true, false, not, ◌&&◌, ◌||◌, List, [], ◌∷◌, ◌++◌, Option, Some, None, refl, ap, ap₂, sym, ◌∙◌, subst, append_assoc, if◌then◌else◌}
use Rattle.std.proofs.lemmas.Option.{same_Some}
use Rattle.std.proofs.lemmas.Grind.{flat_map-append}
use Rattle.std.proofs.lemmas.List.{append-nil}
use Rattle.std.specs.List.{flat_map}
use Rattle.value_core.specs.declared.exception.ExcClass.{ExcClass}
use Rattle.py_syntax.specs.declared.token.Span.{Span}
use Rattle.py_syntax.specs.declared.expression.BinOp.{BinOp}
use Rattle.py_syntax.specs.Expressions as tree
use Rattle.py_syntax.specs.Expressions.{ExprTree, at}
use Rattle.py_syntax.specs.Statements as node
use Rattle.py_syntax.specs.Statements.{StmtTree, StmtNode, Suite, no_stmts, stmt_then, Arms, no_arms, arm_then, Handlers, no_handlers, handler_then, MaybeSuite, no_suite, some_suite}
use Rattle.py_typed.specs.Sorts as sort
use Rattle.py_typed.specs.Sorts.{Sort}
use Rattle.py_typed.specs.Expressions.{TypedExpr, type_of}
use Rattle.py_typed.specs.Statements as act
use Rattle.py_typed.specs.Statements.{TypedTarget, TypedStmt, TypedAct, TypedSuite, HandlerParts, on_line, suite_of, arms_of}
use Rattle.py_typed.specs.Narrowing as typed
use Rattle.py_typed.specs.Narrowing.{is_in, bound_by, bound_by_all, bound_by_name, is_true_literal}
use Rattle.py_check_context.specs.declared.scope.Meaning.{Meaning}
use Rattle.py_check_context.specs.declared.scope.Meaning.TheVariants as meaning
use Rattle.py_check_context.specs.Context.{Context, free, test}
use Rattle.py_check_flow.specs.Bindings.{Binding, target_bindings, name_in, marked, caught, stmt_bindings, act_bindings, suite_bindings, arms_bindings, handlers_bindings, last_bindings}
use Rattle.py_check_flow.specs.Closed as flow
use Rattle.py_check_flow.specs.Closed.{is_true}
use Rattle.py_check_messages.specs.Seen.{Seen, both, behind, rule, made}
use Rattle.py_check_messages.specs.Messages.{no_target}
use Rattle.py_check_messages.specs.Rows.{row_then}
use Rattle.py_check_annotations.specs.Annotations.{annotation}
use Rattle.py_check_operators.specs.Facts.{local_of}
use Rattle.py_check_coercions.specs.Values.{truth}
use Rattle.py_check_coercions.specs.Several.{with_part}
use Rattle.py_check_values.specs.Returns.{ReturnSort, bare_return, value_return}
use Rattle.py_check_places.specs.Places.{Known, with_names, is_bound, locals_among, where_test, entering, Way, setting_out, behind_arm}
use Rattle.py_check_places.specs.Shapes.{is_row, is_flat, leaves, is_access}
use Rattle.py_check_values.specs.Aims.{Aim, held, first, barred, unwritten, misplaced, lacking}
use Rattle.py_check_calls.specs.Exceptions.{exception_made}
use Rattle.py_check_targets.specs.Targets.{target_of, targets_of, is_placed, name_aim, seen_aim, read_aim, assigned, declared, given, updated, annotation_fault, typed_at, target_aims, next_part, more_parts, beyond, aims_behind, declared_own, given_own}
use Rattle.py_check_assignments.specs.Assignments.{value_for, assigns, annotated_value, annotates, updates_one, updates_row, updates, asked_for, annotates_own, annotates_at, updates_single}
use Rattle.py_check_loops.specs.Loops.{Course, numbers, value, course, head, loop_over, loop_of}
use Rattle.py_check_loops.specs.Heads.{for_head, in_for, some_items}
use Rattle.py_check_exceptions.specs.Raises.{raises, asserts}
use Rattle.py_check_exceptions.specs.Handlers.{name_target, handler_head, in_handler}
use Rattle.py_check_statements.specs.Bodies.{is_definition, around_loop, around_clause, is_last, clause_of, present, try_of, condition, outside_try, after, block_after, arms_after, handlers_after, return_wanted, returns, in_loop, statement, node_statement, block, branches, clauses, maybe_block}
use Rattle.py_check_statements.specs.declared.bodies.Around.{Around}
use Rattle.py_check_expressions_laws.specs.WellTyped.{Within}
use Rattle.py_check_expressions_laws.proofs.Inside.{within_none, within_append, in_left}
use Rattle.py_check.proofs.Bound.{leaves_one, named, leaf_bindings, target_leaves}
use Rattle.py_check_laws.proofs.Deleted.{deleted_item}
use Rattle.std.specs.Option.{option_map}
use Rattle.py_check_laws.proofs.Looked.{looked_behind}
use Rattle.py_check_laws.proofs.Given.{made_given, both_given, rule_given, row_given, unless_ok}
use Rattle.py_check_laws.proofs.Assigned.{assigned_is, given_is, updated_is, head_is, own_single, declared_own_is, given_own_is, never_lacking, never_row}
use Rattle.py_check_laws.proofs.Names.{within_itself}
use Rattle.py_check_laws.proofs.Aims.{AimAt, AimsOf, Held, held_local, held_global, held_item, aim_held, First, first_local, first_global, aim_first, OtherAt, held_attribute, aims_are}
use Rattle.py_check_laws.proofs.Exceptions.{Raised, raised_on, raised_class, raised_value, raise_given, assert_given, NameAt, head_given}
use Rattle.py_check_laws.proofs.Literals.{heads, truth_literal}
use Rattle.py_check_targets.specs.Attributes.{own_attribute, lacking_in, declaring_fault}

-- ---- loops

pub over_closes : (ts : List TypedTarget) (s : Sort) (e : TypedExpr) (body : TypedSuite) → typed.closes_in (loop_over ts s e body) ≡ false
over_closes ts (sort.DictOf k t) e body = refl
over_closes ts _ e body = refl

over_breaks : (ts : List TypedTarget) (s : Sort) (e : TypedExpr) (body : TypedSuite) → typed.breaks_in (loop_over ts s e body) ≡ false
over_breaks ts (sort.DictOf k t) e body = refl
over_breaks ts _ e body = refl

over_binds : (ts : List TypedTarget) (s : Sort) (e : TypedExpr) (body : TypedSuite) → typed.bound_in (loop_over ts s e body) ≡ bound_by_all ts ++ typed.bound_suite body
over_binds ts (sort.DictOf k t) e body = refl
over_binds ts _ e body = refl

loop_closes : (ts : List TypedTarget) (w : Course) (body : TypedSuite) → typed.closes_in (loop_of ts w body) ≡ false
loop_closes ts (numbers a b) body = refl
loop_closes ts (value e) body = over_closes ts (type_of e) e body

loop_breaks : (ts : List TypedTarget) (w : Course) (body : TypedSuite) → typed.breaks_in (loop_of ts w body) ≡ false
loop_breaks ts (numbers a b) body = refl
loop_breaks ts (value e) body = over_breaks ts (type_of e) e body

pub loop_binds : (ts : List TypedTarget) (w : Course) (body : TypedSuite) → typed.bound_in (loop_of ts w body) ≡ bound_by_all ts ++ typed.bound_suite body
loop_binds ts (numbers a b) body = refl
loop_binds ts (value e) body = over_binds ts (type_of e) e body

-- ---- what a definition does

pub definition_shape : (s : StmtTree) → is_definition s ≡ true → (flow.closes s ≡ false) × (flow.breaks s ≡ false) × (stmt_bindings s ≡ [])
definition_shape (node.at (node.Import m other) span) h = (refl, refl, refl)
definition_shape (node.at (node.From m names) span) h = (refl, refl, refl)
definition_shape (node.at (node.Def f params ret body marks) span) h = (refl, refl, refl)
definition_shape (node.at (node.ClassDef x bases body marks) span) h = (refl, refl, refl)
definition_shape _ h = absurd (cc)

pub no_part_given : {A B : Type 0} (o : Option A) (span : Span) (m : Rattle.py_check_messages.specs.Seen.Message) (b : B) → (with_part {A = A} {B = B} o (λ q. Rattle.py_check_messages.specs.Seen.fails span m)).got ≡ Some b → ⊥
no_part_given None span m b h = cc
no_part_given (Some a) span m b h = cc

-- the parts of a `try` in the order of its typed form
or_turned : (a b : Bool) → (a || b) ≡ (b || a)
or_turned true true = refl
or_turned true false = refl
or_turned false true = refl
or_turned false false = refl

module _ (C : Context) where
  pub locals_two : (a b : List Binding) → locals_among C (a ++ b) ≡ locals_among C a ++ locals_among C b
  locals_two a b = flat_map-append (λ (x : Binding). local_of (C.meaning x.name)) a b

  -- a name that is read where it is updated is one that is assigned
  pub read_aim_at : (k : Known) (x : Option (List ℕ)) (target : ExprTree) (v : TypedExpr) → lacking_in C target ≡ None → (typed_at C k free target).got ≡ Some v → is_placed (read_aim C k x (is_access target) v) ≡ true → AimAt C k x target (read_aim C k x (is_access target) v)
  read_aim_at k None target v l g p = subst (λ o. OtherAt C k target o (read_aim C k None (is_access target) v)) (sym l) (v, g, refl)
  read_aim_at k (Some x) target v l g p = by (name_aim k x (C.meaning x)) refl p
    where
      by : (o : Option Aim) → name_aim k x (C.meaning x) ≡ o → is_placed (Rattle.std.specs.Prelude.unwrap_or o (misplaced (type_of v))) ≡ true → name_aim k x (C.meaning x) ≡ Some (Rattle.std.specs.Prelude.unwrap_or (name_aim k x (C.meaning x)) (misplaced (type_of v)))
      by None q h = absurd (cc)
      by (Some a) q h = q ∙ ap (λ (o : Option Aim). Some (Rattle.std.specs.Prelude.unwrap_or o (misplaced (type_of v)))) (sym q)

  -- ---- what targets bind

  locals_leaf : (e : ExprTree) (x : List ℕ) (m : Meaning) → name_in e ≡ Some x → C.meaning x ≡ m → locals_among C (leaf_bindings e) ≡ local_of m ++ []
  locals_leaf e x m n q = ap (λ o. locals_among C (named o)) n ∙ ap (λ z. local_of z ++ []) q

  held_within : (k : Known) (e : ExprTree) (t : TypedTarget) (s : Sort) → Held C k e t s → Within (bound_by_all (t ∷ [])) (locals_among C (leaf_bindings e))
  held_within k e t s (held_local x i n q is v) = subst (λ z. Within (bound_by_all (z ∷ [])) (locals_among C (leaf_bindings e))) is (subst (Within (i ∷ [])) (sym (locals_leaf e x (meaning.Local i) n q)) (within_itself (i ∷ [])))
  held_within k e t s (held_global x i n q is v) = subst (λ z. Within (bound_by_all (z ∷ [])) (locals_among C (leaf_bindings e))) is (within_none (locals_among C (leaf_bindings e)))
  held_within k e t s (held_item b i place n g w is) = subst (λ z. Within (bound_by_all (z ∷ [])) (locals_among C (leaf_bindings e))) is (within_none (locals_among C (leaf_bindings e)))
  held_within k e t s (held_attribute b a place n g is) = subst (λ z. Within (bound_by_all (z ∷ [])) (locals_among C (leaf_bindings e))) is (within_none (locals_among C (leaf_bindings e)))

  first_within : (k : Known) (e : ExprTree) (t : TypedTarget) → First C k e t → Within (bound_by_all (t ∷ [])) (locals_among C (leaf_bindings e))
  first_within k e t (first_local x i n q is v) = subst (λ z. Within (bound_by_all (z ∷ [])) (locals_among C (leaf_bindings e))) is (subst (Within (i ∷ [])) (sym (locals_leaf e x (meaning.Local i) n q)) (within_itself (i ∷ [])))
  first_within k e t (first_global x i n q is v) = subst (λ z. Within (bound_by_all (z ∷ [])) (locals_among C (leaf_bindings e))) is (within_none (locals_among C (leaf_bindings e)))

  aim_within : (k : Known) (e : ExprTree) (a : Aim) → AimAt C k (name_in e) e a → Within (bound_by_all (target_of a)) (locals_among C (leaf_bindings e))
  aim_within k e (held t s) h = held_within k e t s (aim_held C k e t s h)
  aim_within k e (first t x) h = first_within k e t (aim_first C k e t x h)
  aim_within k e (barred x) h = within_none (locals_among C (leaf_bindings e))
  aim_within k e (unwritten s) h = within_none (locals_among C (leaf_bindings e))
  aim_within k e (lacking s x) h = within_none (locals_among C (leaf_bindings e))
  aim_within k e (misplaced s) h = within_none (locals_among C (leaf_bindings e))

  aims_within : (k : Known) (ts : Option (List Sort)) (es : List ExprTree) (l : List Aim) → AimsOf C k ts es l → Within (bound_by_all (targets_of l)) (locals_among C (flat_map leaf_bindings es))
  aims_within k ts [] [] h = within_none []
  aims_within k ts [] (a ∷ l) h = absurd h
  aims_within k ts (e ∷ es) [] h = absurd h
  aims_within k ts (e ∷ es) (a ∷ l) h =
      subst (λ z. Within z (locals_among C (flat_map leaf_bindings (e ∷ es)))) (sym (flat_map-append bound_by (target_of a) (targets_of l)))
      (subst (Within (bound_by_all (target_of a) ++ bound_by_all (targets_of l))) (sym (locals_two (leaf_bindings e) (flat_map leaf_bindings es)))
      (within_append (bound_by_all (target_of a)) (bound_by_all (targets_of l)) (locals_among C (leaf_bindings e)) (locals_among C (flat_map leaf_bindings es)) (aim_within k e a h.here) (aims_within (beyond C k (name_in e) (next_part ts)) (more_parts ts) es l h.rest)))

  pub targets_within : (k : Known) (target : ExprTree) (l : List Aim) (ts : Option (List Sort)) → AimsOf C k ts (leaves target) l → Within (bound_by_all (targets_of l)) (locals_among C (target_bindings target))
  targets_within k target l ts a = subst (λ bs. Within (bound_by_all (targets_of l)) (locals_among C bs)) (sym (target_leaves target)) (aims_within k ts (leaves target) l a)

  -- ---- statements

  pub record ActShape (n : StmtNode) (a : TypedAct) : Type 0 where
    pub closes : typed.closes_in a ≡ flow.closes_in n
    pub breaks : typed.breaks_in a ≡ flow.breaks_in n
    pub bound : Within (typed.bound_in a) (locals_among C (act_bindings n))

  pub record StmtShape (s : StmtTree) (t : TypedStmt) : Type 0 where
    pub closes : typed.closes t ≡ flow.closes s
    pub breaks : typed.breaks t ≡ flow.breaks s
    pub bound : Within (typed.bound t) (locals_among C (stmt_bindings s))

  pub record SuiteShape (body : Suite) (t : TypedSuite) : Type 0 where
    pub closed : typed.is_closed t ≡ flow.is_closed body
    pub breaks : typed.breaks_suite t ≡ flow.breaks_suite body
    pub bound : Within (typed.bound_suite t) (locals_among C (suite_bindings body))

  pub record ArmsShape (arms : Arms) (t : act.Arms) : Type 0 where
    pub closed : typed.closed_arms t ≡ flow.closed_arms arms
    pub breaks : typed.breaks_arms t ≡ flow.breaks_arms arms
    pub bound : Within (typed.bound_arms t) (locals_among C (arms_bindings arms))

  pub record HandlersShape (handlers : Handlers) (t : act.Handlers) : Type 0 where
    pub closed : typed.closed_handlers t ≡ flow.closed_handlers handlers
    pub breaks : typed.breaks_handlers t ≡ flow.breaks_handlers handlers
    pub bound : Within (typed.bound_handlers t) (locals_among C (handlers_bindings handlers))

  pub record LastShape (last : MaybeSuite) (t : act.MaybeSuite) : Type 0 where
    pub closed : typed.closed_last t ≡ flow.closed_last last
    pub breaks : typed.breaks_last t ≡ flow.breaks_last last
    pub bound : Within (typed.bound_last t) (locals_among C (last_bindings last))

  within_two : (xs ys : List ℕ) (a b : List Binding) → Within xs (locals_among C a) → Within ys (locals_among C b) → Within (xs ++ ys) (locals_among C (a ++ b))
  within_two xs ys a b v w = subst (Within (xs ++ ys)) (sym (locals_two a b)) (within_append xs ys (locals_among C a) (locals_among C b) v w)

  within_three : (xs ys zs : List ℕ) (a b c : List Binding) → Within xs (locals_among C a) → Within ys (locals_among C b) → Within zs (locals_among C c) → Within ((xs ++ ys) ++ zs) (locals_among C (a ++ (b ++ c)))
  within_three xs ys zs a b c u v w =
      subst (λ l. Within l (locals_among C (a ++ (b ++ c)))) (sym (append_assoc xs ys zs)) (within_two xs (ys ++ zs) a (b ++ c) u (within_two ys zs b c v w))

  assign_shape : (k : Known) (span : Span) (target e : ExprTree) (a : TypedAct) → (assigns C k span target e).got ≡ Some a → ActShape (node.Assign target e) a
  assign_shape k span target e a h =
      let value = value_for C k target e in
      let targets = aims_behind C k target (option_map type_of value.got) in
      let r = rule_given span (assigned C.classes target (asked_for C k target)) (both targets value) a h in
      let b = both_given targets value r.0 r.1 in
      let d = assigned_is C.classes target (asked_for C k target) r.0 a r.2 in
      let looked = looked_behind C k target r.0.0 (option_map type_of value.got) (type_of r.0.1) b.0 (ap (option_map type_of) b.1) in
      subst (ActShape (node.Assign target e)) d.is (record { closes = refl; breaks = refl; bound = targets_within k target r.0.0 looked.parts looked.aims })

  named_within : (target mark : ExprTree) (x : List ℕ) (xs : List ℕ) → name_in target ≡ Some x → Within xs (locals_among C (leaf_bindings target)) → Within xs (locals_among C (marked (name_in target) target mark))
  named_within target mark x xs n w = subst (Within xs) (ap (λ o. locals_among C (named o)) n ∙ sym (ap (λ o. locals_among C (marked o target mark)) n)) w

  name_shape : (k : Known) (span : Span) (x : List ℕ) (target mark : ExprTree) (e : Option ExprTree) (a : TypedAct) → name_in target ≡ Some x → (Rattle.py_check_assignments.specs.Assignments.annotates_name C k span x mark e).got ≡ Some a → ActShape (node.Annot target mark e) a
  name_shape k span x target mark None a n h =
      let r = rule_given span (declared x (is_bound k (C.meaning x))) (both (seen_aim (name_aim k x (C.meaning x))) (annotation C.meaning mark)) a h in
      let q = unless_ok (annotation_fault x (is_bound k (C.meaning x)) r.0.0) act.Pass a r.2 in
      subst (ActShape (node.Annot target mark None)) q.1 (record { closes = refl; breaks = refl; bound = within_none (locals_among C (act_bindings (node.Annot target mark None))) })
  name_shape k span x target mark (Some e) a n h =
      let parts = both (seen_aim (name_aim k x (C.meaning x))) (annotation C.meaning mark) in
      let r = rule_given span (given C.classes x (is_bound k (C.meaning x))) (both parts (annotated_value C k x e)) a h in
      let b = both_given parts (annotated_value C k x e) r.0 r.1 in
      let c = both_given (seen_aim (name_aim k x (C.meaning x))) (annotation C.meaning mark) r.0.0 b.0 in
      let g = given_is C.classes x (is_bound k (C.meaning x)) r.0 a r.2 in
      subst (ActShape (node.Annot target mark (Some e))) g.is (record { closes = refl; breaks = refl; bound = named_within target mark x (bound_by_all (target_of r.0.0.0)) n (aim_within k target r.0.0.0 (subst (λ o. AimAt C k o target r.0.0.0) (sym n) c.0)) })

  -- what an attribute binds is no name
  unnamed : (k : Known) (target : ExprTree) (l : List Aim) → is_row target ≡ false → name_in target ≡ None → AimsOf C k None (leaves target) l → (ys : List ℕ) → Within (bound_by_all (targets_of l)) ys
  unnamed k target l q n a ys = by l (subst (λ es. AimsOf C k None es l) (leaves_one target q) a)
    where
      of_aim : (x : Aim) → AimAt C k (name_in target) target x → Within (bound_by_all (target_of x)) ys
      of_aim x h y g = within_none ys y (subst (λ o. is_in (locals_among C (named o)) y ≡ true) n (aim_within k target x h y g))

      by : (l : List Aim) → AimsOf C k None (target ∷ []) l → Within (bound_by_all (targets_of l)) ys
      by [] h = absurd h
      by (x ∷ []) h = subst (λ z. Within (bound_by_all z) ys) (sym (append-nil (target_of x))) (of_aim x h.here)
      by (x ∷ y ∷ l) h = absurd h.rest

  own_shape : (k : Known) (span : Span) (p : ExprTree × List ℕ) (target mark : ExprTree) (e : Option ExprTree) (a : TypedAct) → own_attribute C.inside target ≡ Some p → (annotates_own C k span p.1 target mark e).got ≡ Some a → ActShape (node.Annot target mark e) a
  own_shape k span p target mark None a o h =
      let r = rule_given span (declared_own (declaring_fault C.inside p.1 span)) (both (target_aims C k target) (annotation C.meaning mark)) a h in
      subst (ActShape (node.Annot target mark None)) (declared_own_is (declaring_fault C.inside p.1 span) r.0 a r.2) (record { closes = refl; breaks = refl; bound = within_none (locals_among C (act_bindings (node.Annot target mark None))) })
  own_shape k span p target mark (Some e) a o h =
      let front = both (target_aims C k target) (annotation C.meaning mark) in
      let r = rule_given span (given_own C.classes target (declaring_fault C.inside p.1 span)) (both front (value_for C k target e)) a h in
      let b = both_given front (value_for C k target e) r.0 r.1 in
      let c = both_given (target_aims C k target) (annotation C.meaning mark) r.0.0 b.0 in
      let d = given_own_is C.classes target (declaring_fault C.inside p.1 span) r.0 a r.2 in
      let s = own_single C.inside target p o in
      subst (ActShape (node.Annot target mark (Some e))) d.is (record { closes = refl; breaks = refl; bound = unnamed k target r.0.0.0 s.0 s.1 (aims_are C k None (leaves target) r.0.0.0 c.0) (locals_among C (act_bindings (node.Annot target mark (Some e)))) })

  annotated_shape : (k : Known) (span : Span) (x : Option (List ℕ)) (target mark : ExprTree) (e : Option ExprTree) (a : TypedAct) → name_in target ≡ x → (annotates C k span x target mark e).got ≡ Some a → ActShape (node.Annot target mark e) a
  annotated_shape k span (Some x) target mark e a n h = name_shape k span x target mark e a n h
  annotated_shape k span None target mark e a n h = by (own_attribute C.inside target) refl e h
    where
      by : (o : Option (ExprTree × List ℕ)) → own_attribute C.inside target ≡ o → (e : Option ExprTree) → (annotates_at C k span o target mark e).got ≡ Some a → ActShape (node.Annot target mark e) a
      by None q None g = absurd (no_part_given (both (target_aims C k target) (annotation C.meaning mark)).got span no_target a g)
      by None q (Some e) g = absurd (no_part_given (both (both (aims_behind C k target (option_map type_of (value_for C k target e).got)) (annotation C.meaning mark)) (value_for C k target e)).got span no_target a g)
      by (Some p) q e g = own_shape k span p target mark e a q g

  one_bound : (t : TypedTarget) (more l : List TypedTarget) (ys : List ℕ) → l ≡ t ∷ more → Within (bound_by_all l) ys → Within (bound_by t) ys
  one_bound t more l ys q w x e = w x (subst (λ z. is_in (bound_by_all z) x ≡ true) (sym q) (in_left (bound_by t) (bound_by_all more) x e))

  pub one_target : (target : ExprTree) → is_row target ≡ false → target_bindings target ≡ leaf_bindings target
  one_target target q = target_leaves target ∙ ap (flat_map leaf_bindings) (leaves_one target q) ∙ append-nil (leaf_bindings target)

  update_shape : (k : Known) (span : Span) (target : ExprTree) (op : BinOp) (e : ExprTree) (a : TypedAct) → is_row target ≡ false → lacking_in C target ≡ None → (updates_one C k span target op e).got ≡ Some a → ActShape (node.Aug target op e) a
  update_shape k span target op e a q l h =
      let r = rule_given span (updated C.classes span op (read_aim C k (name_in target) (is_access target))) (both (typed_at C k free target) (typed_at C k free e)) a h in
      let b = both_given (typed_at C k free target) (typed_at C k free e) r.0 r.1 in
      let u = updated_is C.classes span op (read_aim C k (name_in target) (is_access target)) r.0 a r.2 in
      let aim = read_aim C k (name_in target) (is_access target) r.0.0 in
      subst (ActShape (node.Aug target op e)) u.is (record {
        closes = refl;
        breaks = refl;
        bound = subst (λ bs. Within (bound_by u.target) (locals_among C bs)) (sym (one_target target q)) (one_bound u.target u.more (target_of aim) (locals_among C (leaf_bindings target)) u.aimed (aim_within k target aim (read_aim_at k (name_in target) target r.0.0 l b.0 u.placed)));
      })

  updates_shape : (k : Known) (span : Span) (target : ExprTree) (op : BinOp) (e : ExprTree) (a : TypedAct) → (updates C k span target op e).got ≡ Some a → ActShape (node.Aug target op e) a
  updates_shape k span target op e a h = by (is_row target) refl (lacking_in C target) refl h
    where
      by : (b : Bool) → is_row target ≡ b → (o : Option (ExprTree × List ℕ)) → lacking_in C target ≡ o → (if b then updates_row C k span target e else updates_single C k span o target op e).got ≡ Some a → ActShape (node.Aug target op e) a
      by true q o l f = absurd (never_row C.classes span (both (aims_behind C k target None) (typed_at C k free e)) a f)
      by false q None l f = update_shape k span target op e a q l f
      by false q (Some p) l f = absurd (never_lacking C.classes span p.1 (both (typed_at C k free p.0) (typed_at C k free e)) a f)

  definition_step : (s : StmtTree) (more : Suite) (t : TypedSuite) → is_definition s ≡ true → SuiteShape more t → SuiteShape (stmt_then s more) t
  definition_step s more t d h =
      let q = definition_shape s d in
      record {
        closed = h.closed ∙ sym (ap (λ b. b || flow.is_closed more) q.0);
        breaks = h.breaks ∙ sym (ap (λ b. b || flow.breaks_suite more) q.1);
        bound = subst (Within (typed.bound_suite t)) (sym (locals_two (stmt_bindings s) (suite_bindings more) ∙ ap (λ bs. locals_among C bs ++ locals_among C (suite_bindings more)) q.2)) h.bound;
      }

  stmt_step : (s : StmtTree) (more : Suite) (t : TypedStmt) (ts : TypedSuite) → StmtShape s t → SuiteShape more ts → SuiteShape (stmt_then s more) (act.stmt_then t ts)
  stmt_step s more t ts h r = record {
    closed = ap₂ (λ (a b : Bool). a || b) h.closes r.closed;
    breaks = ap₂ (λ (a b : Bool). a || b) h.breaks r.breaks;
    bound = within_two (typed.bound t) (typed.bound_suite ts) (stmt_bindings s) (suite_bindings more) h.bound r.bound;
  }

  arm_step : (e : ExprTree) (body : Suite) (more : Arms) (t : TypedExpr) (ts : TypedSuite) (rest : act.Arms) → SuiteShape body ts → ArmsShape more rest → ArmsShape (arm_then e body more) (act.arm_then t ts rest)
  arm_step e body more t ts rest h r = record {
    closed = ap₂ (λ (a b : Bool). a && b) h.closed r.closed;
    breaks = ap₂ (λ (a b : Bool). a || b) h.breaks r.breaks;
    bound = within_two (typed.bound_suite ts) (typed.bound_arms rest) (suite_bindings body) (arms_bindings more) h.bound r.bound;
  }

  if_shape : (arms : Arms) (other : Suite) (t : act.Arms) (ts : TypedSuite) → ArmsShape arms t → SuiteShape other ts → ActShape (node.If arms other) (act.If t ts)
  if_shape arms other t ts h r = record {
    closes = ap₂ (λ (a b : Bool). a && b) h.closed r.closed;
    breaks = ap₂ (λ (a b : Bool). a || b) h.breaks r.breaks;
    bound = within_two (typed.bound_arms t) (typed.bound_suite ts) (arms_bindings arms) (suite_bindings other) h.bound r.bound;
  }

  while_shape : (e : ExprTree) (body : Suite) (t : TypedExpr) (ts : TypedSuite) → is_true_literal t ≡ is_true e → SuiteShape body ts → ActShape (node.While e body) (act.While t ts)
  while_shape e body t ts q h = record {
    closes = ap₂ (λ (a b : Bool). a && not b) q h.breaks;
    breaks = refl;
    bound = h.bound;
  }

  for_shape : (target e : ExprTree) (body : Suite) (ts : List TypedTarget) (w : Course) (t : TypedSuite) → Within (bound_by_all ts) (locals_among C (target_bindings target)) → SuiteShape body t → ActShape (node.For target e body) (loop_of ts w t)
  for_shape target e body ts w t b h = record {
    closes = loop_closes ts w t;
    breaks = loop_breaks ts w t;
    bound = subst (λ xs. Within xs (locals_among C (act_bindings (node.For target e body)))) (sym (loop_binds ts w t)) (within_two (bound_by_all ts) (typed.bound_suite t) (target_bindings target) (suite_bindings body) b h.bound);
  }

  clause_step : (e : Option ExprTree) (x : Option (List ℕ)) (body : Suite) (span : Span) (more : Handlers) (classes : List ExcClass) (name : Option TypedTarget) (ts : TypedSuite) (rest : act.Handlers) → Within (bound_by_name name) (locals_among C (caught x)) → SuiteShape body ts → HandlersShape more rest
      → HandlersShape (handler_then e x body span more) (act.handler_then classes name ts rest)
  clause_step e x body span more classes name ts rest b h r = record {
    closed = ap₂ (λ (a b : Bool). a && b) h.closed r.closed;
    breaks = ap₂ (λ (a b : Bool). a || b) h.breaks r.breaks;
    bound = within_three (bound_by_name name) (typed.bound_suite ts) (typed.bound_handlers rest) (caught x) (suite_bindings body) (handlers_bindings more) b h.bound r.bound;
  }

  try_shape : (body : Suite) (handlers : Handlers) (last : MaybeSuite) (t : TypedSuite) (hs : act.Handlers) (l : act.MaybeSuite) → SuiteShape body t → HandlersShape handlers hs → LastShape last l → ActShape (node.Try body handlers last) (act.Try t hs l)
  try_shape body handlers last t hs l h r s = record {
    closes = ap₂ (λ (a b : Bool). a || b) s.closed (ap₂ (λ (a b : Bool). a && b) h.closed r.closed) ∙ or_turned (flow.closed_last last) (flow.is_closed body && flow.closed_handlers handlers);
    breaks = ap₂ (λ (a b : Bool). a || b) (ap₂ (λ (a b : Bool). a || b) h.breaks r.breaks) s.breaks;
    bound = within_three (typed.bound_suite t) (typed.bound_handlers hs) (typed.bound_last l) (suite_bindings body) (handlers_bindings handlers) (last_bindings last) h.bound r.bound s.bound;
  }

  -- ---- names of except clauses

  name_bound : (a : Aim) (ys : List ℕ) → Within (bound_by_all (target_of a)) ys → Within (bound_by_name (name_target (Some a))) ys
  name_bound (held t s) ys w = one_bound t [] (t ∷ []) ys refl w
  name_bound (first t x) ys w = one_bound t [] (t ∷ []) ys refl w
  name_bound (barred x) ys w = within_none ys
  name_bound (unwritten s) ys w = within_none ys
  name_bound (lacking s x) ys w = within_none ys
  name_bound (misplaced s) ys w = within_none ys

  name_within : (k : Known) (span : Span) (x : Option (List ℕ)) (a : Option Aim) → NameAt C k span x a → Within (bound_by_name (name_target a)) (locals_among C (caught x))
  name_within k span None a n = subst (λ o. Within (bound_by_name (name_target o)) (locals_among C (caught None))) n (within_none [])
  name_within k span (Some x) a n =
      subst (λ o. Within (bound_by_name (name_target o)) (locals_among C (caught (Some x)))) n.2
      (name_bound n.0 (locals_among C (caught (Some x))) (aim_within k (at (tree.Name x) span) n.0 n.1))

  clause_within : (k : Known) (span : Span) (e : Option ExprTree) (x : Option (List ℕ)) (last : Bool) (p : List ExcClass × Option TypedTarget) → (handler_head C k span e x last).got ≡ Some p → Within (bound_by_name p.1) (locals_among C (caught x))
  clause_within k span e x last p h =
      let g = head_given C k span e x last p h in subst (λ o. Within (bound_by_name o) (locals_among C (caught x))) g.target (name_within k span x g.aim g.name)

  plain_shape : (n : StmtNode) (a b : TypedAct) → typed.closes_in a ≡ flow.closes_in n → typed.breaks_in a ≡ flow.breaks_in n → typed.bound_in a ≡ [] → a ≡ b → ActShape n b
  plain_shape n a b c d e q = subst (ActShape n) q (record { closes = c; breaks = d; bound = subst (λ xs. Within xs (locals_among C (act_bindings n))) (sym e) (within_none (locals_among C (act_bindings n))) })

  raise_shape : (handling : Bool) (k : Known) (span : Span) (e : Option ExprTree) (a : TypedAct) → (raises C handling k span e).got ≡ Some a → ActShape (node.Raise e) a
  raise_shape handling k span e a h = by (raise_given C handling k span e a h)
    where
      by : Raised C handling k e a → ActShape (node.Raise e) a
      by (raised_on q is) = plain_shape (node.Raise e) (act.Raise None) a refl refl refl is
      by (raised_class place x is) = plain_shape (node.Raise e) (act.Raise (Some (exception_made place x None))) a refl refl refl is
      by (raised_value v t p g x is) = plain_shape (node.Raise e) (act.Raise (Some t)) a refl refl refl is

  assert_shape : (k : Known) (span : Span) (e : ExprTree) (text : Option ExprTree) (a : TypedAct) → (asserts C k span e text).got ≡ Some a → ActShape (node.Assert e text) a
  assert_shape k span e text a h = let g = assert_given C k span e text a h in plain_shape (node.Assert e text) (act.Assert g.test g.message) a refl refl refl g.is

  module _ (r : ReturnSort) where
    return_shape : (k : Known) (span : Span) (e : Option ExprTree) (a : TypedAct) → (returns C r k span e).got ≡ Some a → ActShape (node.Return e) a
    return_shape k span None a h = let q = made_given (λ u. act.Return None) (bare_return span r) a h in plain_shape (node.Return None) (act.Return None) a refl refl refl q.2
    return_shape k span (Some e) a h =
        let q = made_given (λ v. act.Return (Some v)) (behind (typed_at C k (return_wanted r) e) (λ p. with_part p (value_return C.classes span r))) a h in
        plain_shape (node.Return (Some e)) (act.Return (Some q.0)) a refl refl refl q.2

    break_shape : (loops : Bool) (span : Span) (word : List ℕ) (n : StmtNode) (b a : TypedAct) → typed.closes_in b ≡ flow.closes_in n → typed.breaks_in b ≡ flow.breaks_in n → typed.bound_in b ≡ [] → (in_loop loops span word b).got ≡ Some a → ActShape n a
    break_shape true span word n b a c d e h = plain_shape n b a c d e (same_Some b a h)
    break_shape false span word n b a c d e h = absurd (cc)

    head_within : (k : Known) (s : StmtTree) (span : Span) (target e : ExprTree) (p : List TypedTarget × Course) → (for_head C k s span target e).got ≡ Some p → Within (bound_by_all p.0) (locals_among C (target_bindings target))
    head_within k s span target e p h =
        let over = course C k e in
        let inner = entering C k s in
        let targets = aims_behind C inner target (some_items over.got) in
        let parts = both targets over in
        let q = made_given (λ (z : List Aim × Course). (targets_of z.0, z.1)) (rule span (head C.classes (is_flat target) (is_row target)) parts) p h in
        let g = rule_given span (head C.classes (is_flat target) (is_row target)) parts q.0 q.1 in
        let b = both_given targets over g.0 g.1 in
        let d = head_is C.classes target g.0 q.0 g.2 in
        let looked = looked_behind C inner target g.0.0 (some_items over.got) d.0.item b.0 (ap some_items b.1 ∙ d.0.items) in
        subst (λ (z : List TypedTarget × Course). Within (bound_by_all z.0) (locals_among C (target_bindings target))) (ap (λ (z : List Aim × Course). (targets_of z.0, z.1)) d.1 ∙ q.2) (targets_within inner target g.0.0 looked.parts looked.aims)

    suite_step : (s : StmtTree) (more : Suite) (same : Seen (List TypedStmt)) (one : Seen TypedStmt) (rest : Seen (List TypedStmt)) (ts : List TypedStmt) (b : Bool) → is_definition s ≡ b → (same.got ≡ Some ts → SuiteShape more (suite_of ts)) → ((t : TypedStmt) → one.got ≡ Some t → StmtShape s t)
        → ((l : List TypedStmt) → rest.got ≡ Some l → SuiteShape more (suite_of l)) → (if b then same else row_then one rest).got ≡ Some ts → SuiteShape (stmt_then s more) (suite_of ts)
    suite_step s more same one rest ts true d f g i h = definition_step s more (suite_of ts) d (f h)
    suite_step s more same one rest ts false d f g i h =
        let q = row_given one rest ts h in
        subst (λ l. SuiteShape (stmt_then s more) (suite_of l)) q.4 (stmt_step s more q.0 (suite_of q.1) (g q.0 q.2) (i q.1 q.3))

    mutual
      shape_stmt : (around : Around) (k : Known) (s : StmtTree) (t : TypedStmt) → (statement C r around k s).got ≡ Some t → StmtShape s t
      shape_stmt around k (node.at n span) t h =
          let q = made_given (λ a. on_line a span.line) (node_statement C r around k span n) t h in
          let d = shape_act around k span n q.0 q.1 in
          subst (StmtShape (node.at n span)) q.2 (record { closes = d.closes; breaks = d.breaks; bound = d.bound })

      pub shape_act : (around : Around) (k : Known) (span : Span) (n : StmtNode) (a : TypedAct) → (node_statement C r around k span n).got ≡ Some a → ActShape n a
      shape_act around k span (node.Do e) a h = let q = made_given act.Do (typed_at C k _ e) a h in plain_shape (node.Do e) (act.Do q.0) a refl refl refl q.2
      shape_act around k span (node.Assign target e) a h = assign_shape k span target e a h
      shape_act around k span (node.Annot target mark e) a h = annotated_shape k span (name_in target) target mark e a refl h
      shape_act around k span (node.Aug target op e) a h = updates_shape k span target op e a h
      shape_act around k span (node.Del e) a h =
          let d = (deleted_item C k span e a h).2 in plain_shape (node.Del e) (act.Del d.held d.key) a refl refl refl d.made
      shape_act around k span (node.Return e) a h = return_shape k span e a h
      shape_act around k span node.Pass a h = plain_shape node.Pass act.Pass a refl refl refl (same_Some act.Pass a h)
      shape_act around k span (node.Global names) a h = plain_shape (node.Global names) act.Pass a refl refl refl (same_Some act.Pass a h)
      shape_act around k span node.Break a h = break_shape around.looping span _ node.Break act.Break a refl refl refl h
      shape_act around k span node.Continue a h = break_shape around.looping span _ node.Continue act.Continue a refl refl refl h
      shape_act around k span (node.If arms other) a h =
          let w = arms_after C (setting_out k) arms in
          let s = branches C r around (setting_out k) arms in
          let t = block C r around w.at other in
          let q = made_given (λ p. act.If (arms_of p.0) (suite_of p.1)) (both s t) a h in
          let b = both_given s t q.0 q.1 in
          subst (ActShape (node.If arms other)) q.2 (if_shape arms other (arms_of q.0.0) (suite_of q.0.1) (shape_arms around (setting_out k) arms q.0.0 b.0) (shape_block around w.at other q.0.1 b.1))
      shape_act around k span (node.While e body) a h =
          let l = entering C k (node.at (node.While e body) span) in
          let s = condition C l e in
          let t = block C r (around_loop around) (where_test C l true e) body in
          let q = made_given (λ p. act.While p.0 (suite_of p.1)) (both s t) a h in
          let b = both_given s t q.0 q.1 in
          let v = made_given truth (typed_at C l test e) q.0.0 b.0 in
          subst (ActShape (node.While e body)) q.2 (while_shape e body q.0.0 (suite_of q.0.1) (ap is_true_literal (sym v.2) ∙ truth_literal e v.0 ((heads C l.types test l.names e).each v.0 v.1)) (shape_block (around_loop around) (where_test C l true e) body q.0.1 b.1))
      shape_act around k span (node.For target e body) a h =
          let here = node.at (node.For target e body) span in
          let s = for_head C k here span target e in
          let l = in_for C k here span target e in
          let t = block C r (around_loop around) l body in
          let q = made_given (λ p. loop_of p.0.0 p.0.1 (suite_of p.1)) (both s t) a h in
          let b = both_given s t q.0 q.1 in
          subst (ActShape (node.For target e body)) q.2 (for_shape target e body q.0.0.0 q.0.0.1 (suite_of q.0.1) (head_within k here span target e q.0.0 b.0) (shape_block (around_loop around) l body q.0.1 b.1))
      shape_act around k span (node.Raise e) a h = raise_shape around.handling k span e a h
      shape_act around k span (node.Assert e text) a h = assert_shape k span e text a h
      shape_act around k span (node.Try body handlers last) a h =
          let names = outside_try C k (node.at (node.Try body handlers last) span) in
          let l = block_after C k body in
          let s = block C r around k body in
          let t = clauses C r around names l handlers in
          let u = maybe_block C r around names (handlers_after C names l handlers) last in
          let q = made_given try_of (both (both s t) u) a h in
          let b = both_given (both s t) u q.0 q.1 in
          let d = both_given s t q.0.0 b.0 in
          subst (ActShape (node.Try body handlers last)) q.2
          (try_shape body handlers last (suite_of q.0.0.0) (act.handlers_of q.0.0.1) (act.maybe_suite (option_map suite_of q.0.1)) (shape_block around k body q.0.0.0 d.0) (shape_clauses around names l handlers q.0.0.1 d.1) (shape_last around names (handlers_after C names l handlers) last q.0.1 b.1))
      shape_act around k span _ a h = absurd (cc)

      pub shape_block : (around : Around) (k : Known) (body : Suite) (ts : List TypedStmt) → (block C r around k body).got ≡ Some ts → SuiteShape body (suite_of ts)
      shape_block around k no_stmts ts h = subst (λ l. SuiteShape no_stmts (suite_of l)) (same_Some [] ts h) (record { closed = refl; breaks = refl; bound = within_none [] })
      shape_block around k (stmt_then s more) ts h =
          let one = statement C r around k s in
          let rest = block C r around (after C k s) more in
          suite_step s more (block C r around k more) one rest ts (is_definition s) refl (λ q. shape_block around k more ts q) (λ t q. shape_stmt around k s t q) (λ l q. shape_block around (after C k s) more l q) h

      shape_arms : (around : Around) (w : Way) (arms : Arms) (l : List (TypedExpr × TypedSuite)) → (branches C r around w arms).got ≡ Some l → ArmsShape arms (arms_of l)
      shape_arms around w no_arms l h = subst (λ z. ArmsShape no_arms (arms_of z)) (same_Some [] l h) (record { closed = refl; breaks = refl; bound = within_none [] })
      shape_arms around w (arm_then e body more) l h =
          let s = condition C w.at e in
          let inner = where_test C w.at true e in
          let t = block C r around inner body in
          let next = behind_arm C w e (flow.is_closed body) (block_after C inner body) in
          let one = made (λ p. (p.0, suite_of p.1)) (both s t) in
          let q = row_given one (branches C r around next more) l h in
          let v = made_given (λ p. (p.0, suite_of p.1)) (both s t) q.0 q.2 in
          let b = both_given s t v.0 v.1 in
          subst (λ z. ArmsShape (arm_then e body more) (arms_of z)) q.4 (subst (λ (z : TypedExpr × TypedSuite). ArmsShape (arm_then e body more) (arms_of (z ∷ q.1))) v.2
          (arm_step e body more v.0.0 (suite_of v.0.1) (arms_of q.1) (shape_block around inner body v.0.1 b.1) (shape_arms around next more q.1 q.3)))

      shape_clauses : (around : Around) (names : List ℕ) (k : Known) (handlers : Handlers) (l : List HandlerParts) → (clauses C r around names k handlers).got ≡ Some l → HandlersShape handlers (act.handlers_of l)
      shape_clauses around names k no_handlers l h = subst (λ z. HandlersShape no_handlers (act.handlers_of z)) (same_Some [] l h) (record { closed = refl; breaks = refl; bound = within_none [] })
      shape_clauses around names k (handler_then e x body span more) l h =
          let begun = in_handler C (with_names k names) span e x (is_last more) in
          let s = handler_head C (with_names k names) span e x (is_last more) in
          let t = block C r (around_clause around) begun body in
          let q = row_given (made clause_of (both s t)) (clauses C r around names (block_after C begun body) more) l h in
          let v = made_given clause_of (both s t) q.0 q.2 in
          let b = both_given s t v.0 v.1 in
          subst (λ z. HandlersShape (handler_then e x body span more) (act.handlers_of z)) q.4 (subst (λ (z : HandlerParts). HandlersShape (handler_then e x body span more) (act.handlers_of (z ∷ q.1))) v.2
          (clause_step e x body span more v.0.0.0 v.0.0.1 (suite_of v.0.1) (act.handlers_of q.1) (clause_within (with_names k names) span e x (is_last more) v.0.0 b.0) (shape_block (around_clause around) begun body v.0.1 b.1)
          (shape_clauses around names (block_after C begun body) more q.1 q.3)))

      shape_last : (around : Around) (names : List ℕ) (k : Known) (last : MaybeSuite) (o : Option (List TypedStmt)) → (maybe_block C r around names k last).got ≡ Some o → LastShape last (act.maybe_suite (option_map suite_of o))
      shape_last around names k no_suite o h = subst (λ z. LastShape no_suite (act.maybe_suite (option_map suite_of z))) (same_Some None o h) (record { closed = refl; breaks = refl; bound = within_none [] })
      shape_last around names k (some_suite body) o h =
          let q = made_given present (block C r around (with_names k names) body) o h in
          let g = shape_block around (with_names k names) body q.0 q.1 in
          subst (λ z. LastShape (some_suite body) (act.maybe_suite (option_map suite_of z))) q.2 (record { closed = g.closed; breaks = g.breaks; bound = g.bound })

-- All that statements bind as they are written, their typed form binds, where each annotation of a variable of the function's own has
-- a value.
use Rattle.std.proofs.Common.{◌≡◌, ℕ, Bool, true, false, not, List, [], ◌∷◌, ◌++◌, Option, Some, None, refl, ap, sym, subst, if◌then◌else◌}
use Rattle.std.proofs.lemmas.Option.{same_Some}
use Rattle.std.proofs.lemmas.Grind.{flat_map-append}
use Rattle.std.proofs.lemmas.List.{append-nil, append_assoc}
use Rattle.std.specs.List.{flat_map}
use Rattle.std.specs.Option.{option_map}
use Rattle.value_core.specs.declared.exception.ExcClass.{ExcClass}
use Rattle.py_syntax.specs.declared.token.Span.{Span}
use Rattle.py_syntax.specs.declared.expression.BinOp.{BinOp}
use Rattle.py_syntax.specs.Expressions.{ExprTree}
use Rattle.py_syntax.specs.Statements as node
use Rattle.py_syntax.specs.Statements.{StmtTree, StmtNode, Suite, no_stmts, stmt_then, Arms, no_arms, arm_then, Handlers, no_handlers, handler_then, MaybeSuite, no_suite, some_suite}
use Rattle.py_typed.specs.Sorts.{Sort}
use Rattle.py_typed.specs.Expressions.{TypedExpr, type_of}
use Rattle.py_typed.specs.Statements as act
use Rattle.py_typed.specs.Statements.{TypedTarget, LocalTarget, TypedStmt, TypedAct, TypedSuite, HandlerParts, on_line, suite_of, arms_of, handlers_of, maybe_suite}
use Rattle.py_typed.specs.Narrowing as typed
use Rattle.py_typed.specs.Narrowing.{bound_by, bound_by_all, bound_by_name}
use Rattle.py_typed.proofs.FitLemmas.{and_left, and_right}
use Rattle.py_check_context.specs.declared.scope.Meaning.{Meaning}
use Rattle.py_check_context.specs.declared.scope.Meaning.TheVariants as meaning
use Rattle.py_check_context.specs.Context.{Context, VarSort, unset, untyped, has, var_at, free}
use Rattle.py_check_flow.specs.Bindings.{Binding, target_bindings, name_in, marked, caught, stmt_bindings, act_bindings, suite_bindings, arms_bindings, handlers_bindings, last_bindings}
use Rattle.py_check_flow.specs.Closed as flow
use Rattle.py_check_messages.specs.Seen.{Seen, both, made}
use Rattle.py_check_messages.specs.Messages.{no_target}
use Rattle.py_check_messages.specs.Rows.{row_then}
use Rattle.py_check_annotations.specs.Annotations.{annotation}
use Rattle.py_check_operators.specs.Facts.{local_of}
use Rattle.py_check_values.specs.Aims.{Aim, held, first, barred, unwritten, misplaced, lacking}
use Rattle.py_check_values.specs.Returns.{ReturnSort}
use Rattle.py_check_places.specs.Places.{Known, is_bound, locals_among, with_names, where_test, entering, Way, setting_out, behind_arm}
use Rattle.py_check_places.specs.Shapes.{is_row, leaves, is_access}
use Rattle.py_check_expressions_laws.specs.WellTyped.{Within}
use Rattle.py_check_expressions_laws.proofs.Inside.{within_none, within_append}
use Rattle.py_check_targets.specs.Targets.{target_of, targets_of, variable_aim, name_aim, seen_aim, read_aim, assigned, given, updated, typed_at, target_aims, next_part, more_parts, beyond, aims_behind}
use Rattle.py_check_assignments.specs.Assignments.{value_for, assigns, annotated_value, annotates, updates_row, updates, asked_for, annotates_at, updates_single}
use Rattle.py_check_loops.specs.Loops.{Course, loop_of}
use Rattle.py_check_loops.specs.Heads.{for_head, in_for}
use Rattle.py_check_exceptions.specs.Handlers.{name_target, handler_head, in_handler}
use Rattle.py_check_statements.specs.Bodies.{is_definition, around_loop, around_clause, is_last, clause_of, present, try_of, condition, outside_try, after, block_after, arms_after, handlers_after, statement, node_statement, block, branches, clauses, maybe_block}
use Rattle.py_check_statements.specs.declared.bodies.Around.{Around}
use Rattle.py_check_laws.specs.Narrowing.{is_own, is_own_name, is_bare_stmt, is_bare_act, is_bare_suite, are_bare_arms, are_bare_handlers, is_bare_last}
use Rattle.py_check.proofs.Bound.{named, leaf_bindings, target_leaves}
use Rattle.py_check_laws.proofs.Given.{made_given, both_given, rule_given, row_given}
use Rattle.py_check_laws.proofs.Assigned.{assigned_is, given_is, updated_is, own_unmarked, never_lacking, never_row}
use Rattle.py_check_laws.proofs.Names.{within_itself}
use Rattle.py_check_laws.proofs.Looked.{looked_behind}
use Rattle.py_check_laws.proofs.Aims.{AimAt, AimsOf}
use Rattle.py_check_laws.proofs.Exceptions.{NameAt, head_given}
use Rattle.py_check_laws.proofs.Shapes.{loop_binds, definition_shape, no_part_given, locals_two, read_aim_at, one_target}
use Rattle.py_check_laws.proofs.Loops.{head_parts, head_looked}
use Rattle.py_check_laws.proofs.Values.{of_three}
use Rattle.py_check_targets.specs.Attributes.{own_attribute, lacking_in}

-- ---- targets

variable_binds : (i : ℕ) (x : List ℕ) (v : VarSort) (a : Aim) → variable_aim (LocalTarget i) x v ≡ Some a → Within (i ∷ []) (bound_by_all (target_of a))
variable_binds i x unset a h = subst (λ z. Within (i ∷ []) (bound_by_all (target_of z))) (same_Some (first (LocalTarget i) x) a h) (within_itself (i ∷ []))
variable_binds i x untyped a h = absurd (cc)
variable_binds i x (has t) a h = subst (λ z. Within (i ∷ []) (bound_by_all (target_of z))) (same_Some (held (LocalTarget i) t) a h) (within_itself (i ∷ []))

-- the one target of an update
only_binds : (t u : TypedTarget) (more : List TypedTarget) (ys : List ℕ) → t ∷ [] ≡ u ∷ more → Within ys (bound_by_all (t ∷ [])) → Within ys (bound_by u)
only_binds t u more ys q w = subst (λ z. Within ys (bound_by z)) (head_same q) (subst (Within ys) (append-nil (bound_by t)) w)
  where
    head_same : t ∷ [] ≡ u ∷ more → t ≡ u
    head_same h = cc

one_binds : (a : Aim) (u : TypedTarget) (more : List TypedTarget) (ys : List ℕ) → target_of a ≡ u ∷ more → Within ys (bound_by_all (target_of a)) → Within ys (bound_by u)
one_binds (held t s) u more ys q w = only_binds t u more ys q w
one_binds (first t x) u more ys q w = only_binds t u more ys q w
one_binds (barred x) u more ys q w = absurd (cc)
one_binds (unwritten s) u more ys q w = absurd (cc)
one_binds (lacking s x) u more ys q w = absurd (cc)
one_binds (misplaced s) u more ys q w = absurd (cc)

module _ (C : Context) where
  name_binds : (k : Known) (x : List ℕ) (m : Meaning) (a : Aim) → name_aim k x m ≡ Some a → Within (local_of m ++ []) (bound_by_all (target_of a))
  name_binds k x (meaning.Local i) a h = variable_binds i x (var_at k.types.locals i) a h
  name_binds k x _ a h = within_none (bound_by_all (target_of a))

  aim_binds_by : (k : Known) (x : Option (List ℕ)) (e : ExprTree) (a : Aim) → AimAt C k x e a → Within (locals_among C (named x)) (bound_by_all (target_of a))
  aim_binds_by k None e a h = within_none (bound_by_all (target_of a))
  aim_binds_by k (Some x) e a h = name_binds k x (C.meaning x) a h

  aim_binds : (k : Known) (e : ExprTree) (a : Aim) → AimAt C k (name_in e) e a → Within (locals_among C (leaf_bindings e)) (bound_by_all (target_of a))
  aim_binds k e a h = aim_binds_by k (name_in e) e a h

  aims_bind : (k : Known) (ts : Option (List Sort)) (es : List ExprTree) (l : List Aim) → AimsOf C k ts es l → Within (locals_among C (flat_map leaf_bindings es)) (bound_by_all (targets_of l))
  aims_bind k ts [] [] h = within_none []
  aims_bind k ts [] (a ∷ l) h = absurd h
  aims_bind k ts (e ∷ es) [] h = absurd h
  aims_bind k ts (e ∷ es) (a ∷ l) h =
      subst (Within (locals_among C (flat_map leaf_bindings (e ∷ es)))) (sym (flat_map-append bound_by (target_of a) (targets_of l)))
      (subst (λ z. Within z (bound_by_all (target_of a) ++ bound_by_all (targets_of l))) (sym (locals_two C (leaf_bindings e) (flat_map leaf_bindings es)))
      (within_append (locals_among C (leaf_bindings e)) (locals_among C (flat_map leaf_bindings es)) (bound_by_all (target_of a)) (bound_by_all (targets_of l)) (aim_binds k e a h.here) (aims_bind (beyond C k (name_in e) (next_part ts)) (more_parts ts) es l h.rest)))

  targets_bind : (k : Known) (target : ExprTree) (l : List Aim) (ts : Option (List Sort)) → AimsOf C k ts (leaves target) l → Within (locals_among C (target_bindings target)) (bound_by_all (targets_of l))
  targets_bind k target l ts a = subst (λ bs. Within (locals_among C bs) (bound_by_all (targets_of l))) (sym (target_leaves target)) (aims_bind k ts (leaves target) l a)

  -- ---- statements

  abbrev pub Binds : List Binding → List ℕ → Type 0
  Binds bs xs = Within (locals_among C bs) xs

  binds_none : (a : TypedAct) → Binds [] (typed.bound_in a)
  binds_none a = within_none (typed.bound_in a)

  two_bind : (a b : List Binding) (xs ys : List ℕ) → Binds a xs → Binds b ys → Binds (a ++ b) (xs ++ ys)
  two_bind a b xs ys v w = subst (λ z. Within z (xs ++ ys)) (sym (locals_two C a b)) (within_append (locals_among C a) (locals_among C b) xs ys v w)

  three_bind : (a b c : List Binding) (xs ys zs : List ℕ) → Binds a xs → Binds b ys → Binds c zs → Binds (a ++ (b ++ c)) ((xs ++ ys) ++ zs)
  three_bind a b c xs ys zs u v w = subst (Binds (a ++ (b ++ c))) (sym (append_assoc xs ys zs)) (two_bind a (b ++ c) xs (ys ++ zs) u (two_bind b c ys zs v w))

  assign_binds : (k : Known) (span : Span) (target e : ExprTree) (a : TypedAct) → (assigns C k span target e).got ≡ Some a → Binds (target_bindings target) (typed.bound_in a)
  assign_binds k span target e a h =
      let value = value_for C k target e in
      let targets = aims_behind C k target (option_map type_of value.got) in
      let r = rule_given span (assigned C.classes target (asked_for C k target)) (both targets value) a h in
      let b = both_given targets value r.0 r.1 in
      let d = assigned_is C.classes target (asked_for C k target) r.0 a r.2 in
      let looked = looked_behind C k target r.0.0 (option_map type_of value.got) (type_of r.0.1) b.0 (ap (option_map type_of) b.1) in
      subst (λ z. Binds (target_bindings target) (typed.bound_in z)) d.is (targets_bind k target r.0.0 looked.parts looked.aims)

  annotated_binds : (k : Known) (span : Span) (x : Option (List ℕ)) (target mark e : ExprTree) (a : TypedAct) → name_in target ≡ x → (annotates C k span x target mark (Some e)).got ≡ Some a → Binds (marked (name_in target) target mark) (typed.bound_in a)
  annotated_binds k span None target mark e a n h = by (own_attribute C.inside target) refl h
    where
      by : (o : Option (ExprTree × List ℕ)) → own_attribute C.inside target ≡ o → (annotates_at C k span o target mark (Some e)).got ≡ Some a → Binds (marked (name_in target) target mark) (typed.bound_in a)
      by None q g = absurd (no_part_given (both (both (aims_behind C k target (option_map type_of (value_for C k target e).got)) (annotation C.meaning mark)) (value_for C k target e)).got span no_target a g)
      by (Some p) q g = subst (λ bs. Binds bs (typed.bound_in a)) (sym (own_unmarked C.inside target p mark q)) (binds_none a)
  annotated_binds k span (Some x) target mark e a n h =
      let parts = both (seen_aim (name_aim k x (C.meaning x))) (annotation C.meaning mark) in
      let r = rule_given span (given C.classes x (is_bound k (C.meaning x))) (both parts (annotated_value C k x e)) a h in
      let b = both_given parts (annotated_value C k x e) r.0 r.1 in
      let c = both_given (seen_aim (name_aim k x (C.meaning x))) (annotation C.meaning mark) r.0.0 b.0 in
      let g = given_is C.classes x (is_bound k (C.meaning x)) r.0 a r.2 in
      subst (λ z. Binds (marked (name_in target) target mark) (typed.bound_in z)) g.is
      (subst (λ o. Binds (marked o target mark) (bound_by_all (target_of r.0.0.0))) (sym n) (name_binds k x (C.meaning x) r.0.0.0 c.0))

  other_binds : (m : Meaning) (ys : List ℕ) → not (is_own m) ≡ true → Within (local_of m ++ []) ys
  other_binds (meaning.Local i) ys h = absurd (cc)
  other_binds _ ys h = within_none ys

  -- an annotation without a value of a variable that is not the function's own
  bare_binds : (k : Known) (span : Span) (x : Option (List ℕ)) (target mark : ExprTree) (a : TypedAct) → name_in target ≡ x → not (is_own_name C.meaning x) ≡ true → (annotates C k span x target mark None).got ≡ Some a → Binds (marked (name_in target) target mark) (typed.bound_in a)
  bare_binds k span None target mark a n bare h = by (own_attribute C.inside target) refl h
    where
      by : (o : Option (ExprTree × List ℕ)) → own_attribute C.inside target ≡ o → (annotates_at C k span o target mark None).got ≡ Some a → Binds (marked (name_in target) target mark) (typed.bound_in a)
      by None q g = absurd (no_part_given (both (target_aims C k target) (annotation C.meaning mark)).got span no_target a g)
      by (Some p) q g = subst (λ bs. Binds bs (typed.bound_in a)) (sym (own_unmarked C.inside target p mark q)) (binds_none a)
  bare_binds k span (Some x) target mark a n bare h = subst (λ o. Binds (marked o target mark) (typed.bound_in a)) (sym n) (other_binds (C.meaning x) (typed.bound_in a) bare)

  update_binds : (k : Known) (span : Span) (target : ExprTree) (op : BinOp) (e : ExprTree) (a : TypedAct) → (updates C k span target op e).got ≡ Some a → Binds (target_bindings target) (typed.bound_in a)
  update_binds k span target op e a h = by (is_row target) refl (lacking_in C target) refl h
    where
      by : (b : Bool) → is_row target ≡ b → (o : Option (ExprTree × List ℕ)) → lacking_in C target ≡ o → (if b then updates_row C k span target e else updates_single C k span o target op e).got ≡ Some a → Binds (target_bindings target) (typed.bound_in a)
      by false q (Some p) l f = absurd (never_lacking C.classes span p.1 (both (typed_at C k free p.0) (typed_at C k free e)) a f)
      by true q o l f = absurd (never_row C.classes span (both (aims_behind C k target None) (typed_at C k free e)) a f)
      by false q None l f =
          let r = rule_given span (updated C.classes span op (read_aim C k (name_in target) (is_access target))) (both (typed_at C k free target) (typed_at C k free e)) a f in
          let b = both_given (typed_at C k free target) (typed_at C k free e) r.0 r.1 in
          let u = updated_is C.classes span op (read_aim C k (name_in target) (is_access target)) r.0 a r.2 in
          let aim = read_aim C k (name_in target) (is_access target) r.0.0 in
          subst (λ z. Binds (target_bindings target) (typed.bound_in z)) u.is
          (subst (λ bs. Binds bs (bound_by u.target)) (sym (one_target C target q))
          (one_binds aim u.target u.more (locals_among C (leaf_bindings target)) u.aimed (aim_binds k target aim (read_aim_at C k (name_in target) target r.0.0 l b.0 u.placed))))

  pub for_binds : (k : Known) (s : StmtTree) (span : Span) (target e : ExprTree) (body : Suite) (p : List TypedTarget × Course) → (for_head C k s span target e).got ≡ Some p → (t : TypedSuite) → Binds (suite_bindings body) (typed.bound_suite t) → Binds (target_bindings target ++ suite_bindings body) (bound_by_all p.0 ++ typed.bound_suite t)
  for_binds k s span target e body p h t inner =
      let hp = head_parts C k s span target e p h in
      let looked = head_looked C k s target e p hp in
      two_bind (target_bindings target) (suite_bindings body) (bound_by_all p.0) (typed.bound_suite t) (subst (λ z. Binds (target_bindings target) (bound_by_all z)) hp.targets (targets_bind (entering C k s) target hp.aims looked.parts looked.aims)) inner

  -- ---- except clauses

  -- the name of a clause is its target
  name_bound : (a : Aim) → bound_by_all (target_of a) ≡ bound_by_name (name_target (Some a))
  name_bound (held t s) = append-nil (bound_by t)
  name_bound (first t x) = append-nil (bound_by t)
  name_bound (barred x) = refl
  name_bound (unwritten s) = refl
  name_bound (lacking s x) = refl
  name_bound (misplaced s) = refl

  clause_name_binds : (k : Known) (span : Span) (x : Option (List ℕ)) (a : Option Aim) → NameAt C k span x a → Binds (caught x) (bound_by_name (name_target a))
  clause_name_binds k span None a n = within_none (bound_by_name (name_target a))
  clause_name_binds k span (Some x) a n =
      subst (λ z. Binds (caught (Some x)) (bound_by_name (name_target z))) n.2 (subst (Binds (caught (Some x))) (name_bound n.0) (name_binds k x (C.meaning x) n.0 n.1))

  clause_head_binds : (k : Known) (span : Span) (e : Option ExprTree) (x : Option (List ℕ)) (last : Bool) (p : List ExcClass × Option TypedTarget) → (handler_head C k span e x last).got ≡ Some p → Binds (caught x) (bound_by_name p.1)
  clause_head_binds k span e x last p h =
      let g = head_given C k span e x last p h in subst (λ z. Binds (caught x) (bound_by_name z)) g.target (clause_name_binds k span x g.aim g.name)

  module _ (r : ReturnSort) where
    row_binds : (s : StmtTree) (more : Suite) (same : Seen (List TypedStmt)) (one : Seen TypedStmt) (rest : Seen (List TypedStmt)) (ts : List TypedStmt) (b : Bool) → is_definition s ≡ b → (same.got ≡ Some ts → Binds (suite_bindings more) (typed.bound_suite (suite_of ts)))
        → ((t : TypedStmt) → one.got ≡ Some t → Binds (stmt_bindings s) (typed.bound t)) → ((l : List TypedStmt) → rest.got ≡ Some l → Binds (suite_bindings more) (typed.bound_suite (suite_of l)))
        → (if b then same else row_then one rest).got ≡ Some ts → Binds (suite_bindings (stmt_then s more)) (typed.bound_suite (suite_of ts))
    row_binds s more same one rest ts true d f g i h =
        subst (λ bs. Binds (bs ++ suite_bindings more) (typed.bound_suite (suite_of ts))) (sym (definition_shape s d).2) (f h)
    row_binds s more same one rest ts false d f g i h =
        let q = row_given one rest ts h in
        subst (λ l. Binds (suite_bindings (stmt_then s more)) (typed.bound_suite (suite_of l))) q.4 (two_bind (stmt_bindings s) (suite_bindings more) (typed.bound q.0) (typed.bound_suite (suite_of q.1)) (g q.0 q.2) (i q.1 q.3))

    mutual
      stmt_binds : (around : Around) (k : Known) (s : StmtTree) → is_bare_stmt C.meaning s ≡ true → (t : TypedStmt) → (statement C r around k s).got ≡ Some t → Binds (stmt_bindings s) (typed.bound t)
      stmt_binds around k (node.at n span) bare t h =
          let q = made_given (λ a. on_line a span.line) (node_statement C r around k span n) t h in
          subst (λ z. Binds (act_bindings n) (typed.bound z)) q.2 (act_binds around k span n bare q.0 q.1)

      pub act_binds : (around : Around) (k : Known) (span : Span) (n : StmtNode) → is_bare_act C.meaning n ≡ true → (a : TypedAct) → (node_statement C r around k span n).got ≡ Some a → Binds (act_bindings n) (typed.bound_in a)
      act_binds around k span (node.Assign target e) bare a h = assign_binds k span target e a h
      act_binds around k span (node.Annot target mark (Some e)) bare a h = annotated_binds k span (name_in target) target mark e a refl h
      act_binds around k span (node.Annot target mark None) bare a h = bare_binds k span (name_in target) target mark a refl bare h
      act_binds around k span (node.Aug target op e) bare a h = update_binds k span target op e a h
      act_binds around k span (node.If arms other) bare a h =
          let s = branches C r around (setting_out k) arms in
          let t = block C r around (arms_after C (setting_out k) arms).at other in
          let q = made_given (λ p. act.If (arms_of p.0) (suite_of p.1)) (both s t) a h in
          let b = both_given s t q.0 q.1 in
          subst (λ z. Binds (arms_bindings arms ++ suite_bindings other) (typed.bound_in z)) q.2
          (two_bind (arms_bindings arms) (suite_bindings other) (typed.bound_arms (arms_of q.0.0)) (typed.bound_suite (suite_of q.0.1)) (arms_bind around (setting_out k) arms (and_left (are_bare_arms C.meaning arms) (is_bare_suite C.meaning other) bare) q.0.0 b.0)
          (block_binds around (arms_after C (setting_out k) arms).at other (and_right (are_bare_arms C.meaning arms) (is_bare_suite C.meaning other) bare) q.0.1 b.1))
      act_binds around k span (node.While e body) bare a h =
          let l = entering C k (node.at (node.While e body) span) in
          let s = condition C l e in
          let t = block C r (around_loop around) (where_test C l true e) body in
          let q = made_given (λ p. act.While p.0 (suite_of p.1)) (both s t) a h in
          let b = both_given s t q.0 q.1 in
          subst (λ z. Binds (suite_bindings body) (typed.bound_in z)) q.2 (block_binds (around_loop around) (where_test C l true e) body (and_right (Rattle.py_check_expressions_laws.specs.Bare.is_bare e) (is_bare_suite C.meaning body) bare) q.0.1 b.1)
      act_binds around k span (node.For target e body) bare a h =
          let here = node.at (node.For target e body) span in
          let s = for_head C k here span target e in
          let l = in_for C k here span target e in
          let t = block C r (around_loop around) l body in
          let q = made_given (λ (p : (List TypedTarget × Course) × List TypedStmt). loop_of p.0.0 p.0.1 (suite_of p.1)) (both s t) a h in
          let b = both_given s t q.0 q.1 in
          subst (λ z. Binds (target_bindings target ++ suite_bindings body) (typed.bound_in z)) q.2
          (subst (Binds (target_bindings target ++ suite_bindings body)) (sym (loop_binds q.0.0.0 q.0.0.1 (suite_of q.0.1)))
          (for_binds k here span target e body q.0.0 b.0 (suite_of q.0.1) (block_binds (around_loop around) l body bare q.0.1 b.1)))
      act_binds around k span (node.Try body handlers last) bare a h =
          let names = outside_try C k (node.at (node.Try body handlers last) span) in
          let end = block_after C k body in
          let s = block C r around k body in
          let t = clauses C r around names end handlers in
          let u = maybe_block C r around names (handlers_after C names end handlers) last in
          let q = made_given try_of (both (both s t) u) a h in
          let b = both_given (both s t) u q.0 q.1 in
          let c = both_given s t q.0.0 b.0 in
          let f = of_three (is_bare_suite C.meaning body) (are_bare_handlers C.meaning handlers) (is_bare_last C.meaning last) bare in
          subst (λ z. Binds (act_bindings (node.Try body handlers last)) (typed.bound_in z)) q.2
          (three_bind (suite_bindings body) (handlers_bindings handlers) (last_bindings last) (typed.bound_suite (suite_of q.0.0.0)) (typed.bound_handlers (handlers_of q.0.0.1)) (typed.bound_last (maybe_suite (option_map suite_of q.0.1)))
          (block_binds around k body f.0 q.0.0.0 c.0) (clauses_bind around names end handlers f.1 q.0.0.1 c.1) (last_binds around names (handlers_after C names end handlers) last f.2 q.0.1 b.1))
      act_binds around k span (node.Raise e) bare a h = binds_none a
      act_binds around k span (node.Assert e text) bare a h = binds_none a
      act_binds around k span (node.Do e) bare a h = binds_none a
      act_binds around k span (node.Del e) bare a h = binds_none a
      act_binds around k span (node.Return e) bare a h = binds_none a
      act_binds around k span node.Pass bare a h = binds_none a
      act_binds around k span (node.Global names) bare a h = binds_none a
      act_binds around k span node.Break bare a h = binds_none a
      act_binds around k span node.Continue bare a h = binds_none a
      act_binds around k span _ bare a h = absurd (cc)

      pub block_binds : (around : Around) (k : Known) (body : Suite) → is_bare_suite C.meaning body ≡ true → (ts : List TypedStmt) → (block C r around k body).got ≡ Some ts → Binds (suite_bindings body) (typed.bound_suite (suite_of ts))
      block_binds around k no_stmts bare ts h = within_none (typed.bound_suite (suite_of ts))
      block_binds around k (stmt_then s more) bare ts h =
          let rest = block C r around (after C k s) more in
          let others = and_right (is_bare_stmt C.meaning s) (is_bare_suite C.meaning more) bare in
          row_binds s more (block C r around k more) (statement C r around k s) rest ts (is_definition s) refl (λ q. block_binds around k more others ts q) (λ t q. stmt_binds around k s (and_left (is_bare_stmt C.meaning s) (is_bare_suite C.meaning more) bare) t q) (λ l q. block_binds around (after C k s) more others l q) h

      arms_bind : (around : Around) (w : Way) (arms : Arms) → are_bare_arms C.meaning arms ≡ true → (l : List (TypedExpr × TypedSuite)) → (branches C r around w arms).got ≡ Some l → Binds (arms_bindings arms) (typed.bound_arms (arms_of l))
      arms_bind around w no_arms bare l h = within_none (typed.bound_arms (arms_of l))
      arms_bind around w (arm_then e body more) bare l h =
          let s = condition C w.at e in
          let inner = where_test C w.at true e in
          let t = block C r around inner body in
          let next = behind_arm C w e (flow.is_closed body) (block_after C inner body) in
          let one : Seen (TypedExpr × TypedSuite) = made (λ p. (p.0, suite_of p.1)) (both s t) in
          let q = row_given one (branches C r around next more) l h in
          let v = made_given (λ p. (p.0, suite_of p.1)) (both s t) q.0 q.2 in
          let b = both_given s t v.0 v.1 in
          let bare_parts = of_three (Rattle.py_check_expressions_laws.specs.Bare.is_bare e) (is_bare_suite C.meaning body) (are_bare_arms C.meaning more) bare in
          subst (λ z. Binds (suite_bindings body ++ arms_bindings more) (typed.bound_arms (arms_of z))) q.4 (subst (λ (z : TypedExpr × TypedSuite). Binds (suite_bindings body ++ arms_bindings more) (typed.bound_arms (arms_of (z ∷ q.1)))) v.2
          (two_bind (suite_bindings body) (arms_bindings more) (typed.bound_suite (suite_of v.0.1)) (typed.bound_arms (arms_of q.1)) (block_binds around inner body bare_parts.1 v.0.1 b.1) (arms_bind around next more bare_parts.2 q.1 q.3)))

      clauses_bind : (around : Around) (names : List ℕ) (k : Known) (handlers : Handlers) → are_bare_handlers C.meaning handlers ≡ true → (l : List HandlerParts) → (clauses C r around names k handlers).got ≡ Some l → Binds (handlers_bindings handlers) (typed.bound_handlers (handlers_of l))
      clauses_bind around names k no_handlers bare l h = within_none (typed.bound_handlers (handlers_of l))
      clauses_bind around names k (handler_then e x body span more) bare l h =
          let begun = with_names k names in
          let inner = in_handler C begun span e x (is_last more) in
          let s = handler_head C begun span e x (is_last more) in
          let t = block C r (around_clause around) inner body in
          let next = block_after C inner body in
          let one : Seen HandlerParts = made clause_of (both s t) in
          let q = row_given one (clauses C r around names next more) l h in
          let v = made_given clause_of (both s t) q.0 q.2 in
          let b = both_given s t v.0 v.1 in
          let here = block_binds (around_clause around) inner body (and_left (is_bare_suite C.meaning body) (are_bare_handlers C.meaning more) bare) v.0.1 b.1 in
          let rest = clauses_bind around names next more (and_right (is_bare_suite C.meaning body) (are_bare_handlers C.meaning more) bare) q.1 q.3 in
          subst (λ z. Binds (caught x ++ (suite_bindings body ++ handlers_bindings more)) (typed.bound_handlers (handlers_of z))) q.4
          (subst (λ (z : HandlerParts). Binds (caught x ++ (suite_bindings body ++ handlers_bindings more)) (typed.bound_handlers (handlers_of (z ∷ q.1)))) v.2
          (three_bind (caught x) (suite_bindings body) (handlers_bindings more) (bound_by_name v.0.0.1) (typed.bound_suite (suite_of v.0.1)) (typed.bound_handlers (handlers_of q.1)) (clause_head_binds begun span e x (is_last more) v.0.0 b.0) here rest))

      last_binds : (around : Around) (names : List ℕ) (k : Known) (last : MaybeSuite) → is_bare_last C.meaning last ≡ true → (o : Option (List TypedStmt)) → (maybe_block C r around names k last).got ≡ Some o → Binds (last_bindings last) (typed.bound_last (maybe_suite (option_map suite_of o)))
      last_binds around names k no_suite bare o h = within_none (typed.bound_last (maybe_suite (option_map suite_of o)))
      last_binds around names k (some_suite body) bare o h =
          let q = made_given present (block C r around (with_names k names) body) o h in
          subst (λ z. Binds (suite_bindings body) (typed.bound_last (maybe_suite (option_map suite_of z)))) q.2 (block_binds around (with_names k names) body bare q.0 q.1)

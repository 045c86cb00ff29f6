-- Where statements say nothing, the annotations of what they bind say nothing.
use Rattle.std.proofs.Common.{◌≡◌, ℕ, Bool, true, false, cond, List, [], ◌∷◌, ◌++◌, Option, Some, None, refl, ap, ap₂, sym, ◌∙◌, if◌then◌else◌}
use Rattle.std.proofs.lemmas.Grind.{flat_map-append}
use Rattle.std.proofs.lemmas.Option.{same_Some}
use Rattle.std.specs.List.{flat_map}
use Rattle.std.specs.Str.{bytes_eq}
use Rattle.py_syntax.specs.declared.token.Span.{Span}
use Rattle.py_syntax.specs.Expressions as e
use Rattle.py_syntax.specs.Expressions.{ExprTree, ExprNode, ExprTrees}
use Rattle.py_syntax.specs.Statements as node
use Rattle.py_syntax.specs.Statements.{StmtTree, StmtNode, Suite, no_stmts, stmt_then, Arms, no_arms, arm_then, Handlers, no_handlers, handler_then, MaybeSuite, no_suite, some_suite}
use Rattle.py_syntax_diagnostics.specs.declared.diagnostic.Diag.{Diag}
use Rattle.py_typed.specs.Expressions.{TypedExpr}
use Rattle.py_typed.specs.Statements.{TypedSuite, suite_of}
use Rattle.py_check_context.specs.declared.scope.Meaning.{Meaning}
use Rattle.py_check_context.specs.Context.{Context}
use Rattle.py_check_flow.specs.Bindings.{Binding, target_bindings, node_bindings, targets_bindings, name_in, marked, caught, stmt_bindings, act_bindings, suite_bindings, arms_bindings, handlers_bindings, last_bindings}
use Rattle.py_check_flow.specs.Closed.{is_closed}
use Rattle.py_check_messages.specs.Seen.{Seen, both, made, ruled}
use Rattle.py_check_messages.specs.Rows.{row_then}
use Rattle.py_check_annotations.specs.Annotations.{annotation}
use Rattle.py_check_annotations.specs.Names.{is_untyped, has_unknown}
use Rattle.py_check_values.specs.Returns.{ReturnSort}
use Rattle.py_check_places.specs.Places.{Known, with_names, where_test, entering, Way, setting_out, behind_arm}
use Rattle.py_check_targets.specs.Targets.{name_aim, seen_aim, declared, given}
use Rattle.py_check_places.specs.Places.{is_bound}
use Rattle.py_check_assignments.specs.Assignments.{annotated_value, annotates}
use Rattle.py_check_loops.specs.Heads.{for_head, in_for}
use Rattle.py_check_exceptions.specs.Handlers.{handler_head, in_handler}
use Rattle.py_check_statements.specs.declared.bodies.Around.{Around}
use Rattle.py_check_statements.specs.Bodies.{is_definition, condition, after, block_after, arms_after, handlers_after, outside_try, around_loop, around_clause, is_last, clause_of, statement, node_statement, block, branches, clauses, maybe_block}
use Rattle.py_check_definitions.specs.Starts.{given_sort, first_mark, by_mark, start_sort}
use Rattle.py_check_expressions_laws.specs.Laws as law
use Rattle.py_check_expressions_laws.proofs.Loud.{none_before, none_behind}
use Rattle.py_check_laws.proofs.Whole.{quiet_got}
use Rattle.py_check_laws.proofs.Annotated.{loud_annotation}
use Rattle.py_check_laws.proofs.KnownMarks.{marks_lost, mark_known}
use Rattle.py_check_laws.proofs.Shapes.{definition_shape}

module _ (meanings : List ℕ → Meaning) where
  -- what an annotation says, if there is one
  abbrev pub mark_said : Option ExprTree → List Diag
  mark_said None = []
  mark_said (Some mark) = (annotation meanings mark).said

  abbrev pub marks_said : List Binding → List Diag
  marks_said bs = flat_map (λ b. mark_said b.mark) bs

  marks_two : (a b : List Binding) → marks_said a ≡ [] → marks_said b ≡ [] → marks_said (a ++ b) ≡ []
  marks_two a b p q = flat_map-append (λ (x : Binding). mark_said x.mark) a b ∙ ap₂ (λ (x y : List Diag). x ++ y) p q

  -- the names of a target have none
  mutual
    target_marks : (t : ExprTree) → marks_said (target_bindings t) ≡ []
    target_marks (e.at n span) = node_marks n

    node_marks : (n : ExprNode) → marks_said (node_bindings n) ≡ []
    node_marks (e.Name x) = refl
    node_marks (e.TupleOf items) = targets_marks items
    node_marks (e.ListOf items) = targets_marks items
    node_marks _ = refl

    targets_marks : (items : ExprTrees) → marks_said (targets_bindings items) ≡ []
    targets_marks e.no_exprs = refl
    targets_marks (e.expr_then a more) = marks_two (target_bindings a) (targets_bindings more) (target_marks a) (targets_marks more)

  caught_marks : (x : Option (List ℕ)) → marks_said (caught x) ≡ []
  caught_marks None = refl
  caught_marks (Some x) = refl

  only_mark : (mark : ExprTree) → (annotation meanings mark).said ≡ [] → (annotation meanings mark).said ++ [] ≡ []
  only_mark mark h = ap (λ (l : List Diag). l ++ []) h

  -- ---- the types that variables have from the start

  mark_of : (bs : List Binding) → marks_said bs ≡ [] → (x : List ℕ) (mark : ExprTree) → first_mark bs x ≡ Some (Some mark) → (annotation meanings mark).said ≡ []
  mark_of [] h x mark q = absurd (cc)
  mark_of (b ∷ bs) h x mark q = by (bytes_eq x b.name) q (mark_of bs (none_behind (mark_said b.mark) (marks_said bs) h) x mark)
    where
      by : (c : Bool) → cond c (Some b.mark) (first_mark bs x) ≡ Some (Some mark) → (first_mark bs x ≡ Some (Some mark) → (annotation meanings mark).said ≡ []) → (annotation meanings mark).said ≡ []
      by true r next = sym (ap mark_said (same_Some b.mark (Some mark) r)) ∙ none_before (mark_said b.mark) (marks_said bs) h
      by false r next = next r

  module _ (all : (x : List ℕ) → is_untyped (meanings x) ≡ false) where
    mark_typed : (mark : ExprTree) → has_unknown meanings mark ≡ false → (annotation meanings mark).said ≡ [] → law.is_untyped (given_sort (annotation meanings mark).got) ≡ false
    mark_typed mark k h = let g = quiet_got (annotation meanings mark) (loud_annotation meanings all mark k) h in ap (λ o. law.is_untyped (given_sort o)) g.1

    -- NO VARIABLE is without a type from the start, where the annotations say nothing and each name in them is known
    pub start_typed : (bs : List Binding) → marks_lost meanings bs ≡ false → marks_said bs ≡ [] → (x : List ℕ) → law.is_untyped (start_sort meanings bs x) ≡ false
    start_typed bs k h x = by (first_mark bs x) refl
      where
        by : (o : Option (Option ExprTree)) → first_mark bs x ≡ o → law.is_untyped (by_mark meanings o) ≡ false
        by None q = refl
        by (Some None) q = refl
        by (Some (Some mark)) q = mark_typed mark (mark_known meanings bs k x mark q) (mark_of bs h x mark q)

-- ---- statements

module _ (C : Context) (r : ReturnSort) where
  abbrev marks : List Binding → List Diag
  marks = marks_said C.meaning

  annotated_marks : (k : Known) (span : Span) (x : Option (List ℕ)) (target mark : ExprTree) (v : Option ExprTree) → (annotates C k span x target mark v).said ≡ [] → marks (marked x target mark) ≡ []
  annotated_marks k span None target mark v h = target_marks C.meaning target
  annotated_marks k span (Some x) target mark None h =
      let parts = both (seen_aim (name_aim k x (C.meaning x))) (annotation C.meaning mark) in
      only_mark C.meaning mark (none_before parts.said (ruled span (declared x (is_bound k (C.meaning x))) parts.got).said h)
  annotated_marks k span (Some x) target mark (Some v) h =
      let parts = both (seen_aim (name_aim k x (C.meaning x))) (annotation C.meaning mark) in
      let whole = both parts (annotated_value C k x v) in
      only_mark C.meaning mark (none_before parts.said (annotated_value C k x v).said (none_before whole.said (ruled span (given C.classes x (is_bound k (C.meaning x))) whole.got).said h))

  mutual
    stmt_marks : (around : Around) (k : Known) (s : StmtTree) → (statement C r around k s).said ≡ [] → marks (stmt_bindings s) ≡ []
    stmt_marks around k (node.at n span) h = act_marks around k span n h

    act_marks : (around : Around) (k : Known) (span : Span) (n : StmtNode) → (node_statement C r around k span n).said ≡ [] → marks (act_bindings n) ≡ []
    act_marks around k span (node.Assign target v) h = target_marks C.meaning target
    act_marks around k span (node.Annot target mark v) h = annotated_marks k span (name_in target) target mark v h
    act_marks around k span (node.Aug target op v) h = target_marks C.meaning target
    act_marks around k span (node.If arms other) h =
        let w = arms_after C (setting_out k) arms in
        let s = branches C r around (setting_out k) arms in
        let t = block C r around w.at other in
        marks_two C.meaning (arms_bindings arms) (suite_bindings other) (arms_marks around (setting_out k) arms (none_before s.said t.said h)) (suite_marks around w.at other (none_behind s.said t.said h))
    act_marks around k span (node.While test body) h =
        let l = entering C k (node.at (node.While test body) span) in
        let s = condition C l test in
        let t = block C r (around_loop around) (where_test C l true test) body in
        suite_marks (around_loop around) (where_test C l true test) body (none_behind s.said t.said h)
    act_marks around k span (node.For target v body) h =
        let here = node.at (node.For target v body) span in
        let s = for_head C k here span target v in
        let l = in_for C k here span target v in
        let t = block C r (around_loop around) l body in
        marks_two C.meaning (target_bindings target) (suite_bindings body) (target_marks C.meaning target) (suite_marks (around_loop around) l body (none_behind s.said t.said h))
    act_marks around k span (node.Try body handlers last) h =
        let outer = outside_try C k (node.at (node.Try body handlers last) span) in
        let first = block_after C k body in
        let b = block C r around k body in
        let cs = clauses C r around outer first handlers in
        let handled = handlers_after C outer first handlers in
        let l = maybe_block C r around outer handled last in
        let q = none_before (both b cs).said l.said h in
        marks_two C.meaning (suite_bindings body) (handlers_bindings handlers ++ last_bindings last) (suite_marks around k body (none_before b.said cs.said q))
        (marks_two C.meaning (handlers_bindings handlers) (last_bindings last) (clauses_marks around outer first handlers (none_behind b.said cs.said q)) (last_marks around outer handled last (none_behind (both b cs).said l.said h)))
    act_marks around k span _ h = refl

    clauses_marks : (around : Around) (outer : List ℕ) (k : Known) (handlers : Handlers) → (clauses C r around outer k handlers).said ≡ [] → marks (handlers_bindings handlers) ≡ []
    clauses_marks around outer k no_handlers h = refl
    clauses_marks around outer k (handler_then e x body span more) h =
        let l = with_names k outer in
        let hd = handler_head C l span e x (is_last more) in
        let begun = in_handler C l span e x (is_last more) in
        let t = block C r (around_clause around) begun body in
        let one = made clause_of (both hd t) in
        let rest = clauses C r around outer (block_after C begun body) more in
        marks_two C.meaning (caught x) (suite_bindings body ++ handlers_bindings more) (caught_marks C.meaning x)
        (marks_two C.meaning (suite_bindings body) (handlers_bindings more) (suite_marks (around_clause around) begun body (none_behind hd.said t.said (none_before one.said rest.said h))) (clauses_marks around outer (block_after C begun body) more (none_behind one.said rest.said h)))

    last_marks : (around : Around) (outer : List ℕ) (k : Known) (last : MaybeSuite) → (maybe_block C r around outer k last).said ≡ [] → marks (last_bindings last) ≡ []
    last_marks around outer k no_suite h = refl
    last_marks around outer k (some_suite body) h = suite_marks around (with_names k outer) body h

    -- THE ANNOTATIONS in statements of which nothing is said
    pub suite_marks : (around : Around) (k : Known) (body : Suite) → (block C r around k body).said ≡ [] → marks (suite_bindings body) ≡ []
    suite_marks around k no_stmts h = refl
    suite_marks around k (stmt_then s more) h =
        let one = statement C r around k s in
        let rest = block C r around (after C k s) more in
        by (is_definition s) refl h (λ q. suite_marks around k more q) (λ q. stmt_marks around k s (none_before one.said rest.said q)) (λ q. suite_marks around (after C k s) more (none_behind one.said rest.said q))
      where
        by : (b : Bool) → is_definition s ≡ b → (if b then block C r around k more else row_then (statement C r around k s) (block C r around (after C k s) more)).said ≡ [] → ((block C r around k more).said ≡ [] → marks (suite_bindings more) ≡ [])
            → ((row_then (statement C r around k s) (block C r around (after C k s) more)).said ≡ [] → marks (stmt_bindings s) ≡ []) → ((row_then (statement C r around k s) (block C r around (after C k s) more)).said ≡ [] → marks (suite_bindings more) ≡ []) → marks (stmt_bindings s ++ suite_bindings more) ≡ []
        by true d q other front behind = ap (λ l. marks (l ++ suite_bindings more)) (definition_shape s d).2 ∙ other q
        by false d q other front behind = marks_two C.meaning (stmt_bindings s) (suite_bindings more) (front q) (behind q)

    arms_marks : (around : Around) (w : Way) (arms : Arms) → (branches C r around w arms).said ≡ [] → marks (arms_bindings arms) ≡ []
    arms_marks around w no_arms h = refl
    arms_marks around w (arm_then test body more) h =
        let s = condition C w.at test in
        let l = where_test C w.at true test in
        let t = block C r around l body in
        let next = behind_arm C w test (is_closed body) (block_after C l body) in
        let one : Seen (TypedExpr × TypedSuite) = made (λ p. (p.0, suite_of p.1)) (both s t) in
        let rest = branches C r around next more in
        marks_two C.meaning (suite_bindings body) (arms_bindings more) (suite_marks around l body (none_behind s.said t.said (none_before one.said rest.said h))) (arms_marks around next more (none_behind one.said rest.said h))

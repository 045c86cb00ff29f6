-- Where each name in statements is known, so is each one in the annotations of what they bind.
use Rattle.std.proofs.Common.{◌≡◌, ℕ, Bool, true, false, cond, List, [], ◌∷◌, ◌++◌, Option, Some, None, refl, ap, sym, ◌∙◌}
use Rattle.std.proofs.lemmas.List.Folds.{list_any-append}
use Rattle.std.proofs.lemmas.Option.{same_Some}
use Rattle.std.specs.List.{list_any}
use Rattle.std.specs.Str.{bytes_eq}
use Rattle.py_syntax.specs.declared.token.Span.{Span}
use Rattle.py_syntax.specs.Expressions as e
use Rattle.py_syntax.specs.Expressions.{ExprTree, ExprNode, ExprTrees}
use Rattle.py_syntax.specs.Statements as node
use Rattle.py_syntax.specs.Statements.{StmtTree, StmtNode, Suite, no_stmts, stmt_then, Arms, no_arms, arm_then, Handlers, no_handlers, handler_then, MaybeSuite, no_suite, some_suite}
use Rattle.py_binder.specs.declared.sight.Manner.TheVariants.{Value, Annotation}
use Rattle.py_binder.specs.declared.sight.Home.{Home}
use Rattle.py_binder.specs.Sights.{reads, maybe_reads, target_sights, caught_sights, stmt_sights, stmt_node_sights, suite_sights, arms_sights, handlers_sights, maybe_suite_sights}
use Rattle.py_check_context.specs.declared.scope.Meaning.{Meaning}
use Rattle.py_check_flow.specs.Bindings.{Binding, target_bindings, node_bindings, targets_bindings, name_in, marked, caught, stmt_bindings, act_bindings, suite_bindings, arms_bindings, handlers_bindings, last_bindings}
use Rattle.py_check_annotations.specs.Names.{has_unknown}
use Rattle.py_check_definitions.specs.Starts.{first_mark}
use Rattle.py_check_expressions_laws.proofs.Known.{neither_left, neither_right, neither_of, known_left, known_right}
use Rattle.py_check_laws.proofs.KnownParts.{AreKnown}

module _ (meanings : List ℕ → Meaning) where
  -- an annotation, if there is one, in which some name is not known
  abbrev pub mark_lost : Option ExprTree → Bool
  mark_lost None = false
  mark_lost (Some mark) = has_unknown meanings mark

  abbrev pub marks_lost : List Binding → Bool
  marks_lost bs = list_any (λ b. mark_lost b.mark) bs

  two_marks : (a b : List Binding) → marks_lost a ≡ false → marks_lost b ≡ false → marks_lost (a ++ b) ≡ false
  two_marks a b p q = list_any-append (λ (x : Binding). mark_lost x.mark) a b ∙ neither_of (marks_lost a) (marks_lost b) p q

  -- the annotation of the first binding of a name
  pub mark_known : (bs : List Binding) → marks_lost bs ≡ false → (x : List ℕ) (mark : ExprTree) → first_mark bs x ≡ Some (Some mark) → has_unknown meanings mark ≡ false
  mark_known [] h x mark q = absurd (cc)
  mark_known (b ∷ bs) h x mark q = by (bytes_eq x b.name) q (mark_known bs (neither_right (mark_lost b.mark) (marks_lost bs) h) x mark)
    where
      by : (c : Bool) → cond c (Some b.mark) (first_mark bs x) ≡ Some (Some mark) → (first_mark bs x ≡ Some (Some mark) → has_unknown meanings mark ≡ false) → has_unknown meanings mark ≡ false
      by true r next = sym (ap mark_lost (same_Some b.mark (Some mark) r)) ∙ neither_left (mark_lost b.mark) (marks_lost bs) h
      by false r next = next r

  -- the names of a target have none
  mutual
    no_mark : (t : ExprTree) → marks_lost (target_bindings t) ≡ false
    no_mark (e.at n span) = no_mark_in n

    no_mark_in : (n : ExprNode) → marks_lost (node_bindings n) ≡ false
    no_mark_in (e.Name x) = refl
    no_mark_in (e.TupleOf items) = no_marks items
    no_mark_in (e.ListOf items) = no_marks items
    no_mark_in _ = refl

    no_marks : (items : ExprTrees) → marks_lost (targets_bindings items) ≡ false
    no_marks e.no_exprs = refl
    no_marks (e.expr_then a more) = two_marks (target_bindings a) (targets_bindings more) (no_mark a) (no_marks more)

  of_annotated : (x : Option (List ℕ)) (target mark : ExprTree) → has_unknown meanings mark ≡ false → marks_lost (marked x target mark) ≡ false
  of_annotated None target mark h = no_mark target
  of_annotated (Some x) target mark h = neither_of (has_unknown meanings mark) false h refl

  of_caught : (x : Option (List ℕ)) → marks_lost (caught x) ≡ false
  of_caught None = refl
  of_caught (Some x) = refl

  module _ (home : Home) where
    mutual
      stmt_known : (x : StmtTree) → AreKnown meanings (stmt_sights home x) → marks_lost (stmt_bindings x) ≡ false
      stmt_known (node.at n span) k = act_known n span k

      act_known : (n : StmtNode) (span : Span) → AreKnown meanings (stmt_node_sights home n span) → marks_lost (act_bindings n) ≡ false
      act_known (node.Assign target a) span k = no_mark target
      act_known (node.Annot target mark a) span k =
          of_annotated (name_in target) target mark (known_left meanings (reads Annotation mark) (maybe_reads Value a) (known_right meanings (target_sights target) (reads Annotation mark ++ maybe_reads Value a) k))
      act_known (node.Aug target op a) span k = no_mark target
      act_known (node.If arms other) span k =
          two_marks (arms_bindings arms) (suite_bindings other) (arms_known arms (known_left meanings (arms_sights home arms) (suite_sights home other) k)) (suite_known other (known_right meanings (arms_sights home arms) (suite_sights home other) k))
      act_known (node.While test body) span k = suite_known body (known_right meanings (reads Value test) (suite_sights home body) k)
      act_known (node.For target a body) span k =
          two_marks (target_bindings target) (suite_bindings body) (no_mark target) (suite_known body (known_right meanings (reads Value a) (suite_sights home body) (known_right meanings (target_sights target) (reads Value a ++ suite_sights home body) k)))
      act_known (node.Try body handlers last) span k =
          let rest = known_right meanings (suite_sights home body) (handlers_sights home handlers ++ maybe_suite_sights home last) k in
          two_marks (suite_bindings body) (handlers_bindings handlers ++ last_bindings last) (suite_known body (known_left meanings (suite_sights home body) (handlers_sights home handlers ++ maybe_suite_sights home last) k))
          (two_marks (handlers_bindings handlers) (last_bindings last) (handlers_known handlers (known_left meanings (handlers_sights home handlers) (maybe_suite_sights home last) rest)) (last_known last (known_right meanings (handlers_sights home handlers) (maybe_suite_sights home last) rest)))
      act_known _ span k = refl

      -- THE ANNOTATIONS in statements
      pub suite_known : (body : Suite) → AreKnown meanings (suite_sights home body) → marks_lost (suite_bindings body) ≡ false
      suite_known no_stmts k = refl
      suite_known (stmt_then x more) k =
          two_marks (stmt_bindings x) (suite_bindings more) (stmt_known x (known_left meanings (stmt_sights home x) (suite_sights home more) k)) (suite_known more (known_right meanings (stmt_sights home x) (suite_sights home more) k))

      arms_known : (arms : Arms) → AreKnown meanings (arms_sights home arms) → marks_lost (arms_bindings arms) ≡ false
      arms_known no_arms k = refl
      arms_known (arm_then test body more) k =
          let rest = known_right meanings (reads Value test) (suite_sights home body ++ arms_sights home more) k in
          two_marks (suite_bindings body) (arms_bindings more) (suite_known body (known_left meanings (suite_sights home body) (arms_sights home more) rest)) (arms_known more (known_right meanings (suite_sights home body) (arms_sights home more) rest))

      handlers_known : (handlers : Handlers) → AreKnown meanings (handlers_sights home handlers) → marks_lost (handlers_bindings handlers) ≡ false
      handlers_known no_handlers k = refl
      handlers_known (handler_then class name body span more) k =
          let rest = known_right meanings (maybe_reads Value class) (caught_sights name span ++ (suite_sights home body ++ handlers_sights home more)) k in
          let both = known_right meanings (caught_sights name span) (suite_sights home body ++ handlers_sights home more) rest in
          two_marks (caught name) (suite_bindings body ++ handlers_bindings more) (of_caught name)
          (two_marks (suite_bindings body) (handlers_bindings more) (suite_known body (known_left meanings (suite_sights home body) (handlers_sights home more) both)) (handlers_known more (known_right meanings (suite_sights home body) (handlers_sights home more) both)))

      last_known : (last : MaybeSuite) → AreKnown meanings (maybe_suite_sights home last) → marks_lost (last_bindings last) ≡ false
      last_known no_suite k = refl
      last_known (some_suite body) k = suite_known body k

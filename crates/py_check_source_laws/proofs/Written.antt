-- A tree that passes is one that a text can write.
use Rattle.std.proofs.Common.{◌≡◌, ℕ, Bool, true, ◌&&◌, List, [], ◌∷◌, ◌++◌, Option, Some, None, refl}
use Rattle.std.proofs.lemmas.Bool.{and_from, and_parts}
use Rattle.std.specs.Str.{is_utf8}
use Rattle.py_syntax.specs.declared.token.Span.{Span}
use Rattle.py_syntax.specs.Expressions as e
use Rattle.py_syntax.specs.Expressions.{ExprTree, ExprNode, ExprTrees, Comparisons, Entries, Arguments}
use Rattle.py_syntax.specs.Statements as s
use Rattle.py_syntax.specs.Statements.{StmtTree, StmtNode, Suite, Arms, Handlers, MaybeSuite}
use Rattle.py_typed.specs.WellTypedExpr.{is_literal}
use Rattle.py_check_places.specs.Shapes.{leaves, node_leaves, row_leaves}
use Rattle.py_check_expressions_laws.specs.WellTyped.{is_chain, is_written, is_written_node, are_written, are_operands, are_entries, are_arguments}
use Rattle.py_check_laws.specs.WellTyped.{is_filled, has_test, has_clause, maybe_written, are_targets, is_stmt_written, is_act_written, is_suite_written, are_arms_written, are_handlers_written, is_last_written}
use Rattle.py_parser_laws.specs.Trees.{Tests, IsChain, IsFilled, HasTest, HasClause, ExprPasses, NodePasses, ExprsPass, ComparisonsPass, EntriesPass, ArgumentsPass, MaybePasses, StmtPasses, ActPasses, SuitePasses, ArmsPass, HandlersPass, LastPasses}

three : (a b c : Bool) → a ≡ true → b ≡ true → c ≡ true → (a && b && c) ≡ true
three a b c p q r = cc

four : (a b c d : Bool) → a ≡ true → b ≡ true → c ≡ true → d ≡ true → (a && b && c && d) ≡ true
four a b c d p q r t = cc

five : (a b c d e : Bool) → a ≡ true → b ≡ true → c ≡ true → d ≡ true → e ≡ true → (a && b && c && d && e) ≡ true
five a b c d e p q r t u = cc

chain_there : (more : Comparisons) → IsChain more → is_chain more ≡ true
chain_there e.no_comparisons h = absurd h
chain_there (e.comparison_then op a more) h = refl

pub filled_there : (body : Suite) → IsFilled body → is_filled body ≡ true
filled_there s.no_stmts h = absurd h
filled_there (s.stmt_then x more) h = refl

test_there : (arms : Arms) → HasTest arms → has_test arms ≡ true
test_there s.no_arms h = absurd h
test_there (s.arm_then test body more) h = refl

clause_there : (handlers : Handlers) (last : MaybeSuite) → HasClause handlers last → has_clause handlers last ≡ true
clause_there s.no_handlers s.no_suite h = absurd h
clause_there s.no_handlers (s.some_suite body) h = refl
clause_there (s.handler_then class name body span more) last h = refl

-- where numbers pass that are within bounds, and texts that are UTF-8
module _ (named : List ℕ → Bool) where
  abbrev pub tests : Tests
  tests = record { name = named; number = is_literal; text = is_utf8 }

  -- ---- expressions

  mutual
    expr_written : (a : ExprTree) → ExprPasses tests a → is_written a ≡ true
    expr_written (e.at node span) h = node_written node h

    node_written : (node : ExprNode) → NodePasses tests node → is_written_node node ≡ true
    node_written (e.Int n) h = h
    node_written (e.Str text) h = h
    node_written (e.Neg a) h = expr_written a h
    node_written (e.Plus a) h = expr_written a h
    node_written (e.Not a) h = expr_written a h
    node_written (e.Bin op a b) h = and_from (is_written a) (is_written b) (expr_written a h.0) (expr_written b h.1)
    node_written (e.Compare a more) h = three (is_written a) (is_chain more) (are_operands more) (expr_written a h.0) (chain_there more h.1) (operands_written more h.2)
    node_written (e.And a b) h = and_from (is_written a) (is_written b) (expr_written a h.0) (expr_written b h.1)
    node_written (e.Or a b) h = and_from (is_written a) (is_written b) (expr_written a h.0) (expr_written b h.1)
    node_written (e.Cond a test b) h = three (is_written a) (is_written test) (is_written b) (expr_written a h.0) (expr_written test h.1) (expr_written b h.2)
    node_written (e.ListOf items) h = exprs_written items h
    node_written (e.DictOf entries) h = entries_written entries h
    node_written (e.TupleOf items) h = exprs_written items h
    node_written (e.Attr a name) h = expr_written a h.1
    node_written (e.Index a i) h = and_from (is_written a) (is_written i) (expr_written a h.0) (expr_written i h.1)
    node_written (e.Call callee more) h = and_from (is_written callee) (are_arguments more) (expr_written callee h.0) (arguments_written more h.1)
    node_written _ h = refl

    exprs_written : (items : ExprTrees) → ExprsPass tests items → are_written items ≡ true
    exprs_written e.no_exprs h = refl
    exprs_written (e.expr_then a more) h = and_from (is_written a) (are_written more) (expr_written a h.0) (exprs_written more h.1)

    operands_written : (more : Comparisons) → ComparisonsPass tests more → are_operands more ≡ true
    operands_written e.no_comparisons h = refl
    operands_written (e.comparison_then op a more) h = and_from (is_written a) (are_operands more) (expr_written a h.0) (operands_written more h.1)

    entries_written : (entries : Entries) → EntriesPass tests entries → are_entries entries ≡ true
    entries_written e.no_entries h = refl
    entries_written (e.entry_then key value more) h = three (is_written key) (is_written value) (are_entries more) (expr_written key h.0) (expr_written value h.1) (entries_written more h.2)

    arguments_written : (more : Arguments) → ArgumentsPass tests more → are_arguments more ≡ true
    arguments_written e.no_arguments h = refl
    arguments_written (e.argument_then value more) h = and_from (is_written value) (are_arguments more) (expr_written value h.0) (arguments_written more h.1)
    arguments_written (e.keyed_then key value more) h = and_from (is_written value) (are_arguments more) (expr_written value h.0) (arguments_written more h.1)

  maybe_is_written : (a : Option ExprTree) → MaybePasses tests a → maybe_written a ≡ true
  maybe_is_written None h = refl
  maybe_is_written (Some a) h = expr_written a h

  -- ---- targets

  targets_two : (xs ys : List ExprTree) → are_targets xs ≡ true → are_targets ys ≡ true → are_targets (xs ++ ys) ≡ true
  targets_two [] ys h k = k
  targets_two (x ∷ xs) ys h k =
      let p = and_parts (is_written x) (are_targets xs) h in and_from (is_written x) (are_targets (xs ++ ys)) p.0 (targets_two xs ys p.1 k)

  mutual
    leaves_written : (a : ExprTree) → ExprPasses tests a → are_targets (leaves a) ≡ true
    leaves_written (e.at node span) h = node_leaves_written span node h

    node_leaves_written : (span : Span) (node : ExprNode) → NodePasses tests node → are_targets (node_leaves span node) ≡ true
    node_leaves_written span (e.TupleOf items) h = row_leaves_written items h
    node_leaves_written span (e.ListOf items) h = row_leaves_written items h
    node_leaves_written span node h = and_from (is_written_node node) true (node_written node h) refl

    row_leaves_written : (items : ExprTrees) → ExprsPass tests items → are_targets (row_leaves items) ≡ true
    row_leaves_written e.no_exprs h = refl
    row_leaves_written (e.expr_then a more) h = targets_two (leaves a) (row_leaves more) (leaves_written a h.0) (row_leaves_written more h.1)

  -- ---- statements

  mutual
    stmt_written : (x : StmtTree) → StmtPasses tests x → is_stmt_written x ≡ true
    stmt_written (s.at node span) h = act_written node h

    act_written : (node : StmtNode) → ActPasses tests node → is_act_written node ≡ true
    act_written (s.Do a) h = expr_written a h
    act_written (s.Assign target a) h = and_from (are_targets (leaves target)) (is_written a) (leaves_written target h.0) (expr_written a h.1)
    act_written (s.Annot target mark a) h = maybe_is_written a h.1
    act_written (s.Aug target op a) h = and_from (is_written target) (is_written a) (expr_written target h.0) (expr_written a h.1)
    act_written (s.Del a) h = expr_written a h
    act_written (s.Return a) h = maybe_is_written a h
    act_written (s.Raise a) h = maybe_is_written a h
    act_written (s.Assert a message) h = and_from (is_written a) (maybe_written message) (expr_written a h.0) (maybe_is_written message h.1)
    act_written (s.If arms other) h = three (has_test arms) (are_arms_written arms) (is_suite_written other) (test_there arms h.0) (arms_written arms h.1) (suite_written other h.2)
    act_written (s.While test body) h = three (is_written test) (is_filled body) (is_suite_written body) (expr_written test h.0) (filled_there body h.1) (suite_written body h.2)
    act_written (s.For target a body) h = three (is_written a) (is_filled body) (is_suite_written body) (expr_written a h.1) (filled_there body h.2) (suite_written body h.3)
    act_written (s.Try body handlers last) h =
        five (has_clause handlers last) (is_filled body) (is_suite_written body) (are_handlers_written handlers) (is_last_written last) (clause_there handlers last h.0) (filled_there body h.1) (suite_written body h.2) (handlers_written handlers h.3) (last_written last h.4)
    act_written _ h = refl

    pub suite_written : (body : Suite) → SuitePasses tests body → is_suite_written body ≡ true
    suite_written s.no_stmts h = refl
    suite_written (s.stmt_then x more) h = and_from (is_stmt_written x) (is_suite_written more) (stmt_written x h.0) (suite_written more h.1)

    arms_written : (arms : Arms) → ArmsPass tests arms → are_arms_written arms ≡ true
    arms_written s.no_arms h = refl
    arms_written (s.arm_then test body more) h =
        four (is_written test) (is_filled body) (is_suite_written body) (are_arms_written more) (expr_written test h.0) (filled_there body h.1) (suite_written body h.2) (arms_written more h.3)

    handlers_written : (handlers : Handlers) → HandlersPass tests handlers → are_handlers_written handlers ≡ true
    handlers_written s.no_handlers h = refl
    handlers_written (s.handler_then class name body span more) h =
        three (is_filled body) (is_suite_written body) (are_handlers_written more) (filled_there body h.1) (suite_written body h.2) (handlers_written more h.3)

    last_written : (last : MaybeSuite) → LastPasses tests last → is_last_written last ≡ true
    last_written s.no_suite h = refl
    last_written (s.some_suite body) h = and_from (is_filled body) (is_suite_written body) (filled_there body h.0) (suite_written body h.1)

use Rattle.std.proofs.Common.{rules, [], ◌+◌, nat_eq, ◌<◌, ◌≤◌, length, ◌≡◌, ◌∙◌, map, List, Option, Some, None, ℕ, true, refl, ap, sym, subst}
use Rattle.std.specs.Option.{option_map}
use Rattle.py_syntax.specs.Expressions.{expr_tree}
use Rattle.py_syntax.specs.Statements as tree
use Rattle.py_syntax.specs.Statements.{HandlerTree, Suite, stmt_tree, stmt_node, body_tree, arms_of, arm_tree, handlers_of, handler_tree, maybe_suite, def_of, func_tree, class_def_of, class_tree, maybe_expr}
use Rattle.py_syntax.proofs.StatementLemmas.{stmt_node-Expr, stmt_node-Assign, stmt_node-Annot, stmt_node-Aug, stmt_node-Del, stmt_node-Pass, stmt_node-Break, stmt_node-Continue, stmt_node-Return, stmt_node-Raise, stmt_node-Global, stmt_node-Assert, stmt_node-Import, stmt_node-From, stmt_node-If, stmt_node-While, stmt_node-For, stmt_node-Try, stmt_node-Def, stmt_node-Class}
use Rattle.py_typed.specs.declared.expression.TExpr.{TExpr}
use Rattle.py_typed.specs.declared.statement.TStmt.{TStmt}
use Rattle.py_typed.specs.declared.statement.THandler.{THandler}
use Rattle.py_typed.specs.Statements as acts
use Rattle.py_typed.specs.Statements.{typed_stmt, typed_arm, typed_handler, suite_of}
use Rattle.py_check_context.specs.Context.{context}
use Rattle.py_check_messages.specs.Seen.{Tells}
use Rattle.py_check_messages.proofs.RowLemmas.{Remains}
use Rattle.py_check_values.specs.Returns.{return_sort}
use Rattle.py_check_expressions.proofs.RowLemmas.{row_starts}
use Rattle.py_check_places.specs.Places.{Known, Way, with_names, where_test, setting_out, entering, meeting}
use Rattle.py_check_places.specs.Views.{known_at}
use Rattle.py_check_targets.specs.Views.{boxed_act}
use Rattle.py_check_coercions.specs.Boxes.{boxed}
use Rattle.py_check_loops.specs.Loops.{loop_of}
use Rattle.py_check_loops.specs.Heads.{for_head, in_for}
use Rattle.py_check_loops.specs.Views.{boxed_head}
use Rattle.py_check_exceptions.specs.Handlers.{handler_head, in_handler}
use Rattle.py_check_exceptions.specs.Views.{boxed_handler_head}
use Rattle.py_check_flow.specs.Closed.{is_closed}
use Rattle.py_check_statements.specs.Bodies.{around_loop, around_clause, outside_try, behind_try, try_of, clause, clauses, maybe_block, handlers_after, last_after, condition, left_while, behind_loop, block, block_after, branches, arms_after, guarded}
use Rattle.py_check_statements.specs.Views.{boxed_stmt, guarded_seen, clause_seen, way}
use Rattle.py_check_statements.proofs.BodyLemmas.{try_says, try_knows, always, made_says, leaf_says, no_act, silent_says, both_say, pair_says, node_of, act_stays, known_after, line_says, act_says, act_knows, while_says, while_knows, for_says, for_knows, known_behind_loop, row_ends, block_ends, known_ends, branches_end, ways_end, known_passed, row_passed, known_behind, row_behind, way_behind, ways_behind, arms_behind, known_behind_else}
use Rattle.py_check_statements.proofs.TryLemmas.{three_say, handler_tree_at, clauses_known, clauses_row, clauses_end, handlers_end}
use Rattle.py_check_statements.proofs.blocks.+statement.Goals as goal

-- ---- what a statement is

pub act-returns-in-Expr : goal.act-returns-in-Expr
act-returns-in-Expr t c =
    let C = context c.args.scope.now in
    let K = known_at c.args.place.now in
    let s = c.args.s.now in
    let n = tree.Do (expr_tree c.in-Expr.e) in
    let is : stmt_node s.kind ≡ n = node_of s _ _ c.in-Expr.is (stmt_node-Expr c.in-Expr.e) in
    record {
      told = act_says C K s (return_sort c.args.inside.returns) c.args.inside.around c.alone.result c.args.faults.now c.alone.new.faults n is c.alone.ensures;
      known = act_stays C K s c.alone.result n is refl;
    }

pub act-returns-in-Assign : goal.act-returns-in-Assign
act-returns-in-Assign t c =
    let C = context c.args.scope.now in
    let K = known_at c.args.place.now in
    let s = c.args.s.now in
    let n = tree.Assign (expr_tree c.in-Assign.target) (expr_tree c.in-Assign.e) in
    let is : stmt_node s.kind ≡ n = node_of s _ _ c.in-Assign.is (stmt_node-Assign c.in-Assign.target c.in-Assign.e) in
    record {
      told = act_says C K s (return_sort c.args.inside.returns) c.args.inside.around c.assign.result c.args.faults.now c.assign.new.faults n is c.assign.ensures.told;
      known = act_knows C K s c.assign.result (known_at c.assign.new.place) n is c.assign.ensures.known;
    }

pub act-returns-in-Annot : goal.act-returns-in-Annot
act-returns-in-Annot t c =
    let C = context c.args.scope.now in
    let K = known_at c.args.place.now in
    let s = c.args.s.now in
    let n = tree.Annot (expr_tree c.in-Annot.target) (expr_tree c.in-Annot.mark) (maybe_expr c.in-Annot.e) in
    let is : stmt_node s.kind ≡ n = node_of s _ _ c.in-Annot.is (stmt_node-Annot c.in-Annot.target c.in-Annot.mark c.in-Annot.e) in
    record {
      told = act_says C K s (return_sort c.args.inside.returns) c.args.inside.around c.annotate.result c.args.faults.now c.annotate.new.faults n is c.annotate.ensures.told;
      known = act_knows C K s c.annotate.result (known_at c.annotate.new.place) n is c.annotate.ensures.known;
    }

pub act-returns-in-Aug : goal.act-returns-in-Aug
act-returns-in-Aug t c =
    let C = context c.args.scope.now in
    let K = known_at c.args.place.now in
    let s = c.args.s.now in
    let n = tree.Aug (expr_tree c.in-Aug.target) c.in-Aug.op (expr_tree c.in-Aug.e) in
    let is : stmt_node s.kind ≡ n = node_of s _ _ c.in-Aug.is (stmt_node-Aug c.in-Aug.target c.in-Aug.op c.in-Aug.e) in
    record {
      told = act_says C K s (return_sort c.args.inside.returns) c.args.inside.around c.update.result c.args.faults.now c.update.new.faults n is c.update.ensures.told;
      known = act_knows C K s c.update.result (known_at c.update.new.place) n is c.update.ensures.known;
    }

pub act-returns-in-Del : goal.act-returns-in-Del
act-returns-in-Del t c =
    let C = context c.args.scope.now in
    let K = known_at c.args.place.now in
    let s = c.args.s.now in
    let n = tree.Del (expr_tree c.in-Del.e) in
    let is : stmt_node s.kind ≡ n = node_of s _ _ c.in-Del.is (stmt_node-Del c.in-Del.e) in
    record {
      told = act_says C K s (return_sort c.args.inside.returns) c.args.inside.around c.deleted.result c.args.faults.now c.deleted.new.faults n is c.deleted.ensures;
      known = act_stays C K s c.deleted.result n is refl;
    }

pub act-returns-in-Pass : goal.act-returns-in-Pass
act-returns-in-Pass t c =
    let C = context c.args.scope.now in
    let K = known_at c.args.place.now in
    let s = c.args.s.now in
    let n = tree.Pass in
    let is : stmt_node s.kind ≡ n = node_of s _ _ c.in-Pass.is stmt_node-Pass in
    record {
      told = act_says C K s (return_sort c.args.inside.returns) c.args.inside.around c.passed.result c.args.faults.now c.args.faults.now n is (leaf_says boxed_act acts.Pass c.passed.result c.args.faults.now c.passed.ensures);
      known = act_stays C K s c.passed.result n is refl;
    }

pub act-returns-in-Break : goal.act-returns-in-Break
act-returns-in-Break t c =
    let C = context c.args.scope.now in
    let K = known_at c.args.place.now in
    let s = c.args.s.now in
    let n = tree.Break in
    let is : stmt_node s.kind ≡ n = node_of s _ _ c.in-Break.is stmt_node-Break in
    record {
      told = act_says C K s (return_sort c.args.inside.returns) c.args.inside.around c.broken.result c.args.faults.now c.broken.new.faults n is c.broken.ensures;
      known = act_stays C K s c.broken.result n is refl;
    }

pub act-returns-in-Continue : goal.act-returns-in-Continue
act-returns-in-Continue t c =
    let C = context c.args.scope.now in
    let K = known_at c.args.place.now in
    let s = c.args.s.now in
    let n = tree.Continue in
    let is : stmt_node s.kind ≡ n = node_of s _ _ c.in-Continue.is stmt_node-Continue in
    record {
      told = act_says C K s (return_sort c.args.inside.returns) c.args.inside.around c.continued.result c.args.faults.now c.continued.new.faults n is c.continued.ensures;
      known = act_stays C K s c.continued.result n is refl;
    }

pub act-returns-in-Return : goal.act-returns-in-Return
act-returns-in-Return t c =
    let C = context c.args.scope.now in
    let K = known_at c.args.place.now in
    let s = c.args.s.now in
    let n = tree.Return (maybe_expr c.in-Return.e) in
    let is : stmt_node s.kind ≡ n = node_of s _ _ c.in-Return.is (stmt_node-Return c.in-Return.e) in
    record {
      told = act_says C K s (return_sort c.args.inside.returns) c.args.inside.around c.returns.result c.args.faults.now c.returns.new.faults n is c.returns.ensures;
      known = act_stays C K s c.returns.result n is refl;
    }

pub act-returns-in-Raise : goal.act-returns-in-Raise
act-returns-in-Raise t c =
    let C = context c.args.scope.now in
    let K = known_at c.args.place.now in
    let s = c.args.s.now in
    let n = tree.Raise (maybe_expr c.in-Raise.e) in
    let is : stmt_node s.kind ≡ n = node_of s _ _ c.in-Raise.is (stmt_node-Raise c.in-Raise.e) in
    record {
      told = act_says C K s (return_sort c.args.inside.returns) c.args.inside.around c.raises.result c.args.faults.now c.raises.new.faults n is c.raises.ensures;
      known = act_stays C K s c.raises.result n is refl;
    }

pub act-returns-in-Global : goal.act-returns-in-Global
act-returns-in-Global t c =
    let C = context c.args.scope.now in
    let K = known_at c.args.place.now in
    let s = c.args.s.now in
    let n = tree.Global c.in-Global.field-0 in
    let is : stmt_node s.kind ≡ n = node_of s _ _ c.in-Global.is (stmt_node-Global c.in-Global.field-0) in
    record {
      told = act_says C K s (return_sort c.args.inside.returns) c.args.inside.around c.passed-in-Global.result c.args.faults.now c.args.faults.now n is (leaf_says boxed_act acts.Pass c.passed-in-Global.result c.args.faults.now c.passed-in-Global.ensures);
      known = act_stays C K s c.passed-in-Global.result n is refl;
    }

pub act-returns-in-Assert : goal.act-returns-in-Assert
act-returns-in-Assert t c =
    let C = context c.args.scope.now in
    let K = known_at c.args.place.now in
    let s = c.args.s.now in
    let n = tree.Assert (expr_tree c.in-Assert.e) (maybe_expr c.in-Assert.text) in
    let is : stmt_node s.kind ≡ n = node_of s _ _ c.in-Assert.is (stmt_node-Assert c.in-Assert.e c.in-Assert.text) in
    record {
      told = act_says C K s (return_sort c.args.inside.returns) c.args.inside.around c.asserted.result c.args.faults.now c.asserted.new.faults n is c.asserted.ensures.told;
      known = act_knows C K s c.asserted.result (known_at c.asserted.new.place) n is c.asserted.ensures.known;
    }

pub act-returns-in-Import : goal.act-returns-in-Import
act-returns-in-Import t c =
    let C = context c.args.scope.now in
    let K = known_at c.args.place.now in
    let s = c.args.s.now in
    let n = tree.Import c.in-Import.field-0 c.in-Import.field-1 in
    let is : stmt_node s.kind ≡ n = node_of s _ _ c.in-Import.is (stmt_node-Import c.in-Import.field-0 c.in-Import.field-1) in
    record {
      told = act_says C K s (return_sort c.args.inside.returns) c.args.inside.around no_act c.args.faults.now c.args.faults.now n is (silent_says boxed_act c.args.faults.now);
      known = act_stays C K s no_act n is refl;
    }

pub act-returns-in-From : goal.act-returns-in-From
act-returns-in-From t c =
    let C = context c.args.scope.now in
    let K = known_at c.args.place.now in
    let s = c.args.s.now in
    let n = tree.From c.in-From.field-0 c.in-From.field-1 in
    let is : stmt_node s.kind ≡ n = node_of s _ _ c.in-From.is (stmt_node-From c.in-From.field-0 c.in-From.field-1) in
    record {
      told = act_says C K s (return_sort c.args.inside.returns) c.args.inside.around no_act c.args.faults.now c.args.faults.now n is (silent_says boxed_act c.args.faults.now);
      known = act_stays C K s no_act n is refl;
    }

pub act-returns-in-If : goal.act-returns-in-If
act-returns-in-If t c =
    let C = context c.args.scope.now in
    let K = known_at c.args.place.now in
    let s = c.args.s.now in
    let arms = c.as_slice.result.now in
    let other = c.as_slice-other.result.now in
    let n = tree.If (arms_of (map arm_tree arms)) (body_tree other) in
    let is : stmt_node s.kind ≡ n = node_of s _ _ (rw c.as_slice.ensures (rw c.as_slice-other.ensures c.in-If.is)) (stmt_node-If arms other) in
    record {
      told = act_says C K s (return_sort c.args.inside.returns) c.args.inside.around c.conditional.result c.args.faults.now c.conditional.new.faults n is c.conditional.ensures.told;
      known = act_knows C K s c.conditional.result (known_at c.conditional.new.place) n is c.conditional.ensures.known;
    }

pub act-returns-in-While : goal.act-returns-in-While
act-returns-in-While t c =
    let C = context c.args.scope.now in
    let K = known_at c.args.place.now in
    let s = c.args.s.now in
    let e = c.in-While.e in
    let body = c.as_slice-in-While.result.now in
    let is : stmt_node s.kind ≡ tree.While (expr_tree e) (body_tree body) = node_of s _ _ (rw c.as_slice-in-While.ensures c.in-While.is) (stmt_node-While e body) in
    record {
      told = while_says C K s (return_sort c.args.inside.returns) c.args.inside.around c.while_loop.result c.args.faults.now c.while_loop.new.faults (expr_tree e) (body_tree body) is c.while_loop.ensures.told;
      known = while_knows C K s c.while_loop.result (known_at c.while_loop.new.place) (expr_tree e) (body_tree body) is c.while_loop.ensures.known;
    }

pub act-returns-in-For : goal.act-returns-in-For
act-returns-in-For t c =
    let C = context c.args.scope.now in
    let K = known_at c.args.place.now in
    let s = c.args.s.now in
    let target = c.in-For.target in
    let e = c.in-For.over in
    let body = c.as_slice-body.result.now in
    let is : stmt_node s.kind ≡ tree.For (expr_tree target) (expr_tree e) (body_tree body) = node_of s _ _ (rw c.as_slice-body.ensures c.in-For.is) (stmt_node-For target e body) in
    record {
      told = for_says C K s (return_sort c.args.inside.returns) c.args.inside.around c.for_loop.result c.args.faults.now c.for_loop.new.faults (expr_tree target) (expr_tree e) (body_tree body) is c.for_loop.ensures.told;
      known = for_knows C K s c.for_loop.result (known_at c.for_loop.new.place) (expr_tree target) (expr_tree e) (body_tree body) is c.for_loop.ensures.known;
    }

pub act-returns-in-Try : goal.act-returns-in-Try
act-returns-in-Try t c =
    let C = context c.args.scope.now in
    let K = known_at c.args.place.now in
    let s = c.args.s.now in
    let body = c.as_slice-body-in-Try.result.now in
    let handlers = c.as_slice-handlers.result.now in
    let last = c.in-Try.last in
    let L = maybe_suite (option_map body_tree last) in
    let is : stmt_node s.kind ≡ tree.Try (body_tree body) (handlers_of (map handler_tree handlers)) L = node_of s _ _ (rw c.as_slice-body-in-Try.ensures (rw c.as_slice-handlers.ensures c.in-Try.is)) (stmt_node-Try body handlers last) in
    record {
      told = try_says C K s (return_sort c.args.inside.returns) c.args.inside.around c.try_statement.result c.args.faults.now c.try_statement.new.faults (body_tree body) (handlers_of (map handler_tree handlers)) L is c.try_statement.ensures.told;
      known = try_knows C K s c.try_statement.result (known_at c.try_statement.new.place) (body_tree body) (handlers_of (map handler_tree handlers)) L is c.try_statement.ensures.known;
    }

pub act-returns-in-Def : goal.act-returns-in-Def
act-returns-in-Def t c =
    let C = context c.args.scope.now in
    let K = known_at c.args.place.now in
    let s = c.args.s.now in
    let n = def_of (func_tree c.in-Def.field-0) in
    let is : stmt_node s.kind ≡ n = node_of s _ _ c.in-Def.is (stmt_node-Def c.in-Def.field-0) in
    record {
      told = act_says C K s (return_sort c.args.inside.returns) c.args.inside.around no_act c.args.faults.now c.args.faults.now n is (silent_says boxed_act c.args.faults.now);
      known = act_stays C K s no_act n is refl;
    }

pub act-returns-in-Class : goal.act-returns-in-Class
act-returns-in-Class t c =
    let C = context c.args.scope.now in
    let K = known_at c.args.place.now in
    let s = c.args.s.now in
    let n = class_def_of (class_tree c.in-Class.field-0) in
    let is : stmt_node s.kind ≡ n = node_of s _ _ c.in-Class.is (stmt_node-Class c.in-Class.field-0) in
    record {
      told = act_says C K s (return_sort c.args.inside.returns) c.args.inside.around no_act c.args.faults.now c.args.faults.now n is (silent_says boxed_act c.args.faults.now);
      known = act_stays C K s no_act n is refl;
    }

-- ---- rows

pub block-loop-s-init : goal.block-loop-s-init
block-loop-s-init t c =
    let whole = block (context c.args.scope.now) (return_sort c.args.inside.returns) c.args.inside.around (known_at c.args.place.now) (body_tree c.args.body.now) in
    let P : List TStmt → Type 0 = λ l. Remains (Some (map typed_stmt l)) c.args.faults.now c.args.faults.now whole whole in
    record { row = subst P (sym c.new.ensures) (row_starts (Some []) c.args.faults.now whole refl); known = refl }

pub block-loop-s-preserved-then-is_definition : goal.block-loop-s-preserved-then-is_definition
block-loop-s-preserved-then-is_definition t c =
    let C = context c.args.scope.now in
    let R = return_sort c.args.inside.returns in
    let K0 = known_at c.args.place.now in
    let K = known_at c.loop-s.place in
    let xs = c.args.body.now in
    let i = c.loop-s.s-index in
    let s = c.s-item.result in
    let d = sym c.is_definition.ensures ∙ c.if-is_definition.true in
    record {
      row = row_passed C xs i s c.loop-s-test.true c.s-item.is R c.args.inside.around K (option_map (map typed_stmt) c.loop-s.found) c.args.faults.now c.loop-s.faults (block C R c.args.inside.around K0 (body_tree xs)) d c.loop-s.invariant.row;
      known = known_passed C xs i s c.loop-s-test.true c.s-item.is K0 K d c.loop-s.invariant.known;
    }

pub block-loop-s-preserved : goal.block-loop-s-preserved
block-loop-s-preserved t c =
    let C = context c.args.scope.now in
    let R = return_sort c.args.inside.returns in
    let K0 = known_at c.args.place.now in
    let K = known_at c.loop-s.place in
    let K1 = known_at c.act.new.place in
    let xs = c.args.body.now in
    let i = c.loop-s.s-index in
    let s = c.s-item.result in
    let d = sym c.is_definition.ensures ∙ c.if-is_definition.false in
    let known = known_after C K s K1 c.in_ok-kind.ensures.known in
    let told = line_says C K s R c.args.inside.around c.in_ok-kind.kind c.in_ok-one.one c.loop-s.faults c.act.new.faults c.in_ok-kind.ensures.told c.in_ok-one.ensures in
    record {
      row = row_behind C xs i s c.loop-s-test.true c.s-item.is R c.args.inside.around K K1 (option_map (map typed_stmt) c.loop-s.found) (option_map (map typed_stmt) c.in_ok-found.found) (option_map boxed_stmt c.in_ok-one.one) c.args.faults.now c.loop-s.faults c.act.new.faults (block C R c.args.inside.around K0 (body_tree xs)) d known c.in_ok-found.ensures told.0 told.1 c.loop-s.invariant.row;
      known = known_behind C xs i s c.loop-s-test.true c.s-item.is K0 K K1 known c.loop-s.invariant.known;
    }

pub block-returns : goal.block-returns
block-returns t c =
    let C = context c.args.scope.now in
    let R = return_sort c.args.inside.returns in
    let K0 = known_at c.args.place.now in
    let K = known_at c.loop-s.place in
    let xs = c.args.body.now in
    let i = c.loop-s.s-index in
    record {
      told = row_ends (option_map (map typed_stmt) c.loop-s.found) c.args.faults.now c.loop-s.faults (block C R c.args.inside.around K0 (body_tree xs)) _ (block_ends C xs i c.loop-s-test.false R c.args.inside.around K) c.loop-s.invariant.row;
      known = known_ends C xs i c.loop-s-test.false K0 K c.loop-s.invariant.known;
    }

pub branches-loop-e-init : goal.branches-loop-e-init
branches-loop-e-init t c =
    let whole = branches (context c.args.scope.now) (return_sort c.args.inside.returns) c.args.inside.around (setting_out (known_at c.args.place.now)) (arms_of (map arm_tree c.args.arms.now)) in
    let P : List (TExpr × List TStmt) → Type 0 = λ l. Remains (Some (map typed_arm l)) c.args.faults.now c.args.faults.now whole whole in
    record { row = subst P (sym c.new.ensures) (row_starts (Some []) c.args.faults.now whole refl); known = refl }

pub branches-loop-e-preserved : goal.branches-loop-e-preserved
branches-loop-e-preserved t c =
    let C = context c.args.scope.now in
    let R = return_sort c.args.inside.returns in
    let W0 : Way = setting_out (known_at c.args.place.now) in
    let K = known_at c.loop-e.place in
    let E : Option (List ℕ) = option_map (λ v. v.items) c.loop-e.ends in
    let E1 : Option (List ℕ) = option_map (λ v. v.items) c.in_ok-ends.ends in
    let W : Way = way K E in
    let W1 : Way = way (known_at c.leave_arm.new.place) E1 in
    let xs = c.args.arms.now in
    let i = c.loop-e.e-index in
    let a = c.loop-e-item.result in
    let b = c.as_slice-body.result.now in
    let e = way_behind C xs i a c.loop-e-test.true c.loop-e-item.is b c.as_slice-body.ensures K (known_at c.guarded.new.place) (known_at c.leave_arm.new.place) E E1 c.in_ok-fails.fails.items c.in_ok-fails.ensures c.in_ok-one.ensures.known c.in_ok-ends.ensures.known c.in_ok-ends.ensures.ends in
    record {
      row = arms_behind C xs i a c.loop-e-test.true c.loop-e-item.is b c.as_slice-body.ensures R c.args.inside.around W W1 (option_map (map typed_arm) c.loop-e.found) (option_map (map typed_arm) c.in_ok-found.found) (option_map guarded_seen c.in_ok-one.one) c.args.faults.now c.loop-e.faults c.guarded.new.faults (branches C R c.args.inside.around W0 (arms_of (map arm_tree xs))) e c.in_ok-found.ensures c.in_ok-one.ensures.told.0 c.in_ok-one.ensures.told.1 c.loop-e.invariant.row;
      known = ways_behind C xs i a c.loop-e-test.true c.loop-e-item.is b c.as_slice-body.ensures W0 W W1 e c.loop-e.invariant.known;
    }

pub branches-returns : goal.branches-returns
branches-returns t c =
    let C = context c.args.scope.now in
    let R = return_sort c.args.inside.returns in
    let W0 : Way = setting_out (known_at c.args.place.now) in
    let W : Way = way (known_at c.loop-e.place) (option_map (λ v. v.items) c.loop-e.ends) in
    let xs = c.args.arms.now in
    let i = c.loop-e.e-index in
    record {
      told = row_ends (option_map (map typed_arm) c.loop-e.found) c.args.faults.now c.loop-e.faults (branches C R c.args.inside.around W0 (arms_of (map arm_tree xs))) _ (branches_end C xs i c.loop-e-test.false R c.args.inside.around W) c.loop-e.invariant.row;
      known = ways_end C xs i c.loop-e-test.false W0 W c.loop-e.invariant.known;
    }

-- ---- statements with bodies

pub guarded-returns : goal.guarded-returns
guarded-returns t c =
    let C = context c.args.scope.now in
    let R = return_sort c.args.inside.returns in
    let K = known_at c.args.place.now in
    let e = expr_tree c.args.e.now in
    let body = body_tree c.args.body.now in
    let P : Known → Type 0 = λ k. Tells (map typed_stmt) c.in_ok-body.body c.condition.new.faults c.block.new.faults (block C R c.args.inside.around k body) in
    record {
      told = both_say boxed (map typed_stmt) guarded_seen (condition C K e) (block C R c.args.inside.around (where_test C K true e) body) c.in_ok-test.test c.in_ok-body.body c.guarded_by.result c.args.faults.now c.condition.new.faults c.block.new.faults c.in_ok-test.ensures (subst P c.in_ok-learn.ensures c.in_ok-body.ensures.told) c.guarded_by.ensures;
      known = c.in_ok-body.ensures.known ∙ ap (λ k. block_after C k body) c.in_ok-learn.ensures;
    }

pub conditional-returns : goal.conditional-returns
conditional-returns t c =
    let C = context c.args.scope.now in
    let R = return_sort c.args.inside.returns in
    let W0 : Way = setting_out (known_at c.args.place.now) in
    let arms = arms_of (map arm_tree c.args.arms.now) in
    let W : Way = arms_after C W0 arms in
    let other = body_tree c.args.other.now in
    let made = c.in_ok-arms.field-0 in
    let E : Option (List ℕ) = option_map (λ v. v.items) made.ends in
    let P : Way → Type 0 = λ w. Tells (map typed_stmt) c.in_ok-last.last c.branches.new.faults c.block.new.faults (block C R c.args.inside.around w.at other) in
    record {
      told = pair_says (λ p. acts.If (acts.arms_of p.0) (suite_of p.1)) (map typed_arm) (map typed_stmt) boxed_act (branches C R c.args.inside.around W0 arms) (block C R c.args.inside.around W.at other) made.arms c.in_ok-last.last c.branched.result c.args.faults.now c.branches.new.faults c.block.new.faults c.in_ok-arms.ensures.told (subst P c.in_ok-arms.ensures.known c.in_ok-last.ensures.told) c.branched.ensures;
      known = always c.branched.result (known_at c.leave_branches.new.place ≡ meeting W.ends (is_closed other) (block_after C W.at other))
          (known_behind_else C W (known_at c.branches.new.place) (known_at c.block.new.place) (known_at c.leave_branches.new.place) E other c.in_ok-arms.ensures.known c.in_ok-last.ensures.known c.in_ok-leave_branches.ensures);
    }

pub while_loop-returns : goal.while_loop-returns
while_loop-returns t c =
    let C = context c.args.scope.now in
    let R = return_sort c.args.inside.returns in
    let e = expr_tree c.args.e.now in
    let body = body_tree c.args.body.now in
    let entered = entering C (known_at c.args.place.now) (stmt_tree c.args.s.now) in
    let end = known_at c.guarded.new.place in
    let outside = c.in_ok-outside.outside.items in
    let names = left_while C entered e body in
    let behind = block_after C (where_test C entered true e) body in
    let P : Known → Type 0 = λ k. Tells guarded_seen c.in_ok-one.one c.args.faults.now c.guarded.new.faults (guarded C R (around_loop c.args.inside.around) k e body) in
    record {
      told = made_says (λ p. acts.While p.0 (suite_of p.1)) guarded_seen boxed_act (guarded C R (around_loop c.args.inside.around) entered e body) c.in_ok-one.one c.repeated.result c.args.faults.now c.guarded.new.faults (subst P c.in_ok-outside.ensures.known c.in_ok-one.ensures.told) c.repeated.ensures;
      known = always c.repeated.result (with_names end outside ≡ behind_loop names behind)
          (known_behind_loop outside names end behind c.in_ok-outside.ensures.outside (c.in_ok-one.ensures.known ∙ ap (λ k. block_after C (where_test C k true e) body) c.in_ok-outside.ensures.known));
    }

pub for_loop-returns : goal.for_loop-returns
for_loop-returns t c =
    let C = context c.args.scope.now in
    let R = return_sort c.args.inside.returns in
    let K = known_at c.args.place.now in
    let s = c.args.s.now in
    let target = expr_tree c.args.parts.target.now in
    let e = expr_tree c.args.parts.over.now in
    let body = body_tree c.args.parts.body.now in
    let begun = c.in_ok-head.field-0 in
    let inside = in_for C K (stmt_tree s) s.span target e in
    let end = known_at c.block.new.place in
    let outside = begun.outside.items in
    let names = (entering C K (stmt_tree s)).names in
    let behind = block_after C inside body in
    let P : Known → Type 0 = λ k. Tells (map typed_stmt) c.in_ok-body.body c.begin_for.new.faults c.block.new.faults (block C R (around_loop c.args.inside.around) k body) in
    record {
      told = pair_says (λ p. loop_of p.0.0 p.0.1 (suite_of p.1)) boxed_head (map typed_stmt) boxed_act (for_head C K (stmt_tree s) s.span target e) (block C R (around_loop c.args.inside.around) inside body) begun.head c.in_ok-body.body c.looped.result c.args.faults.now c.begin_for.new.faults c.block.new.faults c.in_ok-head.ensures.told (subst P c.in_ok-head.ensures.known c.in_ok-body.ensures.told) c.looped.ensures;
      known = always c.looped.result (with_names end outside ≡ behind_loop names behind)
          (known_behind_loop outside names end behind c.in_ok-head.ensures.outside (c.in_ok-body.ensures.known ∙ ap (λ k. block_after C k body) c.in_ok-head.ensures.known));
    }

pub try_statement-returns : goal.try_statement-returns
try_statement-returns t c =
    let C = context c.args.scope.now in
    let R = return_sort c.args.inside.returns in
    let A = c.args.inside.around in
    let K = known_at c.args.place.now in
    let N = outside_try C K (stmt_tree c.args.s.now) in
    let body = body_tree c.args.parts.body.now in
    let H = handlers_of (map handler_tree c.args.parts.handlers.now) in
    let L = maybe_suite (option_map body_tree c.args.parts.last.now) in
    let names = c.as_slice-names.result.now in
    let same : names ≡ N = c.as_slice-names.ensures.value ∙ c.in_ok-outside.ensures.names in
    let K1 = known_at c.block.new.place in
    let K2 = known_at c.clauses.new.place in
    let K3 = known_at c.maybe_block.new.place in
    let E1 = block_after C K body in
    let E2 = handlers_after C N E1 H in
    let k1 : K1 ≡ E1 = c.in_ok-first.ensures.known ∙ ap (λ k. block_after C k body) c.in_ok-outside.ensures.known in
    let k2 : K2 ≡ E2 = c.in_ok-found.ensures.known ∙ ap (λ n. handlers_after C n K1 H) same ∙ ap (λ k. handlers_after C N k H) k1 in
    let k3 : K3 ≡ last_after C N E2 L = c.in_ok-last.ensures.known ∙ ap (λ n. last_after C n K2 L) same ∙ ap (λ k. last_after C N k L) k2 in
    let P1 : Known → Type 0 = λ k. Tells (map typed_stmt) c.in_ok-first.first c.args.faults.now c.block.new.faults (block C R A k body) in
    let P2 : List ℕ → Type 0 = λ n. Tells (map typed_handler) c.in_ok-found.found c.block.new.faults c.clauses.new.faults (clauses C R A n K1 H) in
    let Q2 : Known → Type 0 = λ k. Tells (map typed_handler) c.in_ok-found.found c.block.new.faults c.clauses.new.faults (clauses C R A N k H) in
    let P3 : List ℕ → Type 0 = λ n. Tells (option_map (map typed_stmt)) c.in_ok-last.last c.clauses.new.faults c.maybe_block.new.faults (maybe_block C R A n K2 L) in
    let Q3 : Known → Type 0 = λ k. Tells (option_map (map typed_stmt)) c.in_ok-last.last c.clauses.new.faults c.maybe_block.new.faults (maybe_block C R A N k L) in
    record {
      told = three_say try_of (map typed_stmt) (map typed_handler) (option_map (map typed_stmt)) boxed_act (block C R A K body) (clauses C R A N E1 H) (maybe_block C R A N E2 L) c.in_ok-first.first c.in_ok-found.found c.in_ok-last.last c.tried.result c.args.faults.now c.block.new.faults c.clauses.new.faults c.maybe_block.new.faults
          (subst P1 c.in_ok-outside.ensures.known c.in_ok-first.ensures.told) (subst Q2 k1 (subst P2 same c.in_ok-found.ensures.told)) (subst Q3 k2 (subst P3 same c.in_ok-last.ensures.told)) c.tried.ensures;
      known = always c.tried.result (with_names K3 c.in_ok-outside.outside.items ≡ behind_try C K N body H L) (ap (with_names K3) c.in_ok-outside.ensures.names ∙ ap (λ k. with_names k N) k3);
    }

pub clause-returns : goal.clause-returns
clause-returns t c =
    let C = context c.args.scope.now in
    let R = return_sort c.args.inside.returns in
    let K = known_at c.args.place.now in
    let A = around_clause c.args.inside.around in
    let last = c.args.last in
    let h = c.args.handler.now in
    let x = handler_tree h in
    let body = body_tree c.as_slice-body.result.now in
    let same : body ≡ x.body = ap body_tree c.as_slice-body.ensures ∙ sym (ap (λ (y : HandlerTree). y.body) (handler_tree_at h)) in
    let T : HandlerTree → Type 0 = λ y. Tells boxed_handler_head c.in_ok-head.head c.args.faults.now c.begin_handler.new.faults (handler_head C K y.span y.class y.name last) in
    let E : HandlerTree → Type 0 = λ y. known_at c.begin_handler.new.place ≡ in_handler C K y.span y.class y.name last in
    let told = subst T (sym (handler_tree_at h)) c.in_ok-head.ensures.told in
    let known = subst E (sym (handler_tree_at h)) c.in_ok-head.ensures.known in
    let P : Known → Type 0 = λ k. Tells (map typed_stmt) c.in_ok-body.body c.begin_handler.new.faults c.block.new.faults (block C R A k body) in
    let Q : Suite → Type 0 = λ l. Tells (map typed_stmt) c.in_ok-body.body c.begin_handler.new.faults c.block.new.faults (block C R A (in_handler C K x.span x.class x.name last) l) in
    record {
      told = both_say boxed_handler_head (map typed_stmt) clause_seen (handler_head C K x.span x.class x.name last) (block C R A (in_handler C K x.span x.class x.name last) x.body) c.in_ok-head.head c.in_ok-body.body c.clause_by.result c.args.faults.now c.begin_handler.new.faults c.block.new.faults told (subst Q same (subst P known c.in_ok-body.ensures.told)) c.clause_by.ensures;
      known = c.in_ok-body.ensures.known ∙ ap (λ k. block_after C k body) known ∙ ap (block_after C (in_handler C K x.span x.class x.name last)) same;
    }

pub clauses-loop-i-init : goal.clauses-loop-i-init
clauses-loop-i-init t c =
    let whole = clauses (context c.args.scope.now) (return_sort c.args.inside.returns) c.args.inside.around c.args.names.now (known_at c.args.place.now) (handlers_of (map handler_tree c.args.handlers.now)) in
    let P : List THandler → Type 0 = λ l. Remains (Some (map typed_handler l)) c.args.faults.now c.args.faults.now whole whole in
    record { row = subst P (sym c.new.ensures) (row_starts (Some []) c.args.faults.now whole refl); known = refl }

pub clauses-loop-i-preserved : goal.clauses-loop-i-preserved
clauses-loop-i-preserved t c =
    let C = context c.args.scope.now in
    let R = return_sort c.args.inside.returns in
    let A = c.args.inside.around in
    let N = c.args.names.now in
    let K = known_at c.loop-i.place in
    let K0 = known_at c.begin_with.new.place in
    let K1 = known_at c.clause.new.place in
    let xs = c.args.handlers.now in
    let i = c.loop-i.i in
    let h = c.index-handlers-i.result in
    let there : i < length xs = search (rules, c.loop-i-test.true) in
    record {
      row = clauses_row C N xs i h there c.index-handlers-i.is (nat_eq (i + 1) (length xs)) refl K K0 K1 c.in_ok-begin_with.ensures c.in_ok-one.ensures.known R A (option_map (map typed_handler) c.loop-i.found) (option_map (map typed_handler) c.in_ok-found.found) (option_map clause_seen c.in_ok-one.one) c.args.faults.now c.loop-i.faults c.clause.new.faults (clauses C R A N (known_at c.args.place.now) (handlers_of (map handler_tree xs))) c.in_ok-found.ensures c.in_ok-one.ensures.told.0 c.in_ok-one.ensures.told.1 c.loop-i.invariant.row;
      known = clauses_known C N xs i h there c.index-handlers-i.is (nat_eq (i + 1) (length xs)) refl K K0 K1 c.in_ok-begin_with.ensures c.in_ok-one.ensures.known (known_at c.args.place.now) c.loop-i.invariant.known;
    }

pub clauses-returns : goal.clauses-returns
clauses-returns t c =
    let C = context c.args.scope.now in
    let R = return_sort c.args.inside.returns in
    let A = c.args.inside.around in
    let N = c.args.names.now in
    let K0 = known_at c.args.place.now in
    let K = known_at c.loop-i.place in
    let xs = c.args.handlers.now in
    let i = c.loop-i.i in
    let over : length xs ≤ i = search (rules, c.loop-i-test.false) in
    record {
      told = row_ends (option_map (map typed_handler) c.loop-i.found) c.args.faults.now c.loop-i.faults (clauses C R A N K0 (handlers_of (map handler_tree xs))) _ (clauses_end C N xs i over R A K) c.loop-i.invariant.row;
      known = handlers_end C N xs i over K0 K c.loop-i.invariant.known;
    }

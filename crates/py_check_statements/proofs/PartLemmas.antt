-- A typed `if`, a typed clause and a typed `try`, by their parts.
use Rattle.std.proofs.Common.{◌≡◌, ◌∙◌, List, map, Option, Some, None, refl, ap}
use Rattle.std.specs.Option.{option_map}
use Rattle.value_core.specs.declared.exception.ExcClass.{ExcClass}
use Rattle.py_typed.specs.declared.expression.TExpr.{TExpr}
use Rattle.py_typed.specs.declared.statement.TStmt.{TStmt}
use Rattle.py_typed.specs.declared.statement.Target.{Target}
use Rattle.py_typed.specs.declared.statement.THandler.{THandler, out-THandler}
use Rattle.py_typed.specs.declared.statement.TStmtKind as kind
use Rattle.py_typed.specs.Statements as tree
use Rattle.py_typed.specs.Statements.{typed_act, arms_of, typed_arm, typed_suite, typed_stmt, typed_handler, typed_target, suite_of, handlers_of, maybe_suite}
use Rattle.py_typed.proofs.StatementLemmas.{typed_act-If, typed_act-Try, typed_handler_at}
use Rattle.py_check_statements.specs.Bodies.{clause_of, try_of}

pub act_if : (arms : List (TExpr × List TStmt)) (other : List TStmt) → typed_act (kind.If arms other) ≡ tree.If (arms_of (map typed_arm arms)) (typed_suite other)
act_if arms other = typed_act-If arms other

pub handler_made : (h : THandler) (classes : List ExcClass) (name : Option Target) (body : List TStmt) → (out-THandler h).classes ≡ classes → (out-THandler h).name ≡ name → (out-THandler h).body ≡ body → typed_handler h ≡ clause_of ((classes, option_map typed_target name), map typed_stmt body)
handler_made h classes name body c n b =
    typed_handler_at h
    ∙ ap (λ l. record { classes = l; name = option_map typed_target (out-THandler h).name; body = typed_suite (out-THandler h).body }) c
    ∙ ap (λ o. record { classes = classes; name = option_map typed_target o; body = typed_suite (out-THandler h).body }) n
    ∙ ap (λ l. record { classes = classes; name = option_map typed_target name; body = typed_suite l }) b

last_same : (last : Option (List TStmt)) → maybe_suite (option_map typed_suite last) ≡ maybe_suite (option_map suite_of (option_map (map typed_stmt) last))
last_same None = refl
last_same (Some body) = refl

pub act_try : (body : List TStmt) (clauses : List THandler) (last : Option (List TStmt)) → typed_act (kind.Try body clauses last) ≡ try_of ((map typed_stmt body, map typed_handler clauses), option_map (map typed_stmt) last)
act_try body clauses last = typed_act-Try body clauses last ∙ ap (tree.Try (typed_suite body) (handlers_of (map typed_handler clauses))) (last_same last)

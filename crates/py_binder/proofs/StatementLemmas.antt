-- What statements with bodies see, once their parts are seen.
use Rattle.std.proofs.Common.{◌≡◌, ℕ, ◌≤◌, List, ◌++◌, length, map, drop, Option, Some, None, Result, Ok, Err, OnOk, refl, ap, sym, ◌∙◌}
use Rattle.std.proofs.lemmas.List.{append-nil, append_assoc}
use Rattle.std.specs.Option.{option_map}
use Rattle.value_core.specs.declared.memory.Memory.{Memory}
use Rattle.py_syntax.specs.declared.expression.Expr.{Expr}
use Rattle.py_syntax.specs.declared.statement.Stmt.{Stmt}
use Rattle.py_syntax.specs.declared.statement.Handler.{Handler}
use Rattle.py_syntax.specs.declared.statement.StmtKind as kind
use Rattle.py_syntax.specs.Expressions.{expr_tree}
use Rattle.py_syntax.specs.Statements.{stmt_tree, stmt_node, body_tree, arms_of, arm_tree, handlers_of, handler_tree, maybe_suite}
use Rattle.py_syntax.proofs.StatementLemmas.{stmt_tree_at, stmt_node-If, stmt_node-While, stmt_node-For, stmt_node-Try}
use Rattle.py_binder.specs.declared.sight.Home.{Home}
use Rattle.py_binder.specs.declared.sight.Manner.TheVariants.{Value}
use Rattle.py_binder.specs.Sights.{Sight, reads, target_sights, stmt_sights, stmt_node_sights, suite_sights, arms_sights, handlers_sights, maybe_suite_sights}
use Rattle.py_binder.proofs.ReadLemmas.{row_end}

pub on_ok : {A : Type 0} {P Q : Type 0} (r : Result A Memory) → (P → Q) → OnOk r P → OnOk r Q
on_ok (Ok v) f h = f h
on_ok (Err e) f h = tt

module _ (h : Home) (s : Stmt) where
  seen_if : (arms : List (Expr × List Stmt)) (other : List Stmt) → s.kind ≡ kind.If arms other → stmt_sights h (stmt_tree s) ≡ arms_sights h (arms_of (map arm_tree arms)) ++ suite_sights h (body_tree other)
  seen_if arms other is =
      ap (stmt_sights h) (stmt_tree_at s) ∙ ap (λ k. stmt_node_sights h (stmt_node k) s.span) is ∙ ap (λ n. stmt_node_sights h n s.span) (stmt_node-If arms other)

  seen_while : (e : Expr) (body : List Stmt) → s.kind ≡ kind.While e body → stmt_sights h (stmt_tree s) ≡ reads Value (expr_tree e) ++ suite_sights h (body_tree body)
  seen_while e body is =
      ap (stmt_sights h) (stmt_tree_at s) ∙ ap (λ k. stmt_node_sights h (stmt_node k) s.span) is ∙ ap (λ n. stmt_node_sights h n s.span) (stmt_node-While e body)

  seen_for : (target e : Expr) (body : List Stmt) → s.kind ≡ kind.For target e body → stmt_sights h (stmt_tree s) ≡ target_sights (expr_tree target) ++ (reads Value (expr_tree e) ++ suite_sights h (body_tree body))
  seen_for target e body is =
      ap (stmt_sights h) (stmt_tree_at s) ∙ ap (λ k. stmt_node_sights h (stmt_node k) s.span) is ∙ ap (λ n. stmt_node_sights h n s.span) (stmt_node-For target e body)

  seen_try : (body : List Stmt) (handlers : List Handler) (last : Option (List Stmt)) → s.kind ≡ kind.Try body handlers last → stmt_sights h (stmt_tree s) ≡ suite_sights h (body_tree body) ++ (handlers_sights h (handlers_of (map handler_tree handlers)) ++ maybe_suite_sights h (maybe_suite (option_map body_tree last)))
  seen_try body handlers last is =
      ap (stmt_sights h) (stmt_tree_at s) ∙ ap (λ k. stmt_node_sights h (stmt_node k) s.span) is ∙ ap (λ n. stmt_node_sights h n s.span) (stmt_node-Try body handlers last)

  pub if_end : (arms arms2 : List (Expr × List Stmt)) (other other2 : List Stmt) → s.kind ≡ kind.If arms other → arms2 ≡ arms → other2 ≡ other → (i : ℕ) → length arms2 ≤ i → (f0 f1 f2 : List Sight) → f1 ++ arms_sights h (arms_of (map arm_tree (drop i arms2))) ≡ f0 ++ arms_sights h (arms_of (map arm_tree arms2)) → f2 ≡ f1 ++ suite_sights h (body_tree other2) → f2 ≡ f0 ++ stmt_sights h (stmt_tree s)
  if_end arms arms2 other other2 is a o i n f0 f1 f2 row last =
      last
      ∙ ap (λ l. l ++ suite_sights h (body_tree other2)) (row_end (λ l. arms_sights h (arms_of (map arm_tree l))) arms2 i n refl f0 f1 row)
      ∙ append_assoc f0 _ _
      ∙ ap (λ l. f0 ++ (arms_sights h (arms_of (map arm_tree l)) ++ suite_sights h (body_tree other2))) a
      ∙ ap (λ l. f0 ++ (arms_sights h (arms_of (map arm_tree arms)) ++ suite_sights h (body_tree l))) o
      ∙ ap (λ l. f0 ++ l) (sym (seen_if arms other is))

  pub while_end : (e : Expr) (body body2 : List Stmt) → s.kind ≡ kind.While e body → body2 ≡ body → (f0 f1 f2 : List Sight) → f1 ≡ f0 ++ reads Value (expr_tree e) → f2 ≡ f1 ++ suite_sights h (body_tree body2) → f2 ≡ f0 ++ stmt_sights h (stmt_tree s)
  while_end e body body2 is b f0 f1 f2 first last =
      last
      ∙ ap (λ l. l ++ suite_sights h (body_tree body2)) first
      ∙ append_assoc f0 _ _
      ∙ ap (λ l. f0 ++ (reads Value (expr_tree e) ++ suite_sights h (body_tree l))) b
      ∙ ap (λ l. f0 ++ l) (sym (seen_while e body is))

  pub for_end : (target e : Expr) (body body2 : List Stmt) → s.kind ≡ kind.For target e body → body2 ≡ body → (f0 f1 f2 f3 : List Sight) → f1 ≡ f0 ++ target_sights (expr_tree target) → f2 ≡ f1 ++ reads Value (expr_tree e) → f3 ≡ f2 ++ suite_sights h (body_tree body2) → f3 ≡ f0 ++ stmt_sights h (stmt_tree s)
  for_end target e body body2 is b f0 f1 f2 f3 first second last =
      last
      ∙ ap (λ l. l ++ suite_sights h (body_tree body2)) (second ∙ ap (λ l. l ++ reads Value (expr_tree e)) first)
      ∙ append_assoc (f0 ++ target_sights (expr_tree target)) _ _
      ∙ append_assoc f0 _ _
      ∙ ap (λ l. f0 ++ (target_sights (expr_tree target) ++ (reads Value (expr_tree e) ++ suite_sights h (body_tree l)))) b
      ∙ ap (λ l. f0 ++ l) (sym (seen_for target e body is))

  pub try_end : (body body2 : List Stmt) (handlers handlers2 : List Handler) (last : Option (List Stmt)) → s.kind ≡ kind.Try body handlers last → body2 ≡ body → handlers2 ≡ handlers → (f0 f1 f2 f3 : List Sight) → f1 ≡ f0 ++ suite_sights h (body_tree body2) → f2 ≡ f1 ++ handlers_sights h (handlers_of (map handler_tree handlers2)) → f3 ≡ f2 ++ maybe_suite_sights h (maybe_suite (option_map body_tree last)) → f3 ≡ f0 ++ stmt_sights h (stmt_tree s)
  try_end body body2 handlers handlers2 last is b k f0 f1 f2 f3 first second third =
      third
      ∙ ap (λ l. l ++ maybe_suite_sights h (maybe_suite (option_map body_tree last))) (second ∙ ap (λ l. l ++ handlers_sights h (handlers_of (map handler_tree handlers2))) first)
      ∙ append_assoc (f0 ++ suite_sights h (body_tree body2)) _ _
      ∙ append_assoc f0 _ _
      ∙ ap (λ l. f0 ++ (suite_sights h (body_tree l) ++ (handlers_sights h (handlers_of (map handler_tree handlers2)) ++ maybe_suite_sights h (maybe_suite (option_map body_tree last))))) b
      ∙ ap (λ l. f0 ++ (suite_sights h (body_tree body) ++ (handlers_sights h (handlers_of (map handler_tree l)) ++ maybe_suite_sights h (maybe_suite (option_map body_tree last))))) k
      ∙ ap (λ l. f0 ++ l) (sym (seen_try body handlers last is))

pub no_last : (h : Home) (last : Option (List Stmt)) → last ≡ None → (f : List Sight) → f ≡ f ++ maybe_suite_sights h (maybe_suite (option_map body_tree last))
no_last h last none f = sym (append-nil f) ∙ ap (λ o. f ++ maybe_suite_sights h (maybe_suite (option_map body_tree o))) (sym none)

pub some_last : (h : Home) (last : Option (List Stmt)) (body body2 : List Stmt) → last ≡ Some body → body2 ≡ body → (f g : List Sight) → g ≡ f ++ suite_sights h (body_tree body2) → g ≡ f ++ maybe_suite_sights h (maybe_suite (option_map body_tree last))
some_last h last body body2 some b f g e =
    e ∙ ap (λ l. f ++ suite_sights h (body_tree l)) b ∙ ap (λ o. f ++ maybe_suite_sights h (maybe_suite (option_map body_tree o))) (sym some)

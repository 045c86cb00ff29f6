-- The assignments in statements with bodies, once those of their parts are found.
use Rattle.std.proofs.Common.{◌≡◌, ◌≤◌, ◌∙◌, ℕ, zero, suc, List, [], ◌∷◌, ◌++◌, length, map, drop, Option, Some, None, Result, Ok, Err, IfOk, ap, sym, refl, arith}
use Rattle.std.proofs.lemmas.List.{append-nil, append_assoc}
use Rattle.std.specs.Option.{option_map}
use Rattle.value_core.specs.declared.memory.Memory.{Memory}
use Rattle.py_syntax.specs.declared.expression.Expr.{Expr}
use Rattle.py_syntax.specs.declared.statement.Stmt.{Stmt}
use Rattle.py_syntax.specs.declared.statement.Handler.{Handler}
use Rattle.py_syntax.specs.declared.statement.StmtKind.{StmtKind}
use Rattle.py_syntax.specs.declared.statement.StmtKind as kind
use Rattle.py_syntax.specs.Statements.{StmtTree, StmtNode, stmt_tree, stmt_node, body_tree, arms_of, arm_tree, handlers_of, handler_tree, maybe_suite}
use Rattle.py_syntax.proofs.StatementLemmas.{stmt_tree_at, stmt_node-If, stmt_node-Try}
use Rattle.py_check_members.specs.Deeds.{stmt_assignments, node_assignments, suite_assignments, arms_assignments, handlers_assignments, last_assignments}

pub if_ok : {A : Type 0} (r : Result A Memory) (P Q : A → Type 0) → ((x : A) → P x → Q x) → IfOk r P → IfOk r Q
if_ok (Ok x) P Q f h = f x h
if_ok (Err e) P Q f h = tt

nothing_left : {A : Type 0} (xs : List A) (i : ℕ) → length xs ≤ i → drop i xs ≡ []
nothing_left [] zero h = refl
nothing_left [] (suc i) h = refl
nothing_left (x ∷ xs) zero h = absurd (omega arith)
nothing_left (x ∷ xs) (suc i) h = nothing_left xs i (omega arith)

module _ (s : Stmt) where
  assignments_of_kind : (k : StmtKind) (node : StmtNode) → s.kind ≡ k → stmt_node k ≡ node → stmt_assignments (stmt_tree s) ≡ node_assignments node s.span
  assignments_of_kind k node is made = ap stmt_assignments (stmt_tree_at s) ∙ ap (λ j. node_assignments (stmt_node j) s.span) is ∙ ap (λ n. node_assignments n s.span) made

  pub if_end : (arms arms2 : List (Expr × List Stmt)) (other other2 : List Stmt) → s.kind ≡ kind.If arms other → arms2 ≡ arms → other2 ≡ other → (i : ℕ) → length arms2 ≤ i → (f0 f1 f2 : List StmtTree) → f1 ++ arms_assignments (arms_of (map arm_tree (drop i arms2))) ≡ f0 ++ arms_assignments (arms_of (map arm_tree arms2)) → f2 ≡ f1 ++ suite_assignments (body_tree other2) → f2 ≡ f0 ++ stmt_assignments (stmt_tree s)
  if_end arms arms2 other other2 is a o i n f0 f1 f2 row last =
      last
      ∙ ap (λ l. l ++ suite_assignments (body_tree other2)) (sym (append-nil f1) ∙ ap (λ l. f1 ++ arms_assignments (arms_of (map arm_tree l))) (sym (nothing_left arms2 i n)) ∙ row)
      ∙ append_assoc f0 _ _
      ∙ ap (λ l. f0 ++ (arms_assignments (arms_of (map arm_tree l)) ++ suite_assignments (body_tree other2))) a
      ∙ ap (λ l. f0 ++ (arms_assignments (arms_of (map arm_tree arms)) ++ suite_assignments (body_tree l))) o
      ∙ ap (λ l. f0 ++ l) (sym (assignments_of_kind _ _ is (stmt_node-If arms other)))

  pub try_end : (body body2 : List Stmt) (handlers handlers2 : List Handler) (last : Option (List Stmt)) → s.kind ≡ kind.Try body handlers last → body2 ≡ body → handlers2 ≡ handlers → (f0 f1 f2 f3 : List StmtTree) → f1 ≡ f0 ++ suite_assignments (body_tree body2) → f2 ≡ f1 ++ handlers_assignments (handlers_of (map handler_tree handlers2)) → f3 ≡ f2 ++ last_assignments (maybe_suite (option_map body_tree last)) → f3 ≡ f0 ++ stmt_assignments (stmt_tree s)
  try_end body body2 handlers handlers2 last is b k f0 f1 f2 f3 first second third =
      third
      ∙ ap (λ l. l ++ last_assignments (maybe_suite (option_map body_tree last))) (second ∙ ap (λ l. l ++ handlers_assignments (handlers_of (map handler_tree handlers2))) first)
      ∙ append_assoc (f0 ++ suite_assignments (body_tree body2)) _ _
      ∙ append_assoc f0 _ _
      ∙ ap (λ l. f0 ++ (suite_assignments (body_tree l) ++ (handlers_assignments (handlers_of (map handler_tree handlers2)) ++ last_assignments (maybe_suite (option_map body_tree last))))) b
      ∙ ap (λ l. f0 ++ (suite_assignments (body_tree body) ++ (handlers_assignments (handlers_of (map handler_tree l)) ++ last_assignments (maybe_suite (option_map body_tree last))))) k
      ∙ ap (λ l. f0 ++ l) (sym (assignments_of_kind _ _ is (stmt_node-Try body handlers last)))

pub no_last : (last : Option (List Stmt)) → last ≡ None → (f : List StmtTree) → f ≡ f ++ last_assignments (maybe_suite (option_map body_tree last))
no_last last none f = sym (append-nil f) ∙ ap (λ o. f ++ last_assignments (maybe_suite (option_map body_tree o))) (sym none)

pub some_last : (last : Option (List Stmt)) (body body2 : List Stmt) → last ≡ Some body → body2 ≡ body → (f g : List StmtTree) → g ≡ f ++ suite_assignments (body_tree body2) → g ≡ f ++ last_assignments (maybe_suite (option_map body_tree last))
some_last last body body2 some b f g e =
    e ∙ ap (λ l. f ++ suite_assignments (body_tree l)) b ∙ ap (λ o. f ++ last_assignments (maybe_suite (option_map body_tree o))) (sym some)

pub if_both : {A : Type 0} (r : Result A Memory) (P R Q : A → Type 0) → ((x : A) → P x → R x → Q x) → IfOk r P → IfOk r R → IfOk r Q
if_both (Ok x) P R Q f h i = f x h i
if_both (Err e) P R Q f h i = tt

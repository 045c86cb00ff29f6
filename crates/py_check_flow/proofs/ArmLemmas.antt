-- Of an `if`, by its arms.
use Rattle.std.proofs.Common.{◌≡◌, ◌≤◌, ◌<◌, ◌∙◌, ℕ, zero, suc, Bool, true, false, List, [], ◌∷◌, ◌&&◌, ◌||◌, length, map, drop, get_or, drop-cons, ap, sym, refl, arith}
use Rattle.py_syntax.specs.declared.expression.Expr.{Expr}
use Rattle.py_syntax.specs.declared.statement.Stmt.{Stmt}
use Rattle.py_syntax.specs.declared.statement.StmtKind.{If}
use Rattle.py_syntax.specs.Statements.{stmt_tree, stmt_node, body_tree, arms_of, arm_tree}
use Rattle.py_syntax.proofs.StatementLemmas.{stmt_tree_at, stmt_node-If}
use Rattle.py_check_flow.specs.Closed.{closes, closes_in, is_closed, closed_arms, breaks, breaks_in, breaks_suite, breaks_arms}

-- the arms of an `if` with their bodies
abbrev Bodies : Type 0
Bodies = List (Expr × List Stmt)

nothing_left : {A : Type 0} (xs : List A) (i : ℕ) → length xs ≤ i → drop i xs ≡ []
nothing_left [] zero h = refl
nothing_left [] (suc i) h = refl
nothing_left (x ∷ xs) zero h = absurd (omega arith)
nothing_left (x ∷ xs) (suc i) h = nothing_left xs i (omega arith)

module _ (s : Stmt) (arms : Bodies) (other : List Stmt) (is : s.kind ≡ If arms other) where
  closes_if : closes (stmt_tree s) ≡ closed_arms (arms_of (map arm_tree arms)) && is_closed (body_tree other)
  closes_if = ap closes (stmt_tree_at s) ∙ ap (λ k. closes_in (stmt_node k)) is ∙ ap closes_in (stmt_node-If arms other)

  breaks_if : breaks (stmt_tree s) ≡ breaks_arms (arms_of (map arm_tree arms)) || breaks_suite (body_tree other)
  breaks_if = ap breaks (stmt_tree_at s) ∙ ap (λ k. breaks_in (stmt_node k)) is ∙ ap breaks_in (stmt_node-If arms other)

  -- an arm whose body is open, and one with a break
  pub open_arm : (i : ℕ) (a : Expr × List Stmt) → i < length arms → a ≡ get_or arms i a → closed_arms (arms_of (map arm_tree (drop i arms))) ≡ closed_arms (arms_of (map arm_tree arms)) → is_closed (body_tree a.1) ≡ false → false ≡ closes (stmt_tree s)
  open_arm i a h at e f =
      sym
      (closes_if
      ∙ ap (λ b. b && is_closed (body_tree other))
      (sym e
      ∙ ap (λ l. closed_arms (arms_of (map arm_tree l))) (drop-cons arms i a h)
      ∙ ap (λ (b : Expr × List Stmt). is_closed (body_tree b.1) && closed_arms (arms_of (map arm_tree (drop (suc i) arms)))) (sym at)
      ∙ ap (λ b. b && closed_arms (arms_of (map arm_tree (drop (suc i) arms)))) f))

  pub arm_breaks : (i : ℕ) (a : Expr × List Stmt) → i < length arms → a ≡ get_or arms i a → breaks_arms (arms_of (map arm_tree (drop i arms))) ≡ breaks_arms (arms_of (map arm_tree arms)) → breaks_suite (body_tree a.1) ≡ true → true ≡ breaks (stmt_tree s)
  arm_breaks i a h at e f =
      sym
      (breaks_if
      ∙ ap (λ b. b || breaks_suite (body_tree other))
      (sym e
      ∙ ap (λ l. breaks_arms (arms_of (map arm_tree l))) (drop-cons arms i a h)
      ∙ ap (λ (b : Expr × List Stmt). breaks_suite (body_tree b.1) || breaks_arms (arms_of (map arm_tree (drop (suc i) arms)))) (sym at)
      ∙ ap (λ b. b || breaks_arms (arms_of (map arm_tree (drop (suc i) arms)))) f))

  -- behind all arms
  pub closes_by_else : (i : ℕ) → length arms ≤ i → closed_arms (arms_of (map arm_tree (drop i arms))) ≡ closed_arms (arms_of (map arm_tree arms)) → (r : Bool) → r ≡ is_closed (body_tree other) → r ≡ closes (stmt_tree s)
  closes_by_else i h e r found =
      found
      ∙ sym
      (closes_if
      ∙ ap (λ b. b && is_closed (body_tree other)) (sym e ∙ ap (λ l. closed_arms (arms_of (map arm_tree l))) (nothing_left arms i h)))

  pub breaks_by_else : (i : ℕ) → length arms ≤ i → breaks_arms (arms_of (map arm_tree (drop i arms))) ≡ breaks_arms (arms_of (map arm_tree arms)) → (r : Bool) → r ≡ breaks_suite (body_tree other) → r ≡ breaks (stmt_tree s)
  breaks_by_else i h e r found =
      found
      ∙ sym
      (breaks_if
      ∙ ap (λ b. b || breaks_suite (body_tree other)) (sym e ∙ ap (λ l. breaks_arms (arms_of (map arm_tree l))) (nothing_left arms i h)))

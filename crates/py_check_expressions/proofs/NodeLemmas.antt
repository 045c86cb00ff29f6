-- What a node says, from what its parts and its rule said.
use Rattle.std.proofs.Common.{◌≡◌, ℕ, true, false, if◌then◌else◌, List, Option, Some, Result, Ok, Err, IfOk, ap, sym, ◌∙◌, subst}
use Rattle.std.proofs.lemmas.List.{append-nil}
use Rattle.std.specs.Option.{option_map}
use Rattle.value_core.specs.declared.memory.Memory.{Memory}
use Rattle.std.specs.declared.boxed.Box.{Box}
use Rattle.std.specs.declared.alloc.Global.{Global}
use Rattle.py_syntax.specs.declared.token.Span.{Span}
use Rattle.py_syntax.specs.declared.expression.CmpOp.{CmpOp}
use Rattle.py_syntax.specs.declared.expression.Expr.{Expr}
use Rattle.py_syntax.specs.Expressions.{ExprNode, at, expr_tree, expr_node}
use Rattle.py_syntax.proofs.ExpressionLemmas.{expr_tree_at}
use Rattle.py_syntax_diagnostics.specs.declared.diagnostic.Diag.{Diag}
use Rattle.py_typed.specs.declared.expression.TExpr.{TExpr}
use Rattle.py_typed.specs.Classes.{ClassEntry}
use Rattle.py_typed.specs.Expressions.{TypedExpr}
use Rattle.py_check_context.specs.Context.{Context, VarSorts, Wanted, free}
use Rattle.py_check_messages.specs.Seen.{Seen, Tells, is, behind}
use Rattle.py_check_messages.proofs.RowLemmas.{behind_parts}
use Rattle.py_check_coercions.specs.Boxes.{boxed}
use Rattle.py_check_operators.specs.Chains.{chain_of}
use Rattle.py_check_calls.specs.Callees.{is_named_tree}
use Rattle.py_check_expressions.specs.Typing.{typing, node_typing, part, receiver}

if_ok : {X : Type 0} (r : Result X Memory) (P Q : X → Type 0) → ((x : X) → P x → Q x) → IfOk r P → IfOk r Q
if_ok (Ok x) P Q f h = f x h
if_ok (Err e) P Q f h = tt

-- ---- a node by its parts

pub leaf_says : {A X : Type 0} (v : X → A) (a : A) (r : Result (Option X) Memory) (o : List Diag) → IfOk r (λ x. option_map v x ≡ Some a) → IfOk r (λ x. Tells v x o o (is a))
leaf_says v a r o = if_ok r (λ x. option_map v x ≡ Some a) (λ x. Tells v x o o (is a)) (λ x h. (h, sym (append-nil o)))

pub one_says : {A B X Y : Type 0} (f : Option A → Seen B) (va : X → A) (vb : Y → B) (s : Seen A) (a : Option X) (r : Result (Option Y) Memory) (o0 o1 o2 : List Diag) → Tells va a o0 o1 s → IfOk r (λ x. Tells vb x o1 o2 (f (option_map va a))) → IfOk r (λ x. Tells vb x o0 o2 (behind s f))
one_says f va vb s a r o0 o1 o2 ta = if_ok r (λ x. Tells vb x o1 o2 (f (option_map va a))) (λ x. Tells vb x o0 o2 (behind s f)) (λ x h. behind_parts f va vb s a x o0 o1 o2 ta h)

-- ---- an expression by its node

module _ (C : Context) (V : VarSorts) (w : Wanted) (K : List ℕ) (e : Expr) where
  pub node_says : (n : ExprNode) (r : Result (Option (Box TExpr Global)) Memory) (old new : List Diag) → expr_tree e ≡ at n e.span → IfOk r (λ x. Tells boxed x old new (node_typing C V w K e.span n)) → IfOk r (λ x. Tells boxed x old new (typing C V w K (expr_tree e)))
  node_says n r old new is h = let P : Seen _ → Type 0 = λ s. IfOk r (λ x. Tells boxed x old new s) in subst P (ap (typing C V w K) (sym is)) h

  -- ---- a callee

  pub named_part : is_named_tree C (expr_tree e) ≡ true → part C V K (expr_tree e) ≡ receiver C V K (expr_node e.kind)
  named_part h =
      ap (part C V K) (expr_tree_at e)
      ∙ ap (λ b. if b then receiver C V K (expr_node e.kind) else node_typing C V free K e.span (expr_node e.kind)) (sym (ap (is_named_tree C) (expr_tree_at e)) ∙ h)

  pub value_part : is_named_tree C (expr_tree e) ≡ false → part C V K (expr_tree e) ≡ typing C V free K (expr_tree e)
  value_part h =
      ap (part C V K) (expr_tree_at e)
      ∙ ap (λ b. if b then receiver C V K (expr_node e.kind) else node_typing C V free K e.span (expr_node e.kind)) (sym (ap (is_named_tree C) (expr_tree_at e)) ∙ h)
      ∙ ap (typing C V free K) (sym (expr_tree_at e))

-- ---- a chain

-- by its operands, and by what is said of them
pub chain_says : (classes : List ClassEntry) (span : Span) (a b : Option TypedExpr) (ps qs : List (CmpOp × Option TypedExpr)) (l m : List Diag) (r : Result (Option (Box TExpr Global)) Memory) (old new : List Diag) → a ≡ b → ps ≡ qs → l ≡ m → IfOk r (λ x. Tells boxed x old new (chain_of classes span a ps l)) → IfOk r (λ x. Tells boxed x old new (chain_of classes span b qs m))
chain_says classes span a b ps qs l m r old new first more said h =
    let A : Option TypedExpr → Type 0 = λ o. IfOk r (λ x. Tells boxed x old new (chain_of classes span o ps l)) in
    let P : List (CmpOp × Option TypedExpr) → Type 0 = λ xs. IfOk r (λ x. Tells boxed x old new (chain_of classes span b xs l)) in
    let S : List Diag → Type 0 = λ xs. IfOk r (λ x. Tells boxed x old new (chain_of classes span b qs xs)) in
    subst S said (subst P more (subst A first h))

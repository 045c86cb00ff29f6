-- The number of nodes that a walk over an expression goes through, which falls from each node to its parts.
use Rattle.ir_builder_expressions.proofs.Common.{◌≡◌, ap, ℕ, ◌+◌, ◌-◌, ◌<◌, ◌≤◌, arith, List, [], ◌∷◌, length, map, take, drop, get_or, Option, Some, None, take_all, Bor, CmpOp, TExpr, TypedExpr, TypedNode, typed, Neg, Not, Truth, Arith, Concat, Compare, And, Or, Cond, ListOf, TupleOf, At, TupleAt, Call, Len, ToStr, Append, Pop, Coerce, TypedExprs, no_exprs, expr_then, Comparisons, no_comparisons, comparison_then, typed_expr, exprs_of, comparisons_of, typed_comparison}

abbrev mutual
  pub weight : TypedExpr → ℕ
  weight (typed e t place) = node_weight e

  pub node_weight : TypedNode → ℕ
  node_weight (Neg e) = weight e + 1
  node_weight (Not e) = weight e + 1
  node_weight (Truth e) = weight e + 1
  node_weight (Coerce e) = weight e + 1
  node_weight (Len e) = weight e + 1
  node_weight (ToStr e) = weight e + 1
  node_weight (Concat a b) = weight a + weight b + 1
  node_weight (At a b) = weight a + weight b + 1
  node_weight (Arith op a b) = weight a + weight b + 1
  node_weight (Compare e more) = weight e + chain_weight more + 1
  node_weight (And a b) = weight a + weight b + 1
  node_weight (Or a b) = weight a + weight b + 1
  node_weight (Cond a test b) = weight a + weight test + weight b + 1
  node_weight (ListOf es) = row_weight es + 1
  node_weight (TupleOf es) = row_weight es + 1
  node_weight (TupleAt e i) = weight e + 1
  node_weight (Append a b) = weight a + weight b + 1
  node_weight (Pop e) = weight e + 1
  node_weight (Call f es) = row_weight es + 1
  node_weight _ = 0

  pub row_weight : TypedExprs → ℕ
  row_weight no_exprs = 0
  row_weight (expr_then e more) = weight e + row_weight more

  pub chain_weight : Comparisons → ℕ
  chain_weight no_comparisons = 0
  chain_weight (comparison_then op e more) = weight e + chain_weight more

abbrev pub weight_of : TExpr → ℕ
weight_of e = weight (typed_expr e)

abbrev pub weight_of_all : List TExpr → ℕ
weight_of_all es = row_weight (exprs_of (map typed_expr es))

abbrev pub weight_of_chain : List (CmpOp × TExpr) → ℕ
weight_of_chain cs = chain_weight (comparisons_of (map typed_comparison cs))

-- one that may be missing
abbrev pub weight_of_arm : Option (Bor TExpr) → ℕ
weight_of_arm None = 0
weight_of_arm (Some e) = weight_of e.now

-- ---- members of a row and of a chain

pub member_weight : (es : List TExpr) (i : ℕ) (e : TExpr) → i < length es → e ≡ get_or es i e → weight_of e ≤ weight_of_all es
member_weight [] i e lt is = absurd (omega arith)
member_weight (a ∷ es) ℕ.zero e lt is = omega (arith, ap weight_of is)
member_weight (a ∷ es) (ℕ.suc i) e lt is = omega (arith, member_weight es i e (omega arith) is)

pub link_weight : (cs : List (CmpOp × TExpr)) (i : ℕ) (p : CmpOp × TExpr) → i < length cs → p ≡ get_or cs i p → weight_of p.1 ≤ weight_of_chain cs
link_weight [] i p lt is = absurd (omega arith)
link_weight (a ∷ cs) ℕ.zero p lt is = omega (arith, ap (λ (z : CmpOp × TExpr). weight_of z.1) is)
link_weight (a ∷ cs) (ℕ.suc i) p lt is = omega (arith, link_weight cs i p (omega arith) is)

rest_weight : (cs : List (CmpOp × TExpr)) → weight_of_chain (take (length cs - 1) (drop 1 cs)) ≤ weight_of_chain cs
rest_weight [] = omega arith
rest_weight (a ∷ cs) =
    let all : take (length (a ∷ cs) - 1) cs ≡ cs = take_all (length (a ∷ cs) - 1) cs (omega arith) in
    omega (arith, ap weight_of_chain all)

pub first_weight : (cs : List (CmpOp × TExpr)) (p : CmpOp × TExpr) → 1 ≤ length cs → weight_of (get_or cs 0 p).1 ≤ weight_of_chain cs
first_weight [] p n = absurd (omega arith)
first_weight (a ∷ cs) p n = omega arith

pub later_weight : (cs : List (CmpOp × TExpr)) (i : ℕ) (p : CmpOp × TExpr) → i < length (take (length cs - 1) (drop 1 cs)) → p ≡ get_or (take (length cs - 1) (drop 1 cs)) i p → weight_of p.1 ≤ weight_of_chain cs
later_weight cs i p lt is = omega (arith, link_weight (take (length cs - 1) (drop 1 cs)) i p lt is, rest_weight cs)

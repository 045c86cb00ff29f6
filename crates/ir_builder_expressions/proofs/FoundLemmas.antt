-- The operation that the program finds is the one that the expression's node is.
use Rattle.ir_builder_expressions.proofs.Common.{◌≡◌, refl, sym, ◌∙◌, ap, true, false, Option, Some, None, is_some, option_map, TExpr, TypedExpr, TypedNode, typed_expr, type_of, Comparisons, Compare, At, type_at, Unary, Binary, one, two, absence_in, applied_in, node_in, index_of}
use Rattle.py_typed.specs.Sorts.{sort as sort_of}
use Rattle.ir_builder_expressions.proofs.ArmLemmas.{Is}

pub one_found : (e : TExpr) (op : Unary) (n : TypedNode) (a p : TExpr) → Is e n → applied_in n ≡ Some (one op (typed_expr a)) → p ≡ a → Some (one op (typed_expr p)) ≡ applied_in (node_in (typed_expr e))
one_found e op n a p is at same = ap (λ z. Some (one op (typed_expr z))) same ∙ sym at ∙ ap applied_in (sym (ap node_in is))

pub two_found : (e : TExpr) (op : Binary) (n : TypedNode) (a b p q : TExpr) → Is e n → applied_in n ≡ Some (two op (typed_expr a) (typed_expr b)) → p ≡ a → q ≡ b → Some (two op (typed_expr p) (typed_expr q)) ≡ applied_in (node_in (typed_expr e))
two_found e op n a b p q is at same same' =
    ap (λ z. Some (two op (typed_expr z) (typed_expr q))) same ∙ ap (λ z. Some (two op (typed_expr a) (typed_expr z))) same' ∙ sym at ∙ ap applied_in (sym (ap node_in is))

-- where the operation is by the type of the part
pub index_found : (e : TExpr) (op : Binary) (a b p q r : TExpr) → Is e (At (typed_expr a) (typed_expr b)) → op ≡ index_of (sort_of p.ty) → p ≡ a → q ≡ a → r ≡ b → Some (two op (typed_expr q) (typed_expr r)) ≡ applied_in (node_in (typed_expr e))
index_found e op a b p q r is by same same' other =
    let op_is : op ≡ index_of (type_of (typed_expr a)) = by ∙ ap index_of (sym (type_at p) ∙ ap (λ (z : TExpr). type_of (typed_expr z)) same) in
    ap (λ z. Some (two z (typed_expr q) (typed_expr r))) op_is ∙ two_found e (index_of (type_of (typed_expr a))) (At (typed_expr a) (typed_expr b)) a b q r is refl same' other

-- where it is only asked whether a part is None
pub absence_found : (e : TExpr) (op : Unary) (more : Comparisons) (a p : TExpr) → Is e (Compare (typed_expr a) more) → absence_in more ≡ Some op → p ≡ a → Some (one op (typed_expr p)) ≡ applied_in (node_in (typed_expr e))
absence_found e op more a p is at same = one_found e op (Compare (typed_expr a) more) a p is (ap (option_map (λ z. one z (typed_expr a))) at) same

absence_whether : (e : TExpr) (more : Comparisons) (p : TypedExpr) (o : Option Unary) → Is e (Compare p more) → absence_in more ≡ o → is_some (applied_in (node_in (typed_expr e))) ≡ is_some (option_map (λ op. one op p) o)
absence_whether e more p o is at = ap (λ z. is_some (applied_in (node_in z))) is ∙ ap (λ z. is_some (option_map (λ op. one op p) z)) at

pub absence_there : (e : TExpr) (op : Unary) (more : Comparisons) (p : TypedExpr) → Is e (Compare p more) → absence_in more ≡ Some op → is_some (applied_in (node_in (typed_expr e))) ≡ true
absence_there e op more p is at = absence_whether e more p (Some op) is at

pub absence_missing : (e : TExpr) (more : Comparisons) (p : TypedExpr) → Is e (Compare p more) → absence_in more ≡ None → is_some (applied_in (node_in (typed_expr e))) ≡ true → ⊥
absence_missing e more p is at some = let f : false ≡ true = sym (absence_whether e more p None is at) ∙ some in absurd (cc)

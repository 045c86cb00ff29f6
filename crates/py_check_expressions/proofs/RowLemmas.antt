-- Expressions, operands and arguments in rows, from a place on.
use Rattle.std.proofs.Common.{◌≡◌, ◌<◌, ℕ, ◌+◌, zero, suc, List, [], ◌∷◌, Option, Some, None, length, map, drop, get_or, refl, ap, sym, ◌∙◌, drop-cons, add-one}
use Rattle.std.specs.Option.{option_map, option_zip}
use Rattle.py_syntax.specs.declared.expression.CmpOp.{CmpOp}
use Rattle.py_syntax.specs.declared.expression.Expr.{Expr}
use Rattle.py_syntax.specs.declared.expression.Arg.{Arg, out-Arg}
use Rattle.py_syntax.specs.Expressions.{ExprTree, ArgTree, Arguments, expr_tree, exprs_of, arg_tree, Comparisons, no_comparisons, comparison_then, comparison_tree, comparisons_of, entry_tree, entries_of, arguments_of, with_key}
use Rattle.py_syntax.proofs.ExpressionLemmas.{arg_tree_at}
use Rattle.py_syntax_diagnostics.specs.declared.diagnostic.Diag.{Diag}
use Rattle.py_check_context.specs.Context.{Context, VarSorts, Wanted, free, WantedRow, wanted_in}
use Rattle.py_check_messages.specs.Seen.{Seen, both, made}
use Rattle.py_check_messages.specs.Rows.{row_then, appended}
use Rattle.py_check_messages.proofs.RowLemmas.{Remains}
use Rattle.py_check_operators.specs.Chains.{all_typed}
use Rattle.py_check_expressions.specs.Typing.{typing, items, entries, operands, each_operand, arguments, count}

pub counted : (es : List Expr) → count (exprs_of (map expr_tree es)) ≡ length es
counted [] = refl
counted (e ∷ es) = ap suc (counted es)

-- ---- where a row begins

pub drop_none : {A : Type 0} (l : List A) → drop zero l ≡ l
drop_none [] = refl
drop_none (a ∷ l) = refl

nothing_before : {A : Type 0} (rest : Option (List A)) → rest ≡ appended (Some []) rest
nothing_before None = refl
nothing_before (Some l) = refl

-- nothing of it is looked at yet
pub row_starts : {A : Type 0} (front : Option (List A)) (old : List Diag) (whole : Seen (List A)) → front ≡ Some [] → Remains front old old whole whole
row_starts front old whole e = record { typed = nothing_before whole.got ∙ ap (λ f. appended f whole.got) (sym e); told = refl }

module _ (C : Context) (V : VarSorts) (K : List ℕ) where
  -- ---- items

  pub items_at : (row : WantedRow) (es : List Expr) (i : ℕ) (e : Expr) → i < length es → e ≡ get_or es i e → items C V row i K (exprs_of (map expr_tree (drop i es))) ≡ row_then (typing C V (wanted_in row i) K (expr_tree e)) (items C V row (i + 1) K (exprs_of (map expr_tree (drop (i + 1) es))))
  items_at row es i e h is =
      ap (λ l. items C V row i K (exprs_of (map expr_tree l))) (drop-cons es i e h)
      ∙ ap (λ (x : Expr). row_then (typing C V (wanted_in row i) K (expr_tree x)) (items C V row (suc i) K (exprs_of (map expr_tree (drop (suc i) es))))) (sym is)
      ∙ ap (λ k. row_then (typing C V (wanted_in row i) K (expr_tree e)) (items C V row k K (exprs_of (map expr_tree (drop k es))))) (sym (add-one i))

  -- ---- entries

  pub entries_at : (w v : Wanted) (es : List (Expr × Expr)) (i : ℕ) (p : Expr × Expr) → i < length es → p ≡ get_or es i p → entries C V w v K (entries_of (map entry_tree (drop i es))) ≡ row_then (both (typing C V w K (expr_tree p.0)) (typing C V v K (expr_tree p.1))) (entries C V w v K (entries_of (map entry_tree (drop (i + 1) es))))
  entries_at w v es i p h is =
      ap (λ l. entries C V w v K (entries_of (map entry_tree l))) (drop-cons es i p h)
      ∙ ap (λ (q : Expr × Expr). row_then (both (typing C V w K (expr_tree q.0)) (typing C V v K (expr_tree q.1))) (entries C V w v K (entries_of (map entry_tree (drop (suc i) es))))) (sym is)
      ∙ ap (λ k. row_then (both (typing C V w K (expr_tree p.0)) (typing C V v K (expr_tree p.1))) (entries C V w v K (entries_of (map entry_tree (drop k es))))) (sym (add-one i))

  -- ---- operands

  pub operands_at : (cs : List (CmpOp × Expr)) (i : ℕ) (p : CmpOp × Expr) → i < length cs → p ≡ get_or cs i p → operands C V K (comparisons_of (map comparison_tree (drop i cs))) ≡ row_then (made (λ t. (p.0, t)) (typing C V free K (expr_tree p.1))) (operands C V K (comparisons_of (map comparison_tree (drop (i + 1) cs))))
  operands_at cs i p h is =
      ap (λ l. operands C V K (comparisons_of (map comparison_tree l))) (drop-cons cs i p h)
      ∙ ap (λ (q : CmpOp × Expr). row_then (made (λ t. (q.0, t)) (typing C V free K (expr_tree q.1))) (operands C V K (comparisons_of (map comparison_tree (drop (suc i) cs))))) (sym is)
      ∙ ap (λ k. row_then (made (λ t. (p.0, t)) (typing C V free K (expr_tree p.1))) (operands C V K (comparisons_of (map comparison_tree (drop k cs))))) (sym (add-one i))

  pub each_at : (cs : List (CmpOp × Expr)) (i : ℕ) (p : CmpOp × Expr) → i < length cs → p ≡ get_or cs i p → each_operand C V K (comparisons_of (map comparison_tree (drop i cs))) ≡ (p.0, (typing C V free K (expr_tree p.1)).got) ∷ each_operand C V K (comparisons_of (map comparison_tree (drop (i + 1) cs)))
  each_at cs i p h is =
      ap (λ l. each_operand C V K (comparisons_of (map comparison_tree l))) (drop-cons cs i p h)
      ∙ ap (λ (q : CmpOp × Expr). (q.0, (typing C V free K (expr_tree q.1)).got) ∷ each_operand C V K (comparisons_of (map comparison_tree (drop (suc i) cs)))) (sym is)
      ∙ ap (λ k. (p.0, (typing C V free K (expr_tree p.1)).got) ∷ each_operand C V K (comparisons_of (map comparison_tree (drop k cs)))) (sym (add-one i))

  -- a row of operands is typed where each of them is
  pub operands_got : (cs : Comparisons) → (operands C V K cs).got ≡ all_typed (each_operand C V K cs)
  operands_got no_comparisons = refl
  operands_got (comparison_then o e more) = ap (λ r. option_map (λ q. q.0 ∷ q.1) (option_zip (option_map (λ b. (o, b)) (typing C V free K e).got) r)) (operands_got more)

  -- ---- arguments

  keyed : (row : WantedRow) (i : ℕ) (key : Option ExprTree) (e : ExprTree) (more : Arguments) → arguments C V row i K (with_key key e more) ≡ row_then (typing C V (wanted_in row i) K e) (arguments C V row (suc i) K more)
  keyed row i None e more = refl
  keyed row i (Some key) e more = refl

  pub arguments_at : (row : WantedRow) (args : List Arg) (i : ℕ) (a : Arg) → i < length args → a ≡ get_or args i a → arguments C V row i K (arguments_of (map arg_tree (drop i args))) ≡ row_then (typing C V (wanted_in row i) K (expr_tree (out-Arg a).value)) (arguments C V row (i + 1) K (arguments_of (map arg_tree (drop (i + 1) args))))
  arguments_at row args i a h is =
      let rest : ℕ → Arguments = λ k. arguments_of (map arg_tree (drop k args)) in
      ap (λ l. arguments C V row i K (arguments_of (map arg_tree l))) (drop-cons args i a h)
      ∙ ap (λ (b : Arg). arguments C V row i K (with_key (arg_tree b).key (arg_tree b).value (rest (suc i)))) (sym is)
      ∙ keyed row i (arg_tree a).key (arg_tree a).value (rest (suc i))
      ∙ ap (λ (x : ArgTree). row_then (typing C V (wanted_in row i) K x.value) (arguments C V row (suc i) K (rest (suc i)))) (arg_tree_at a)
      ∙ ap (λ k. row_then (typing C V (wanted_in row i) K (expr_tree (out-Arg a).value)) (arguments C V row k K (rest k))) (sym (add-one i))

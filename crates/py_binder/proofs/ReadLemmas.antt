-- What an expression with a row of parts reads, once the loop over them is done.
use Rattle.std.proofs.Common.{◌≡◌, ℕ, zero, suc, ◌≤◌, List, [], ◌∷◌, ◌++◌, length, map, drop, refl, ap, sym, ◌∙◌, arith}
use Rattle.std.proofs.lemmas.List.{append-nil, append_assoc}
use Rattle.std.specs.declared.boxed.Box.{Box}
use Rattle.std.specs.declared.alloc.Global.{Global}
use Rattle.py_syntax.specs.declared.expression.CmpOp.{CmpOp}
use Rattle.py_syntax.specs.declared.expression.Expr.{Expr}
use Rattle.py_syntax.specs.declared.expression.ExprKind as kind
use Rattle.py_syntax.specs.Expressions as tree
use Rattle.py_syntax.specs.Expressions.{expr_tree, comparisons_of, comparison_tree}
use Rattle.py_syntax.proofs.ExpressionLemmas.{expr_tree_at, expr_node-Compare}
use Rattle.py_binder.specs.declared.sight.Manner.{Manner}
use Rattle.py_binder.specs.Sights.{Sight, reads, node_reads, comparisons_reads}

pub nothing_left : {A : Type 0} (xs : List A) (i : ℕ) → length xs ≤ i → drop i xs ≡ []
nothing_left [] zero h = refl
nothing_left [] (suc i) h = refl
nothing_left (x ∷ xs) zero h = absurd (omega arith)
nothing_left (x ∷ xs) (suc i) h = nothing_left xs i (omega arith)

-- a loop that is done, by what is left of a row
pub row_end : {A B : Type 0} (f : List A → List B) (xs : List A) (i : ℕ) → length xs ≤ i → (f [] ≡ []) → (old new : List B) → new ++ f (drop i xs) ≡ old ++ f xs → new ≡ old ++ f xs
row_end f xs i n none old new e =
    sym (append-nil new) ∙ ap (λ l. new ++ l) (sym none) ∙ ap (λ l. new ++ f l) (sym (nothing_left xs i n)) ∙ e

reads_compare : (m : Manner) (e : Expr) (a : Box Expr Global) (cs : List (CmpOp × Expr)) → e.kind ≡ kind.Compare a cs → reads m (expr_tree e) ≡ reads m (expr_tree a.value) ++ comparisons_reads m (comparisons_of (map comparison_tree cs))
reads_compare m e a cs is =
    ap (reads m) (expr_tree_at e) ∙ ap (λ k. node_reads m (tree.expr_node k) e.span) is ∙ ap (λ n. node_reads m n e.span) (expr_node-Compare a cs)

pub compare_end : (m : Manner) (e : Expr) (a : Box Expr Global) (cs : List (CmpOp × Expr)) → e.kind ≡ kind.Compare a cs → (i : ℕ) → length cs ≤ i → (f0 f1 f2 : List Sight) → f1 ≡ f0 ++ reads m (expr_tree a.value) → f2 ++ comparisons_reads m (comparisons_of (map comparison_tree (drop i cs))) ≡ f1 ++ comparisons_reads m (comparisons_of (map comparison_tree cs)) → f2 ≡ f0 ++ reads m (expr_tree e)
compare_end m e a cs is i n f0 f1 f2 first row =
    row_end (λ l. comparisons_reads m (comparisons_of (map comparison_tree l))) cs i n refl f1 f2 row
    ∙ ap (λ l. l ++ comparisons_reads m (comparisons_of (map comparison_tree cs))) first
    ∙ append_assoc f0 _ _
    ∙ ap (λ l. f0 ++ l) (sym (reads_compare m e a cs is))

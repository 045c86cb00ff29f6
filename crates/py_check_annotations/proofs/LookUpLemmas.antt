-- Whether a name in an annotation is not known, part by part.
use Rattle.std.proofs.Common.{◌≡◌, ◌≤◌, ℕ, List, [], ◌++◌, length, drop, Bool, false, ◌||◌, Result, Ok, Err, IfOk, ap, sym, ◌∙◌}
use Rattle.std.proofs.lemmas.List.Folds.{list_any-append}
use Rattle.std.proofs.Math.Bool.{or-false, or_assoc}
use Rattle.value_core.specs.declared.memory.Memory.{Memory}
use Rattle.py_syntax.specs.declared.expression.Expr.{Expr}
use Rattle.py_syntax.specs.declared.expression.ExprKind.{ExprKind}
use Rattle.py_syntax.specs.Expressions.{ExprNode, expr_tree, expr_node}
use Rattle.py_syntax.proofs.ExpressionLemmas.{expr_tree_at}
use Rattle.py_binder.specs.Sights.{Sight, reads, node_reads}
use Rattle.py_binder.specs.declared.sight.Manner.TheVariants.{Annotation}
use Rattle.py_binder.proofs.ReadLemmas.{nothing_left}
use Rattle.py_check_context.specs.declared.scope.Meaning.{Meaning}
use Rattle.py_check_annotations.specs.Names.{any_unknown, unknown_there}

-- what a node reads, by its kind
pub reads_of : (e : Expr) (k : ExprKind) (node : ExprNode) → e.kind ≡ k → expr_node k ≡ node → reads Annotation (expr_tree e) ≡ node_reads Annotation node e.span
reads_of e k node is made =
    ap (reads Annotation) (expr_tree_at e) ∙ ap (λ j. node_reads Annotation (expr_node j) e.span) is ∙ ap (λ n. node_reads Annotation n e.span) made

-- a loop that is done, by what is left of a row
pub row_end : {A : Type 0} (f : List A → Bool) (xs : List A) (i : ℕ) → length xs ≤ i → f [] ≡ false → (old new : Bool) → (new || f (drop i xs)) ≡ (old || f xs) → new ≡ (old || f xs)
row_end f xs i n none old new e =
    sym (or-false new) ∙ ap (λ b. new || b) (sym none) ∙ ap (λ l. new || f l) (sym (nothing_left xs i n)) ∙ e

module _ (meanings : List ℕ → Meaning) where
  pub among_append : (xs ys : List Sight) → any_unknown meanings (xs ++ ys) ≡ (any_unknown meanings xs || any_unknown meanings ys)
  among_append xs ys = list_any-append (λ x. unknown_there meanings x.does) xs ys

  -- two parts, one behind the other
  pub joined : (f0 f1 f2 : Bool) (zs xs ys : List Sight) → zs ≡ xs ++ ys → f1 ≡ (f0 || any_unknown meanings xs) → f2 ≡ (f1 || any_unknown meanings ys) → f2 ≡ (f0 || any_unknown meanings zs)
  joined f0 f1 f2 zs xs ys is first second =
      second
      ∙ ap (λ b. b || any_unknown meanings ys) first
      ∙ or_assoc f0 (any_unknown meanings xs) (any_unknown meanings ys)
      ∙ ap (λ b. f0 || b) (sym (among_append xs ys))
      ∙ ap (λ s. f0 || any_unknown meanings s) (sym is)

  -- where the second may end for want of memory
  pub joined_ok : (r : Result (Unit {0}) Memory) (f0 f1 f2 : Bool) (zs xs ys : List Sight) → zs ≡ xs ++ ys → f1 ≡ (f0 || any_unknown meanings xs) → IfOk r (λ done. f2 ≡ (f1 || any_unknown meanings ys)) → IfOk r (λ done. f2 ≡ (f0 || any_unknown meanings zs))
  joined_ok (Ok u) f0 f1 f2 zs xs ys is first second = joined f0 f1 f2 zs xs ys is first second
  joined_ok (Err m) f0 f1 f2 zs xs ys is first second = tt

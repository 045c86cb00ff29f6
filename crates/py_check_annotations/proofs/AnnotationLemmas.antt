-- What annotations say, by their kinds, and a row of them from the front.
use Rattle.std.proofs.Common.{◌≡◌, ◌<◌, ◌+◌, ℕ, suc, Bool, false, List, length, get_or, map, drop, Option, Result, Ok, Err, IfOk, ap, sym, subst, ◌∙◌, add-one, drop-cons}
use Rattle.std.specs.Prelude.{if◌then◌else◌}
use Rattle.std.specs.declared.boxed.Box.{Box}
use Rattle.std.specs.declared.alloc.Global.{Global}
use Rattle.std.specs.Option.{option_map}
use Rattle.value_core.specs.declared.memory.Memory.{Memory}
use Rattle.py_syntax.specs.declared.token.Span.{Span}
use Rattle.py_syntax.specs.declared.expression.BinOp.{BinOp}
use Rattle.py_syntax.specs.declared.expression.Expr.{Expr}
use Rattle.py_syntax.specs.declared.expression.ExprKind.{ExprKind}
use Rattle.py_syntax.specs.declared.expression.ExprKind as kind
use Rattle.py_syntax.specs.Expressions.{ExprNode, at, Bin, Index, expr_tree, expr_node, exprs_of}
use Rattle.py_syntax.proofs.ExpressionLemmas.{expr_tree_at, expr_node-Bin, expr_node-Index, expr_node-Tuple}
use Rattle.py_syntax_diagnostics.specs.declared.diagnostic.Diag.{Diag}
use Rattle.py_typed.specs.declared.types.Ty.{Ty}
use Rattle.py_typed.specs.Sorts.{Sort, sort}
use Rattle.py_typed.specs.Fits.{optional}
use Rattle.py_check_context.specs.declared.scope.Meaning.{Meaning}
use Rattle.py_check_messages.specs.Seen.{Seen, Tells, made, ruled, rule}
use Rattle.py_check_messages.specs.Rows.{row_then}
use Rattle.py_check_messages.proofs.RowLemmas.{behind_parts}
use Rattle.py_check_annotations.specs.declared.names.Former.{Former}
use Rattle.py_check_annotations.specs.declared.annotations.Head.{Head}
use Rattle.py_check_annotations.specs.declared.annotations.Head.TheVariants.{Form, NoForm}
use Rattle.py_check_annotations.specs.Annotations.{annotation, type_by_form, items, parts, row, no_type, formed, application, head_named, name_of, may_be_type, is_or_none}

tree_of : (e : Expr) (k : ExprKind) (node : ExprNode) → e.kind ≡ k → expr_node k ≡ node → expr_tree e ≡ at node e.span
tree_of e k node is made = expr_tree_at e ∙ ap (λ j. at (expr_node j) e.span) is ∙ ap (λ n. at n e.span) made

second : {A : Type 0} (b : Bool) (x y : A) → b ≡ false → (if b then x else y) ≡ y
second b x y h = ap (λ c. if c then x else y) h

-- what is said of an annotation is what is said of one that is the same
pub says : (r : Result (Option Ty) Memory) (old new : List Diag) (s t : Seen Sort) → s ≡ t → IfOk r (λ x. Tells sort x old new t) → IfOk r (λ x. Tells sort x old new s)
says r old new s t e h = let P : Seen Sort → Type 0 = λ u. IfOk r (λ x. Tells sort x old new u) in subst P (sym e) h

module _ (meanings : List ℕ → Meaning) where
  of_no_form : (node : ExprNode) (span : Span) → may_be_type (at node span) ≡ false → annotation meanings (at node span) ≡ no_type meanings (at node span) span
  of_no_form node span h = second (may_be_type (at node span)) (type_by_form meanings node span) (no_type meanings (at node span) span) h

  pub not_a_type : (e : Expr) → may_be_type (expr_tree e) ≡ false → annotation meanings (expr_tree e) ≡ no_type meanings (expr_tree e) e.span
  not_a_type e h =
      ap (annotation meanings) (expr_tree_at e)
      ∙ of_no_form (expr_node e.kind) e.span (ap may_be_type (sym (expr_tree_at e)) ∙ h)
      ∙ ap (λ t. no_type meanings t e.span) (sym (expr_tree_at e))

  pub neither_none : (e : Expr) (op : BinOp) (a b : Box Expr Global) → e.kind ≡ kind.Bin op a b → is_or_none op (expr_tree b.value) ≡ false → is_or_none op (expr_tree a.value) ≡ false → annotation meanings (expr_tree e) ≡ no_type meanings (expr_tree e) e.span
  neither_none e op a b is hb ha =
      let whole : expr_tree e ≡ at (Bin op (expr_tree a.value) (expr_tree b.value)) e.span = tree_of e _ _ is (expr_node-Bin op a b) in
      let none : Seen Sort = no_type meanings (at (Bin op (expr_tree a.value) (expr_tree b.value)) e.span) e.span in
      ap (annotation meanings) whole
      ∙ second (is_or_none op (expr_tree b.value)) (made optional (annotation meanings (expr_tree a.value))) (if is_or_none op (expr_tree a.value) then made optional (annotation meanings (expr_tree b.value)) else none) hb
      ∙ second (is_or_none op (expr_tree a.value)) (made optional (annotation meanings (expr_tree b.value))) none ha
      ∙ ap (λ t. no_type meanings t e.span) (sym whole)

  at_brackets : (e : Expr) (head inside : Box Expr Global) (h : Head) → e.kind ≡ kind.Index head inside → head_named meanings (name_of (expr_tree head.value)) ≡ h → annotation meanings (expr_tree e) ≡ formed meanings h (expr_tree e) e.span (parts meanings (expr_tree inside.value))
  at_brackets e head inside h is named =
      let whole : expr_tree e ≡ at (Index (expr_tree head.value) (expr_tree inside.value)) e.span = tree_of e _ _ is (expr_node-Index head inside) in
      ap (annotation meanings) whole
      ∙ ap (λ f. formed meanings f (at (Index (expr_tree head.value) (expr_tree inside.value)) e.span) e.span (parts meanings (expr_tree inside.value))) named
      ∙ ap (λ t. formed meanings h t e.span (parts meanings (expr_tree inside.value))) (sym whole)

  pub no_form_at : (e : Expr) (head inside : Box Expr Global) → e.kind ≡ kind.Index head inside → head_named meanings (name_of (expr_tree head.value)) ≡ NoForm → annotation meanings (expr_tree e) ≡ no_type meanings (expr_tree e) e.span
  no_form_at e head inside is named = at_brackets e head inside NoForm is named

  pub form_at : (e : Expr) (head inside : Box Expr Global) (f : Former) → e.kind ≡ kind.Index head inside → head_named meanings (name_of (expr_tree head.value)) ≡ Form f → annotation meanings (expr_tree e) ≡ rule e.span (application f) (parts meanings (expr_tree inside.value))
  form_at e head inside f is named = at_brackets e head inside (Form f) is named

  pub form_says : (e : Expr) (head inside : Box Expr Global) (f : Former) → e.kind ≡ kind.Index head inside → head_named meanings (name_of (expr_tree head.value)) ≡ Form f → (types : Option (List Ty)) (r : Result (Option Ty) Memory) (o0 o1 o2 : List Diag) → Tells (map sort) types o0 o1 (parts meanings (expr_tree inside.value)) → IfOk r (λ t. Tells sort t o1 o2 (ruled e.span (application f) (option_map (map sort) types))) → IfOk r (λ t. Tells sort t o0 o2 (annotation meanings (expr_tree e)))
  form_says e head inside f is named types (Ok t) o0 o1 o2 first h =
      says (Ok t) o0 o2 (annotation meanings (expr_tree e)) (rule e.span (application f) (parts meanings (expr_tree inside.value))) (form_at e head inside f is named)
      (behind_parts (ruled e.span (application f)) (map sort) sort (parts meanings (expr_tree inside.value)) types t o0 o1 o2 first h)
  form_says e head inside f is named types (Err m) o0 o1 o2 first h = tt

  pub items_at : (e : Expr) (all : List Expr) → e.kind ≡ kind.Tuple all → items meanings (expr_tree e) ≡ row meanings (exprs_of (map expr_tree all))
  items_at e all is = ap (items meanings) (tree_of e _ _ is (expr_node-Tuple all))

  pub row_at : (all : List Expr) (i : ℕ) (e : Expr) → i < length all → e ≡ get_or all i e → row meanings (exprs_of (map expr_tree (drop i all))) ≡ row_then (annotation meanings (expr_tree e)) (row meanings (exprs_of (map expr_tree (drop (i + 1) all))))
  row_at all i e h is =
      ap (λ l. row meanings (exprs_of (map expr_tree l))) (drop-cons all i e h)
      ∙ ap (λ x. row_then (annotation meanings (expr_tree x)) (row meanings (exprs_of (map expr_tree (drop (suc i) all))))) (sym is)
      ∙ ap (λ k. row_then (annotation meanings (expr_tree e)) (row meanings (exprs_of (map expr_tree (drop k all))))) (sym (add-one i))

-- A target binds the names of its single targets, and what is bound has a type, or has none for good.
use Rattle.std.proofs.Common.{◌≡◌, ℕ, nat_lt, Bool, true, false, List, [], ◌∷◌, ◌++◌, length, map, Option, Some, None, refl, ap, ap₂, sym, ◌∙◌, ltb-true}
use Rattle.std.proofs.lemmas.Grind.{flat_map-append}
use Rattle.std.specs.List.{flat_map}
use Rattle.py_syntax.specs.declared.token.Span.{Span}
use Rattle.py_syntax.specs.Expressions as tree
use Rattle.py_syntax.specs.Expressions.{ExprTree, ExprNode, ExprTrees, at, no_exprs, expr_then}
use Rattle.py_typed.specs.Sorts.{Sort}
use Rattle.py_check_context.specs.declared.scope.Meaning.{Meaning}
use Rattle.py_check_context.specs.declared.scope.Meaning.TheVariants as meaning
use Rattle.py_check_context.specs.Context.{Context, VarSort, VarSorts, var_at}
use Rattle.py_check_flow.specs.Bindings.{Binding, bound, name_in, target_bindings, node_bindings, targets_bindings}
use Rattle.py_check_places.specs.Places.{Known, is_unset, fix, first_type, bind_variable, bind_name, bind_names}
use Rattle.py_check_places.specs.Shapes.{is_row, leaves, node_leaves, row_leaves, parts_for, bind_target}
use Rattle.py_check.specs.Fixed.{is_there}
use Rattle.py_check.proofs.Kept.{fix_set, fix_first, Follows, is_open}

-- ---- single targets

-- what is no tuple and no list is one target
pub leaves_one : (e : ExprTree) → is_row e ≡ false → leaves e ≡ e ∷ []
leaves_one (at (tree.TupleOf es) span) h = absurd (cc)
leaves_one (at (tree.ListOf es) span) h = absurd (cc)
leaves_one (at _ span) h = refl

pub name_no_row : (e : ExprTree) (x : List ℕ) → name_in e ≡ Some x → is_row e ≡ false
name_no_row (at (tree.TupleOf es) span) x h = absurd (cc)
name_no_row (at (tree.ListOf es) span) x h = absurd (cc)
name_no_row (at _ span) x h = refl

module _ (C : Context) where
  -- it is bound to the whole value
  pub single_bound : (ok : Bool) (k : Known) (target : ExprTree) (t : Option Sort) → is_row target ≡ false → bind_target C ok k target t ≡ bind_name C ok k (name_in target) t
  single_bound ok k target None h = ap (λ (l : List ExprTree). bind_names C ok k (map name_in l) []) (leaves_one target h)
  single_bound ok k target (Some t) h =
      ap (λ (l : List ExprTree). bind_names C ok k (map name_in l) (parts_for (is_row target) (length l) t)) (leaves_one target h)
      ∙ ap (λ (b : Bool). bind_names C ok k (name_in target ∷ []) (parts_for b 1 t)) h

-- ---- the names of targets

abbrev pub named : Option (List ℕ) → List Binding
named None = []
named (Some x) = bound x None

abbrev pub leaf_bindings : ExprTree → List Binding
leaf_bindings e = named (name_in e)

-- a target binds what its single targets do
mutual
  pub target_leaves : (e : ExprTree) → target_bindings e ≡ flat_map leaf_bindings (leaves e)
  target_leaves (at n span) = of_node span n

  of_node : (span : Span) (n : ExprNode) → node_bindings n ≡ flat_map leaf_bindings (node_leaves span n)
  of_node span (tree.TupleOf es) = of_row es
  of_node span (tree.ListOf es) = of_row es
  of_node span (tree.Name x) = refl
  of_node span _ = refl

  of_row : (es : ExprTrees) → targets_bindings es ≡ flat_map leaf_bindings (row_leaves es)
  of_row no_exprs = refl
  of_row (expr_then a more) = ap₂ (λ (x y : List Binding). x ++ y) (target_leaves a) (of_row more) ∙ sym (flat_map-append leaf_bindings (leaves a) (row_leaves more))

-- ---- variables that are bound

-- a binding keeps what is no longer open
pub open_follows : (V W : VarSorts) (m : Meaning) → Follows V W → is_open V m ≡ false → is_open W m ≡ false
open_follows V W (meaning.Local i) f h = ap is_unset (f.locals.stays i h) ∙ h
open_follows V W (meaning.Global i) f h = ap is_unset (f.globals.stays i h) ∙ h
open_follows V W _ f h = refl

pub type_set : (ok : Bool) (t : Option Sort) → is_unset (first_type ok t) ≡ false
type_set true (Some t) = refl
type_set true None = refl
type_set false t = refl

closed_fix : (types : List VarSort) (i : ℕ) (v : VarSort) → nat_lt i (length types) ≡ true → is_unset v ≡ false → is_unset (var_at (fix types i v) i) ≡ false
closed_fix types i v h q = by (is_unset (var_at types i)) refl
  where
    by : (b : Bool) → is_unset (var_at types i) ≡ b → is_unset (var_at (fix types i v) i) ≡ false
    by true e = ap is_unset (fix_first types i v (ltb-true i (length types) h) e) ∙ q
    by false e = ap (λ l. is_unset (var_at l i)) (fix_set types i v e) ∙ e

pub closed_variable : (ok : Bool) (k : Known) (m : Meaning) (t : Option Sort) → is_there k.types m ≡ true → is_open (bind_variable ok k m t).types m ≡ false
closed_variable ok k (meaning.Local i) t h = closed_fix k.types.locals i (first_type ok t) h (type_set ok t)
closed_variable ok k (meaning.Global i) t h = closed_fix k.types.globals i (first_type ok t) h (type_set ok t)
closed_variable ok k _ t h = refl

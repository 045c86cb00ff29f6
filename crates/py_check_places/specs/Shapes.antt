-- Which single targets stand in an expression, and which parts of a value they get (Python Language Reference, "Assignment
-- statements").
use Rattle.std.specs.Prelude.{ℕ, Bool, true, false, not, ◌&&◌, if◌then◌else◌, List, [], ◌∷◌, ◌++◌, map, length, Option, Some, None}
use Rattle.py_syntax.specs.declared.token.Span.{Span}
use Rattle.py_syntax.specs.Expressions as tree
use Rattle.py_syntax.specs.Expressions.{ExprTree, ExprNode, at, ExprTrees, no_exprs, expr_then}
use Rattle.py_typed.specs.Sorts.{Sort}
use Rattle.py_check_context.specs.Context.{Context}
use Rattle.py_check_flow.specs.Bindings.{name_in}
use Rattle.py_check_values.specs.Assignments.{items_for}
use Rattle.py_check_places.specs.Places.{Known, bind_names}

abbrev pub is_item : ExprTree → Bool
is_item (at (tree.Index e i) span) = true
is_item e = false

-- an item or an attribute
abbrev pub is_access : ExprTree → Bool
is_access (at (tree.Index e i) span) = true
is_access (at (tree.Attr e a) span) = true
is_access e = false

abbrev pub is_row : ExprTree → Bool
is_row (at (tree.TupleOf es) span) = true
is_row (at (tree.ListOf es) span) = true
is_row e = false

abbrev pub no_rows : ExprTrees → Bool
no_rows no_exprs = true
no_rows (expr_then e more) = not (is_row e) && no_rows more

-- no tuple in a tuple, and no list
abbrev pub is_flat : ExprTree → Bool
is_flat (at (tree.TupleOf es) span) = no_rows es
is_flat (at (tree.ListOf es) span) = false
is_flat e = true

abbrev mutual
  -- the single targets in it, at any depth
  pub leaves : ExprTree → List ExprTree
  leaves (at node span) = node_leaves span node

  pub node_leaves : Span → ExprNode → List ExprTree
  node_leaves span (tree.TupleOf es) = row_leaves es
  node_leaves span (tree.ListOf es) = row_leaves es
  node_leaves span node = at node span ∷ []

  pub row_leaves : ExprTrees → List ExprTree
  row_leaves no_exprs = []
  row_leaves (expr_then e more) = leaves e ++ row_leaves more

-- the name of each, where it is a name
abbrev pub target_names : ExprTree → List (Option (List ℕ))
target_names target = map name_in (leaves target)

-- the types of the parts of a value for so many targets, as far as there are such
abbrev pub some_parts : Option (List Sort) → List Sort
some_parts None = []
some_parts (Some ts) = ts

abbrev pub parts_for : Bool → ℕ → Sort → List Sort
parts_for several n t = if several then some_parts (items_for t n) else t ∷ []

abbrev pub parts_of : Bool → ℕ → Option Sort → List Sort
parts_of several n None = []
parts_of several n (Some t) = parts_for several n t

module _ (c : Context) where
  -- all names of a target are bound, whether the whole holds or is refused
  abbrev pub bind_target : Bool → Known → ExprTree → Option Sort → Known
  bind_target ok k target t =
      bind_names c ok k (target_names target) (parts_of (is_row target) (length (leaves target)) t)

-- The expressions that are not compiled, and the lines on which they stand. An expression stands on the line where it begins, so
-- what stands inside of one that is not compiled stands on no line before it.
use Rattle.std.specs.Prelude.{Bool, true, false, ◌&&◌, ◌||◌, if◌then◌else◌, is_some, List, [], ◌∷◌, ◌++◌}
use Rattle.py_typed.specs.Sorts as sort
use Rattle.py_typed.specs.Sorts.{Sort}
use Rattle.py_typed.specs.Expressions.{TypedExpr, typed, TypedNode, Int, Str, Flag, Nothing, Local, Global, Neg, Not, Truth, Arith, Concat, Compare, And, Or, Cond, ListOf, TupleOf, At, TupleAt, Call, Input, Len, ToStr, Append, Pop, Coerce, TypedExprs, no_exprs, expr_then, Comparisons, no_comparisons, comparison_then, type_of}
use Rattle.ir_builder_forms.specs.declared.form.Unbuilt.{Unbuilt}
use Rattle.ir_builder_operations.specs.Selecting.{is_arithmetic, is_whole}
use Rattle.ir_builder_comparisons.specs.Comparing.{is_ordering}
use Rattle.ir_builder_expressions.specs.Applying.{absence_in, is_counted}
use Rattle.ir_builder_expressions.specs.Parts.{is_bool, is_int, is_text, is_scalar, is_pair}
use Rattle.ir_builder_expressions.specs.Truths.{is_testable}
use Rattle.ir_builder_supported.specs.Forms.{is_value, is_result, unbuilt, node_form}

-- something, unless it is compiled; then what is not of its parts
abbrev pub or_parts : Bool → Unbuilt → List Unbuilt → List Unbuilt
or_parts compiled here parts = if compiled then parts else here ∷ []

-- each pair of a chain, behind an operand of a type, is compared as numbers or as texts
abbrev pub are_pairs : Sort → Comparisons → Bool
are_pairs s no_comparisons = true
are_pairs s (comparison_then op e more) = is_ordering op && (is_pair s (type_of e) && are_pairs (type_of e) more)

-- a part is only asked whether it is None: `is None` or `is not None` alone stands behind it
abbrev pub is_asked : Comparisons → Bool
is_asked more = is_some (absence_in more)

-- what stands behind a part of a type is compiled: of a part of any type it is asked whether it is None, and numbers, bools and texts
-- are compared
abbrev pub are_compared : Sort → Comparisons → Bool
are_compared s more = is_asked more || (is_scalar s && are_pairs s more)

-- the types of what has items that are read by an index
abbrev pub is_indexed : Sort → Bool
is_indexed sort.Str = true
is_indexed (sort.ListOf t) = true
is_indexed t = false

-- whether an expression of a type is of a form that is compiled, whatever its parts are
abbrev pub is_form : TypedNode → Sort → Bool
is_form (Int n) t = is_int t
is_form (Str text) t = is_text t
is_form (Flag b) t = is_bool t
is_form Nothing t = true
is_form (Local i) t = is_value t
is_form (Global i) t = is_value t
is_form (Neg e) t = is_whole t
is_form (Not e) t = is_bool t
is_form (Truth e) t = is_bool t && is_testable (type_of e)
is_form (Arith op a b) t = is_whole t && is_arithmetic op
is_form (Concat a b) t = is_text t
is_form (Compare e more) t = is_bool t && are_compared (type_of e) more
is_form (And a b) t = is_value t && is_testable t
is_form (Or a b) t = is_value t && is_testable t
is_form (Cond a test b) t = is_value t
is_form (ListOf es) t = is_value t
is_form (TupleOf es) t = is_value t
is_form (At a b) t = is_indexed (type_of a)
is_form (TupleAt e i) t = is_value t
is_form (Call f es) t = is_result t
is_form Input t = is_text t
is_form (Len e) t = is_counted (type_of e)
is_form (ToStr e) t = is_scalar (type_of e)
is_form (Append a b) t = is_value (type_of b)
is_form (Pop e) t = is_value t
is_form (Coerce e) t = is_value t
is_form e t = false

abbrev mutual
  pub expression_forms : TypedExpr → List Unbuilt
  expression_forms (typed e t place) = or_parts (is_form e t) (unbuilt place.line (node_form e t)) (part_forms e)

  pub part_forms : TypedNode → List Unbuilt
  part_forms (Neg e) = expression_forms e
  part_forms (Not e) = expression_forms e
  part_forms (Truth e) = expression_forms e
  part_forms (Arith op a b) = expression_forms a ++ expression_forms b
  part_forms (Concat a b) = expression_forms a ++ expression_forms b
  part_forms (Compare e more) = expression_forms e ++ chain_forms more
  part_forms (And a b) = expression_forms a ++ expression_forms b
  part_forms (Or a b) = expression_forms a ++ expression_forms b
  part_forms (Cond a test b) = expression_forms a ++ (expression_forms test ++ expression_forms b)
  part_forms (ListOf es) = row_forms es
  part_forms (TupleOf es) = row_forms es
  part_forms (At a b) = expression_forms a ++ expression_forms b
  part_forms (TupleAt e i) = expression_forms e
  part_forms (Call f es) = row_forms es
  part_forms (Len e) = expression_forms e
  part_forms (ToStr e) = expression_forms e
  part_forms (Append a b) = expression_forms a ++ expression_forms b
  part_forms (Pop e) = expression_forms e
  part_forms (Coerce e) = expression_forms e
  part_forms e = []

  pub row_forms : TypedExprs → List Unbuilt
  row_forms no_exprs = []
  row_forms (expr_then e more) = expression_forms e ++ row_forms more

  pub chain_forms : Comparisons → List Unbuilt
  chain_forms no_comparisons = []
  chain_forms (comparison_then op e more) = expression_forms e ++ chain_forms more

-- The types of variables where a module or a function begins (PEP 484).
--
-- A parameter has the type of its annotation; of two with one name the earlier one counts. Any other variable has the type of its
-- annotation, if it is annotated where it is first bound in the text, and else none yet. One whose annotation has no type has none
-- for good, nor has a parameter without annotation.
use Rattle.std.specs.Prelude.{ℕ, List, map, Option, Some, None}
use Rattle.std.specs.List.{zip}
use Rattle.std.specs.Map.{lookup}
use Rattle.std.specs.Str.{bytes_eq}
use Rattle.py_syntax.specs.Expressions.{ExprTree}
use Rattle.py_typed.specs.Sorts.{Sort}
use Rattle.py_check_context.specs.declared.scope.Meaning.{Meaning}
use Rattle.py_check_context.specs.Context.{VarSort, unset, untyped, has}
use Rattle.py_check_flow.specs.Bindings.{Binding}
use Rattle.py_check_annotations.specs.Annotations.{annotation}

abbrev pub given_sort : Option Sort → VarSort
given_sort None = untyped
given_sort (Some t) = has t

-- the annotation of the first binding of a name
abbrev pub with_mark : Binding → List ℕ × Option ExprTree
with_mark b = (b.name, b.mark)

abbrev pub first_mark : List Binding → List ℕ → Option (Option ExprTree)
first_mark bindings name = lookup (bytes_eq name) (map with_mark bindings)

abbrev pub by_mark : (List ℕ → Meaning) → Option (Option ExprTree) → VarSort
by_mark meanings (Some (Some mark)) = given_sort (annotation meanings mark).got
by_mark meanings _ = unset

-- of a variable that these statements bind
abbrev pub start_sort : (List ℕ → Meaning) → List Binding → List ℕ → VarSort
start_sort meanings bindings name = by_mark meanings (first_mark bindings name)

-- of a function's own variable, which may be a parameter
abbrev pub or_param : Option (Option Sort) → VarSort → VarSort
or_param None other = other
or_param (Some t) other = given_sort t

abbrev pub param_sort : List (List ℕ) → List (Option Sort) → List ℕ → Option (Option Sort)
param_sort names sorts name = lookup (bytes_eq name) (zip names sorts)

abbrev pub own_sort : (List ℕ → Meaning) → List Binding → List (List ℕ) → List (Option Sort) → List ℕ → VarSort
own_sort meanings bindings params sorts name = or_param (param_sort params sorts name) (start_sort meanings bindings name)

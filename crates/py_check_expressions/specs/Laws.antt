-- What holds of the typing of every expression.
use Rattle.std.specs.Prelude.{◌≡◌, ℕ, List, [], Some}
use Rattle.py_syntax.specs.Expressions.{ExprTree}
use Rattle.py_typed.specs.Expressions.{TypedExpr}
use Rattle.py_check_context.specs.Context.{Context, VarSorts, Wanted}
use Rattle.py_check_expressions.specs.Typing.{typing}

-- where an expression is typed, nothing is said of it and of its parts
abbrev pub TypedIsQuiet : Type 0
TypedIsQuiet =
    (c : Context) (vars : VarSorts) (w : Wanted) (known : List ℕ) (e : ExprTree) (t : TypedExpr) → (typing c vars w known e).got ≡ Some t → (typing c vars w known e).said ≡ []

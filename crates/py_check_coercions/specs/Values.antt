-- A typed value, changed to a type or to a truth value where it is not of that type.
use Rattle.std.specs.Prelude.{if◌then◌else◌}
use Rattle.py_syntax.specs.declared.token.Span.{Span}
use Rattle.py_typed.specs.Sorts.{Sort}
use Rattle.py_typed.specs.Sorts as sort
use Rattle.py_typed.specs.Expressions as node
use Rattle.py_typed.specs.Expressions.{TypedExpr, typed, type_of}
use Rattle.py_typed.specs.Fits.{is_same_type}
use Rattle.py_check_context.specs.Context.{Wanted, wants}

abbrev pub place_of : TypedExpr → Span
place_of (typed e t place) = place

abbrev pub coerced : Sort → TypedExpr → TypedExpr
coerced t e = if is_same_type (type_of e) t then e else typed (node.Coerce e) t (place_of e)

-- where a truth value is asked for
abbrev pub truth : TypedExpr → TypedExpr
truth e = if is_same_type (type_of e) sort.Bool then e else typed (node.Truth e) sort.Bool (place_of e)

-- where a value of a type is asked for
abbrev pub changed : Wanted → TypedExpr → TypedExpr
changed (wants t) e = coerced t e
changed w e = e

-- Returns (Python Language Reference, "The return statement"; PEP 484).
--
-- A `return` stands in a function. One that gives a value returns one that fits its return type, and the value is changed to
-- that type. One whose return type is None returns nothing, or the literal None. Where the return type is not known nothing is
-- said.
use Rattle.std.specs.Prelude.{List, Result, Ok, Err, if◌then◌else◌}
use Rattle.py_syntax.specs.declared.token.Span.{Span}
use Rattle.py_typed.specs.Sorts.{Sort, sort}
use Rattle.py_typed.specs.Classes.{ClassEntry}
use Rattle.py_typed.specs.Fits.{fits, is_nothing}
use Rattle.py_typed.specs.Expressions.{TypedExpr, type_of}
use Rattle.py_typed.specs.WellTypedExpr.{is_none_literal}
use Rattle.py_check_messages.specs.Seen.{Seen, Message, is, silent, fails, judged}
use Rattle.py_check_messages.specs.Messages.{return_outside, return_expected, no_return_expected, wrong_return}
use Rattle.py_check_coercions.specs.Values.{coerced}
use Rattle.py_check_values.specs.declared.returns.Returns.{Returns}
use Rattle.py_check_values.specs.declared.returns.Returns.TheVariants.{Outside, Untyped, Gives}

-- where a `return` stands: in no function, in one without a return type, or in one that gives a value of a type, which may be None
pub data ReturnSort : Type 0 where
  outside : ReturnSort
  untyped : ReturnSort
  gives : Sort → ReturnSort

abbrev pub return_sort : Returns → ReturnSort
return_sort Outside = outside
return_sort Untyped = untyped
return_sort (Gives t) = gives (sort t.now)

-- `return` alone
abbrev pub bare_return : Span → ReturnSort → Seen (Unit {0})
bare_return span outside = fails span return_outside
bare_return span untyped = silent
bare_return span (gives t) = if is_nothing t then is tt else fails span return_expected

-- a value where one of a type is due
abbrev pub due : List ClassEntry → Sort → TypedExpr → Result TypedExpr Message
due classes t e =
    if is_nothing t then (if is_none_literal e then Ok e else Err no_return_expected)
    else (if fits classes (type_of e) t then Ok (coerced t e) else Err (wrong_return classes (type_of e) t))

-- `return e`
abbrev pub value_return : List ClassEntry → Span → ReturnSort → TypedExpr → Seen TypedExpr
value_return classes span outside e = fails span return_outside
value_return classes span untyped e = silent
value_return classes span (gives t) e = judged span (due classes t e)

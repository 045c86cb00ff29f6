-- Calls of exception classes (Python Library Reference, "Built-in Exceptions"): an exception is made with a text or without one,
-- and has the class as its type.
use Rattle.std.specs.Prelude.{List, [], codes, Option, Some, None, Result, Ok, Err, if◌then◌else◌}
use Rattle.value_core.specs.declared.exception.ExcClass.{ExcClass}
use Rattle.value_core.specs.Exceptions.{class_name}
use Rattle.py_syntax.specs.declared.token.Span.{Span}
use Rattle.py_typed.specs.Sorts as sort
use Rattle.py_typed.specs.Classes.{ClassEntry}
use Rattle.py_typed.specs.Fits.{is_text}
use Rattle.py_typed.specs.Expressions as node
use Rattle.py_typed.specs.Expressions.{TypedExpr, typed, type_of}
use Rattle.py_check_messages.specs.Seen.{Message}
use Rattle.py_check_messages.specs.Messages.{wrong_number, wrong_argument}
use Rattle.py_check_calls.specs.Builtins.{the_only}

-- an exception of a class, with its text if it has one
abbrev pub exception_made : Span → ExcClass → Option TypedExpr → TypedExpr
exception_made span x text = typed (node.MakeExc x (node.maybe_expr text)) (sort.Exc x) span

-- of the one argument, if there is just one
abbrev pub exception_given : List ClassEntry → Span → ExcClass → Option TypedExpr → Result TypedExpr Message
exception_given classes span x None = Err (wrong_number (class_name x) (codes "0 or 1"))
exception_given classes span x (Some e) =
    if is_text (type_of e) then Ok (exception_made span x (Some e)) else Err (wrong_argument classes 1 (class_name x) (type_of e) (codes "str"))

abbrev pub exception_call : List ClassEntry → Span → ExcClass → List TypedExpr → Result TypedExpr Message
exception_call classes span x [] = Ok (exception_made span x None)
exception_call classes span x es = exception_given classes span x (the_only es)

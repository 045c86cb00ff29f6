-- Signs, `not` and arithmetic (Python Language Reference, "Unary arithmetic and bitwise operations", "Binary arithmetic
-- operations"; mypyc's guide, "Native integer types").
--
-- A number with a sign, and an operation on two numbers, is an i64 where an i64 is among them, else an int. Two texts are put
-- together by `+`. Operands of arithmetic keep their types.
use Rattle.std.specs.Prelude.{Bool, true, false, not, ◌&&◌, List, ℕ, codes, Result, Ok, Err, if◌then◌else◌}
use Rattle.py_syntax.specs.declared.token.Span.{Span}
use Rattle.py_syntax.specs.declared.expression.BinOp.{BinOp}
use Rattle.py_syntax.specs.declared.expression.BinOp.TheVariants.{Add, Sub, Mul, FloorDiv, Mod, Shl, Shr, Bar}
use Rattle.py_typed.specs.Sorts.{Sort}
use Rattle.py_typed.specs.Sorts as sort
use Rattle.py_typed.specs.Classes.{ClassEntry}
use Rattle.py_typed.specs.Fits.{is_number, number_join}
use Rattle.py_typed.specs.Expressions as node
use Rattle.py_typed.specs.Expressions.{TypedExpr, typed, type_of}
use Rattle.py_typed.specs.WellTypedExpr.{are_texts, are_numbers, is_bar}
use Rattle.py_check_messages.specs.Seen.{Message}
use Rattle.py_check_messages.specs.Messages.{unsupported_operand, unsupported_operands}
use Rattle.py_check_coercions.specs.Values.{coerced, truth}

-- the type of a number with a sign
abbrev pub signed : Sort → Sort
signed t = number_join t sort.Int

-- `-e`, and `+e`, which is e
abbrev pub negation : List ClassEntry → Span → TypedExpr → Result TypedExpr Message
negation classes span e =
    if is_number (type_of e) then Ok (typed (node.Neg e) (signed (type_of e)) span) else Err (unsupported_operand classes (codes "-") (type_of e))

abbrev pub affirmation : List ClassEntry → TypedExpr → Result TypedExpr Message
affirmation classes e =
    if is_number (type_of e) then Ok (coerced (signed (type_of e)) e) else Err (unsupported_operand classes (codes "+") (type_of e))

-- `not e`
abbrev pub inversion : Span → TypedExpr → TypedExpr
inversion span e = typed (node.Not (truth e)) sort.Bool span

abbrev pub op_text : BinOp → List ℕ
op_text Add = codes "+"
op_text Sub = codes "-"
op_text Mul = codes "*"
op_text FloorDiv = codes "//"
op_text Mod = codes "%"
op_text Shl = codes "<<"
op_text Shr = codes ">>"
op_text Bar = codes "|"

abbrev pub is_sum : BinOp → Bool
is_sum Add = true
is_sum o = false

abbrev pub is_concat : BinOp → Sort → Sort → Bool
is_concat o s t = is_sum o && are_texts s t

abbrev pub is_numeric : BinOp → Sort → Sort → Bool
is_numeric o s t = not (is_bar o) && are_numbers s t

-- `a o b`
abbrev pub arithmetic : List ClassEntry → Span → BinOp → TypedExpr × TypedExpr → Result TypedExpr Message
arithmetic classes span o p =
    if is_concat o (type_of p.0) (type_of p.1) then Ok (typed (node.Concat p.0 p.1) sort.Str span)
    else (if is_numeric o (type_of p.0) (type_of p.1) then Ok (typed (node.Arith o p.0 p.1) (number_join (type_of p.0) (type_of p.1)) span)
    else Err (unsupported_operands classes (op_text o) (type_of p.0) (type_of p.1)))

-- its type, from those of a and b
abbrev pub arithmetic_type : List ClassEntry → BinOp → Sort → Sort → Result Sort Message
arithmetic_type classes o s t =
    if is_concat o s t then Ok sort.Str
    else (if is_numeric o s t then Ok (number_join s t) else Err (unsupported_operands classes (op_text o) s t))

-- What operations on one or two parts do with their values, and what is asked of the types.
use Rattle.std.specs.Prelude.{◌≡◌, ◌<◌, Bool, true, false, not, Option, Some, None}
use Rattle.std.specs.Option.{option_map}
use Rattle.value_core.specs.Value.{Value, BoolVal, StrVal}
use Rattle.py_syntax.specs.declared.expression.BinOp.{BinOp}
use Rattle.py_syntax.specs.declared.expression.CmpOp.{CmpOp}
use Rattle.py_syntax.specs.declared.expression.CmpOp.TheVariants.{Is, IsNot}
use Rattle.py_typed.specs.Fits.{is_number}
use Rattle.py_typed.specs.Sorts as sort
use Rattle.py_typed.specs.Sorts.{Sort, Sorts}
use Rattle.py_typed.specs.Expressions.{TypedExpr, typed, typed_expr, TypedNode, Nothing, Neg, Not, Truth, Arith, Concat, Compare, At, TupleAt, Len, ToStr, Append, Pop, Coerce, Comparisons, no_comparisons, comparison_then, type_of}
use Rattle.source_meaning.specs.State.{Does, give, needs}
use Rattle.source_meaning.specs.Operations.{coerced, arithmetic, negated, joined, letter, has_text, text_of, length_of, append_item, is_none}
use Rattle.ir_builder_operations.specs.declared.operation.Operation.{Operation}
use Rattle.ir_builder_operations.specs.declared.operation.Operation.TheVariants.{IntArithmetic, NativeArithmetic, IntNegation, NativeNegation, Length, ListLength, TupleLength}
use Rattle.ir_builder_operations.specs.Taking.{item_as, popped_as, part_as}
use Rattle.ir_builder_operations.specs.Converting.{Converts}
use Rattle.ir_builder_operations.specs.Rows.{inverts, is_absent, list_length, tuple_length}
use Rattle.ir_builder_operations.specs.Selecting.{is_arithmetic, is_whole}
use Rattle.ir_builder_expressions.specs.declared.applying.Unary.{Unary}
use Rattle.ir_builder_expressions.specs.declared.applying.Unary.TheVariants.{Negated, Inverted, Tested, Counted, Written, Coerced, Popped, Part, Absent, Present}
use Rattle.ir_builder_expressions.specs.declared.applying.Binary.{Binary}
use Rattle.ir_builder_expressions.specs.declared.applying.Binary.TheVariants.{Arithmetic, Joined, Indexed, Item, Appended}
use Rattle.ir_builder_expressions.specs.declared.applying.Applied as program
use Rattle.ir_builder_expressions.specs.declared.applying.Applied.TheVariants.{One, Two}
use Rattle.ir_builder_expressions.specs.Parts.{is_scalar, part_sort}
use Rattle.ir_builder_expressions.specs.Truths.{is_testable, tested_as}

-- the number of the letters of a text, of the items of a list, or of the parts of a tuple
abbrev pub size_by : Sort → Value → Does Value
size_by (sort.ListOf t) v = list_length v
size_by (sort.TupleOf ts) v = tuple_length v
size_by t v = length_of v

-- whether a value is not None
abbrev pub is_present : Value → Does Value
is_present v = give (BoolVal (not (is_none v)))

-- with a result of the first type, on a value of the second; what is taken out of a list or a tuple is one of the first
abbrev pub unary_goes : Unary → Sort → Sort → Value → Does Value
unary_goes Negated t s v = negated t v
unary_goes Inverted t s v = inverts v
unary_goes Tested t s v = tested_as s v
unary_goes Counted t s v = size_by s v
unary_goes Written t s v = needs (has_text v) (give (StrVal (text_of v)))
unary_goes Coerced t s v = coerced t v
unary_goes Popped t s v = popped_as t v
unary_goes (Part i) t s v = part_as i t v
unary_goes Absent t s v = is_absent v
unary_goes Present t s v = is_present v

abbrev pub binary_goes : Binary → Sort → Value → Value → Does Value
binary_goes (Arithmetic op) t v w = arithmetic t op v w
binary_goes Joined t v w = joined v w
binary_goes Indexed t v w = letter v w
binary_goes Item t v w = item_as t v w
binary_goes Appended t v w = append_item v w

-- the types of values that have a size: texts, lists and tuples
abbrev pub is_counted : Sort → Bool
is_counted sort.Str = true
is_counted (sort.ListOf t) = true
is_counted (sort.TupleOf ts) = true
is_counted _ = false

-- the type of the result, and that of the part; of a part of any type it is asked whether it is None
abbrev pub UnarySuits : Unary → Sort → Sort → Type 0
UnarySuits Negated t s = (is_whole t ≡ true) × (is_number s ≡ true)
UnarySuits Inverted t s = (t ≡ sort.Bool) × (s ≡ sort.Bool)
UnarySuits Tested t s = (t ≡ sort.Bool) × (is_testable s ≡ true)
UnarySuits Counted t s = (t ≡ sort.Int) × (is_counted s ≡ true)
UnarySuits Written t s = (t ≡ sort.Str) × (is_scalar s ≡ true)
UnarySuits Coerced t s = Converts s t
UnarySuits Popped t s = s ≡ sort.ListOf t
UnarySuits (Part i) t s = (i < 17) × (ts : Sorts) × (s ≡ sort.TupleOf ts)
UnarySuits Absent t s = t ≡ sort.Bool
UnarySuits Present t s = t ≡ sort.Bool

abbrev pub BinarySuits : Binary → Sort → Sort → Sort → Type 0
BinarySuits (Arithmetic op) t s u = (is_whole t ≡ true) × (is_arithmetic op ≡ true) × (is_number s ≡ true) × (is_number u ≡ true)
BinarySuits Joined t s u = (t ≡ sort.Str) × (s ≡ sort.Str) × (u ≡ sort.Str)
BinarySuits Indexed t s u = (t ≡ sort.Str) × (s ≡ sort.Str) × (u ≡ sort.Int)
BinarySuits Item t s u = (s ≡ sort.ListOf t) × (u ≡ sort.Int)
BinarySuits Appended t s u = (t ≡ sort.Nothing) × (s ≡ sort.ListOf u)

-- the operation of an operator on numbers of a type, and of the other sign
abbrev pub arithmetic_of : Sort → BinOp → Operation
arithmetic_of sort.I64 op = NativeArithmetic op
arithmetic_of _ op = IntArithmetic op

abbrev pub negation_of : Sort → Operation
negation_of sort.I64 = NativeNegation
negation_of _ = IntNegation

-- the type of numbers that an `int` literal among the parts has at once, where it is one of native integers: that of the result, but for
-- what is taken out of a list or a tuple
abbrev pub wanted_one : Unary → Sort → Sort → Sort
wanted_one Popped t s = s
wanted_one (Part i) t s = s
wanted_one op t s = t

abbrev pub wanted_two : Binary → Sort → Sort → Sort
wanted_two Item t s = s
wanted_two op t s = t

-- the type of the register of the part, and those of both parts
abbrev pub one_sort : Unary → Sort → TypedExpr → Sort
one_sort op t e = part_sort (wanted_one op t (type_of e)) e

abbrev pub two_sort : Binary → Sort → TypedExpr → TypedExpr → Sort
two_sort op t a e = part_sort (wanted_two op t (type_of a)) e

-- the operation that counts, by the type of what has a size
abbrev pub counting_of : Sort → Operation
counting_of (sort.ListOf t) = ListLength
counting_of (sort.TupleOf ts) = TupleLength
counting_of _ = Length

-- ---- nodes that are such operations

-- what an index is of, by its type
abbrev pub index_of : Sort → Binary
index_of (sort.ListOf t) = Item
index_of _ = Indexed

-- an operation with its parts
pub data Applied : Type 0 where
  one : Unary → TypedExpr → Applied
  two : Binary → TypedExpr → TypedExpr → Applied

-- what an operator with None behind it asks of the part in front of it: `is`, whether the part is None, and `is not`, whether it is not
abbrev pub absence_of : CmpOp → Option Unary
absence_of Is = Some Absent
absence_of IsNot = Some Present
absence_of _ = None

-- the same, where what stands behind it is None as it is written
abbrev pub absence_by : CmpOp → TypedExpr → Option Unary
absence_by op (typed Nothing t place) = absence_of op
absence_by op e = None

-- what the comparisons behind a part ask of it, where they are `is None` or `is not None` alone
abbrev pub absence_in : Comparisons → Option Unary
absence_in (comparison_then op e no_comparisons) = absence_by op e
absence_in more = None

-- the operation that a node is, with its parts
abbrev pub applied_in : TypedNode → Option Applied
applied_in (Neg e) = Some (one Negated e)
applied_in (Not e) = Some (one Inverted e)
applied_in (Truth e) = Some (one Tested e)
applied_in (Len e) = Some (one Counted e)
applied_in (ToStr e) = Some (one Written e)
applied_in (Coerce e) = Some (one Coerced e)
applied_in (Pop e) = Some (one Popped e)
applied_in (TupleAt e i) = Some (one (Part i) e)
applied_in (Arith op a b) = Some (two (Arithmetic op) a b)
applied_in (Concat a b) = Some (two Joined a b)
applied_in (At a b) = Some (two (index_of (type_of a)) a b)
applied_in (Append a b) = Some (two Appended a b)
applied_in (Compare e more) = option_map (λ op. one op e) (absence_in more)
applied_in _ = None

abbrev pub node_in : TypedExpr → TypedNode
node_in (typed n t place) = n

-- what the program's operation with its parts stands for
abbrev pub seen : program.Applied → Applied
seen (One op e) = one op (typed_expr e.now)
seen (Two op a b) = two op (typed_expr a.now) (typed_expr b.now)

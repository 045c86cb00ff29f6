-- What a comparison of two values of one type and a truth are.
use Rattle.std.specs.Prelude.{ℕ, Bool, true, false, not, pos, [], Option, Some, None}
use Rattle.value_core.specs.Value.{Value, IntVal, StrVal}
use Rattle.py_syntax.specs.declared.expression.CmpOp.{CmpOp}
use Rattle.py_syntax.specs.declared.expression.CmpOp.TheVariants.{Eq, Ne, Lt, Le, Gt, Ge}
use Rattle.py_typed.specs.Sorts as sort
use Rattle.py_typed.specs.Sorts.{Sort}
use Rattle.source_meaning.specs.State.{Does}
use Rattle.source_meaning.specs.Operations.{is_equal, is_less, truth_of}
use Rattle.ir_core.specs.declared.code.RType.TheVariants as rtype
use Rattle.ir_builder_frames.specs.Building.{Building}
use Rattle.ir_builder_frames.specs.Computing.{Shows, Attempts}
use Rattle.ir_builder_operations.specs.declared.operation.Compared.{Compared}
use Rattle.ir_builder_operations.specs.declared.operation.Compared.TheVariants.{Ints, Natives, Texts}
use Rattle.ir_builder_operations.specs.Operating.{ActsOn, ActsOnTwo}
use Rattle.ir_builder_operations.specs.Rows.{compared_sort, as_value, compares}

-- the comparisons of two values: all but `in` and `is`, and their contraries
abbrev pub is_ordering : CmpOp → Bool
is_ordering Eq = true
is_ordering Ne = true
is_ordering Lt = true
is_ordering Le = true
is_ordering Gt = true
is_ordering Ge = true
is_ordering _ = false

-- whether one holds
abbrev pub ordered : CmpOp → Value → Value → Bool
ordered Eq v w = is_equal v w
ordered Ne v w = not (is_equal v w)
ordered Lt v w = is_less v w
ordered Le v w = not (is_less w v)
ordered Gt v w = is_less w v
ordered Ge v w = not (is_less v w)
ordered _ v w = false

-- a register tells it of the values in two registers
abbrev pub Compares : Compared → (Value → Value → Bool) → Building → Building → ℕ → ℕ → ℕ → Type 0
Compares c test old new r x y = Attempts (Shows sort.Bool) old new r rtype.Bool (ActsOnTwo (compared_sort c) (compared_sort c) x y (compares test))

-- ---- truths

-- the truth of a value, as a value
abbrev pub truth_as : Value → Does Value
truth_as v = as_value (truth_of v)

-- a register tells whether a value of a type in another register is true
abbrev pub FindsTruth : Building → Building → ℕ → ℕ → Sort → Type 0
FindsTruth old new x c t = Attempts (Shows sort.Bool) old new c rtype.Bool (ActsOn t x truth_as)

-- the values that differ from one are the true ones
abbrev pub false_of : Compared → Value
false_of Ints = IntVal (pos 0)
false_of Natives = IntVal (pos 0)
false_of Texts = StrVal []

-- how the truth of a value of a type is found by a comparison; that of a bool is itself
abbrev pub compared_of : Sort → Option Compared
compared_of sort.Int = Some Ints
compared_of sort.I64 = Some Natives
compared_of sort.Str = Some Texts
compared_of _ = None

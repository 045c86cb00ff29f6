-- The truth of a value by its type (Python Library Reference, "Truth Value Testing"), and the types whose values have one here.
use Rattle.std.specs.Prelude.{ℕ, Bool, true, false, if◌then◌else◌}
use Rattle.value_core.specs.Value.{Value}
use Rattle.py_typed.specs.Sorts as sort
use Rattle.py_typed.specs.Sorts.{Sort}
use Rattle.source_meaning.specs.State.{Does, ◌>>=◌, give}
use Rattle.source_meaning.specs.Operations.{truth_of, is_none, is_filled, with_list}
use Rattle.ir_core.specs.declared.code.RType.TheVariants as rtype
use Rattle.ir_builder_frames.specs.Building.{Building}
use Rattle.ir_builder_frames.specs.Computing.{Shows, Attempts}
use Rattle.ir_builder_operations.specs.Boxes.{taken_as}
use Rattle.ir_builder_operations.specs.Operating.{ActsOn}
use Rattle.ir_builder_operations.specs.Rows.{as_value}
use Rattle.ir_builder_expressions.specs.declared.truths.Testable.{Testable}
use Rattle.ir_builder_expressions.specs.declared.truths.Testable.TheVariants as testable

-- ---- the types

-- numbers, bools and texts, lists and tuples have a truth, and are never None
abbrev pub is_plain : Sort → Bool
is_plain sort.Int = true
is_plain sort.I64 = true
is_plain sort.Bool = true
is_plain sort.Str = true
is_plain (sort.ListOf t) = true
is_plain (sort.TupleOf ts) = true
is_plain _ = false

-- and so has what is one of these or None
abbrev pub is_testable : Sort → Bool
is_testable (sort.Optional t) = is_plain t
is_testable t = is_plain t

-- how the truth of what is never None is found
abbrev pub testable_of : Sort → Testable
testable_of (sort.ListOf t) = testable.List
testable_of (sort.TupleOf ts) = testable.Tuple
testable_of _ = testable.Scalar

-- ---- the truth

-- whether a list has items
abbrev pub has_items : Value → Does Bool
has_items l = with_list l (λ k vs. give (is_filled vs))

-- a list is true where it has items, and a tuple always; of what may be None, None is false, and anything else is as true as a value of
-- the type under it; of any other type a value is as true as it is by itself
abbrev pub truth_by : Sort → Value → Does Bool
truth_by (sort.ListOf t) v = has_items v
truth_by (sort.TupleOf ts) v = give true
truth_by (sort.Optional t) v = if is_none v then give false else taken_as t v >>= truth_by t
truth_by t v = truth_of v

-- the same as values
abbrev pub tested_as : Sort → Value → Does Value
tested_as t v = as_value (truth_by t v)

abbrev pub is_full : Value → Does Value
is_full l = as_value (has_items l)

-- that of an object as a value of a type
abbrev pub tested_inside : Sort → Value → Does Value
tested_inside t v = taken_as t v >>= tested_as t

-- a register tells it of a value of a type in another register
abbrev pub TellsTruth : Building → Building → ℕ → ℕ → Sort → Type 0
TellsTruth old new x c t = Attempts (Shows sort.Bool) old new c rtype.Bool (ActsOn t x (tested_as t))

-- The operations between types: from a number to another type of numbers, from a value to its text, from a value to an object.
use Rattle.std.specs.Prelude.{◌≡◌, Bool, true, false, List, Option, Some, None}
use Rattle.py_typed.specs.Classes.{ClassEntry}
use Rattle.py_typed.specs.Fits.{fits}
use Rattle.py_typed.specs.Sorts as sort
use Rattle.py_typed.specs.Sorts.{Sort}
use Rattle.ir_builder_operations.specs.declared.operation.Unboxed.{Unboxed}
use Rattle.ir_builder_operations.specs.declared.operation.Unboxed.TheVariants as unboxed
use Rattle.ir_builder_operations.specs.declared.operation.Operation.{Operation}
use Rattle.ir_builder_operations.specs.declared.operation.Operation.TheVariants.{IntText, NativeText, BoolText, BoolToInt, BoolToNative, NativeToInt, IntToNative}

-- a number or a bool of one type as one of another
abbrev pub coercion : Sort → Sort → Option Operation
coercion sort.Bool sort.Int = Some BoolToInt
coercion sort.Bool sort.I64 = Some BoolToNative
coercion sort.I64 sort.Int = Some NativeToInt
coercion sort.Int sort.I64 = Some IntToNative
coercion _ _ = None

-- the text of a value, where it is none itself
abbrev pub text_operation : Sort → Option Operation
text_operation sort.Int = Some IntText
text_operation sort.I64 = Some NativeText
text_operation sort.Bool = Some BoolText
text_operation _ = None

-- how values of a type are held that are no objects
abbrev pub unboxed_in : Sort → Option Unboxed
unboxed_in sort.Int = Some unboxed.Int
unboxed_in sort.I64 = Some unboxed.Native
unboxed_in sort.Bool = Some unboxed.Bool
unboxed_in _ = None

-- a type whose values may be None, and one under which no other such type stands at once
abbrev pub is_optional : Sort → Bool
is_optional (sort.Optional t) = true
is_optional _ = false

abbrev pub is_flat : Sort → Bool
is_flat (sort.Optional (sort.Optional t)) = false
is_flat t = true

-- a value of the first type fits the second, among some classes
abbrev pub Converts : Sort → Sort → Type 0
Converts s t = (classes : List ClassEntry) × (fits classes s t ≡ true) × (is_flat t ≡ true)

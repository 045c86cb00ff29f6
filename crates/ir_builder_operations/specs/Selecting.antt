-- Which operators and types there are operations for, and which primitive an operator or a test is made of.
use Rattle.std.specs.Prelude.{Bool, true, false}
use Rattle.c_core.specs.declared.primitive.Primitive.{Primitive}
use Rattle.c_core.specs.declared.primitive.Primitive.TheVariants as prim
use Rattle.c_core.specs.declared.primitive.Int64Prim.{Int64Prim}
use Rattle.c_core.specs.declared.primitive.Int64Prim.TheVariants as int64
use Rattle.c_core.specs.declared.primitive.TaggedPrim.{TaggedPrim}
use Rattle.c_core.specs.declared.primitive.TaggedPrim.TheVariants as tagged
use Rattle.c_core.specs.declared.primitive.StrPrim.TheVariants as str
use Rattle.py_syntax.specs.declared.expression.BinOp.{BinOp}
use Rattle.py_syntax.specs.declared.expression.BinOp.TheVariants.{Add, Sub, Mul, FloorDiv, Mod, Shl, Shr}
use Rattle.py_typed.specs.Sorts as sort
use Rattle.py_typed.specs.Sorts.{Sort}
use Rattle.ir_builder_operations.specs.declared.operation.Compared.{Compared}
use Rattle.ir_builder_operations.specs.declared.operation.Compared.TheVariants.{Ints, Natives, Texts}
use Rattle.ir_builder_operations.specs.declared.operation.Test.{Test}
use Rattle.ir_builder_operations.specs.declared.operation.Test.TheVariants.{Equal, Less, AtMost}

-- the operators of arithmetic
abbrev pub is_arithmetic : BinOp → Bool
is_arithmetic Add = true
is_arithmetic Sub = true
is_arithmetic Mul = true
is_arithmetic FloorDiv = true
is_arithmetic Mod = true
is_arithmetic Shl = true
is_arithmetic Shr = true
is_arithmetic _ = false

-- `int` and `i64`
abbrev pub is_whole : Sort → Bool
is_whole sort.Int = true
is_whole sort.I64 = true
is_whole _ = false

-- the primitive of an operator on two values of `int`; an operator that is none of arithmetic stands with `*`, and has no operation
abbrev pub int_primitive : BinOp → TaggedPrim
int_primitive Add = tagged.Add
int_primitive Sub = tagged.Subtract
int_primitive FloorDiv = tagged.FloorDivide
int_primitive Mod = tagged.Remainder
int_primitive Shl = tagged.Lshift
int_primitive Shr = tagged.Rshift
int_primitive _ = tagged.Multiply

-- the same for `i64`
abbrev pub native_primitive : BinOp → Int64Prim
native_primitive Add = int64.Add
native_primitive Sub = int64.Subtract
native_primitive FloorDiv = int64.FloorDivide
native_primitive Mod = int64.Remainder
native_primitive Shl = int64.Lshift
native_primitive Shr = int64.Rshift
native_primitive _ = int64.Multiply

-- the primitive of a test of two values of one type
abbrev pub test_primitive : Compared → Test → Primitive
test_primitive Ints Equal = prim.Tagged tagged.Eq
test_primitive Ints Less = prim.Tagged tagged.Lt
test_primitive Ints AtMost = prim.Tagged tagged.Le
test_primitive Natives Equal = prim.Int64 int64.Eq
test_primitive Natives Less = prim.Int64 int64.Lt
test_primitive Natives AtMost = prim.Int64 int64.Le
test_primitive Texts Equal = prim.Str str.Eq
test_primitive Texts Less = prim.Str str.Lt
test_primitive Texts AtMost = prim.Str str.Le

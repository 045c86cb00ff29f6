-- Values in registers for objects, of which a type says more.
use Rattle.std.specs.Prelude.{Bool, true, false, List, [], ◌∷◌, map, None}
use Rattle.value_core.specs.Arithmetic.{lies_within}
use Rattle.value_core.specs.Value.{Value, IntVal, BoolVal, NoneVal, StrVal}
use Rattle.ir_core.specs.declared.code.Reg.{Reg}
use Rattle.ir_core.specs.declared.code.Op.{Op}
use Rattle.ir_core.specs.declared.code.Op.TheVariants.{Prim}
use Rattle.ir_core.specs.declared.code.PArg.TheVariants.{Var}
use Rattle.c_core.specs.declared.primitive.Primitive.TheVariants as prim
use Rattle.c_core.specs.declared.primitive.ListPrim.TheVariants as list
use Rattle.py_typed.specs.Sorts as sort
use Rattle.py_typed.specs.Sorts.{Sort}
use Rattle.source_meaning.specs.State.{Does, give, needs}

-- the type that stands for all whose values are held as objects: a register of it may hold any value. No module has a list of nothing
-- but None; of all such types it is the one of which a register says nothing more
abbrev pub boxed : Sort
boxed = sort.ListOf sort.Nothing

-- whether a value is one of a type, as far as it is told here: a whole number, for an `i64` of 64 bits, a bool, a text, None, or what may be
-- None. Of all other types, whose values are objects of the store, tuples and exceptions, every value is one
abbrev pub is_of : Sort → Value → Bool
is_of sort.Int (IntVal n) = true
is_of sort.Int v = false
is_of sort.I64 (IntVal n) = lies_within 63 n
is_of sort.I64 v = false
is_of sort.Bool (BoolVal b) = true
is_of sort.Bool v = false
is_of sort.Str (StrVal text) = true
is_of sort.Str v = false
is_of sort.Nothing NoneVal = true
is_of sort.Nothing v = false
is_of (sort.Optional t) NoneVal = true
is_of (sort.Optional t) v = is_of t v
is_of t v = true

-- a value as one of a type, which it is in a well-typed module
abbrev pub taken_as : Sort → Value → Does Value
taken_as t v = needs (is_of t v) (give v)

-- whether a value may be the key of a dict: a whole number, a bool or a text
abbrev pub may_be_key : Value → Bool
may_be_key (IntVal n) = true
may_be_key (BoolVal b) = true
may_be_key (StrVal text) = true
may_be_key v = false

-- the types of registers that hold objects
abbrev pub objects : List Reg → List Sort
objects rs = map (λ r. boxed) rs

-- the operation that puts an object behind the items of a list
abbrev pub appends : Reg → Reg → Op
appends l r = Prim None (prim.List list.Append) (Var l ∷ Var r ∷ [])

-- Each operation that one primitive does: the types of its operands and of its result, its primitive, and what the source does with
-- the operands' values.
use Rattle.std.specs.Prelude.{Bool, true, not, if◌then◌else◌, ℤ, pos, negsuc, List, [], ◌∷◌, length, map, slice_get, codes}
use Rattle.value_core.specs.declared.exception.ExcClass.TheVariants.{RuntimeError}
use Rattle.value_core.specs.Value.{Value, BoolVal, NoneVal, StrVal, TupleVal, listed, ListObj, DictObj}
use Rattle.c_core.specs.declared.primitive.Primitive.{Primitive}
use Rattle.c_core.specs.declared.primitive.Primitive.TheVariants as prim
use Rattle.c_core.specs.declared.primitive.Int64Prim.TheVariants as int64
use Rattle.c_core.specs.declared.primitive.TaggedPrim.TheVariants as tagged
use Rattle.c_core.specs.declared.primitive.BoolPrim.TheVariants as bool
use Rattle.c_core.specs.declared.primitive.StrPrim.TheVariants as str
use Rattle.c_core.specs.declared.primitive.IoPrim.TheVariants as io
use Rattle.c_core.specs.declared.primitive.ListPrim.TheVariants as list
use Rattle.c_core.specs.declared.primitive.DictPrim.TheVariants as dict
use Rattle.c_core.specs.declared.primitive.ObjectPrim.TheVariants as object
use Rattle.c_core.specs.declared.primitive.TuplePrim.TheVariants as tuple
use Rattle.py_typed.specs.Sorts.{Sort, Int, I64, Bool as BoolSort, Str, Optional}
use Rattle.source_meaning.specs.State.{Does, ◌>>=◌, ◌>>◌, give, needs, sure, raise_new, look, make, stop, Stuck}
use Rattle.source_meaning.specs.Operations.{arithmetic, negated, coerced, is_equal, is_less, are_alike, truth_of, joined, length_of, letter, text_of, next_line, is_none, with_list, length_value, list_item, set_list_item, pop_item, is_same_number, counted, with_number, with_dict, dict_item, set_dict_item, delete_entry, has_key}
use Rattle.ir_builder_operations.specs.declared.operation.Operation.{Operation}
use Rattle.ir_builder_operations.specs.declared.operation.Operation.TheVariants.{IntArithmetic, NativeArithmetic, IntNegation, NativeNegation, Comparison, Inversion, Concatenation, Length, Letter, IntText, NativeText, BoolText, BoolToInt, BoolToNative, NativeToInt, IntToNative, Boxing, Unboxing, Absence, EmptyList, ListLength, TupleLength, Item, ItemChange, LastItem, EmptyDict, DictLength, DictItem, Deletion, Membership, SizeCheck, KeyAt, Line}
use Rattle.ir_builder_operations.specs.declared.operation.Unboxed.{Unboxed}
use Rattle.ir_builder_operations.specs.declared.operation.Unboxed.TheVariants as unboxed
use Rattle.ir_builder_operations.specs.declared.operation.Compared.{Compared}
use Rattle.ir_builder_operations.specs.declared.operation.Compared.TheVariants.{Ints, Natives, Texts}
use Rattle.ir_builder_operations.specs.declared.operation.Test.{Test}
use Rattle.ir_builder_operations.specs.declared.operation.Test.TheVariants.{Equal, Less, AtMost}
use Rattle.ir_builder_operations.specs.Boxes.{boxed, taken_as, may_be_key}
use Rattle.ir_builder_operations.specs.Selecting.{is_arithmetic, int_primitive, native_primitive, test_primitive}

-- an operator of arithmetic, where there is one
abbrev pub is_known : Operation → Bool
is_known (IntArithmetic op) = is_arithmetic op
is_known (NativeArithmetic op) = is_arithmetic op
is_known _ = true

-- the type of what is compared
abbrev pub compared_sort : Compared → Sort
compared_sort Ints = Int
compared_sort Natives = I64
compared_sort Texts = Str

-- the types whose values are no objects
abbrev pub unboxed_sort : Unboxed → Sort
unboxed_sort unboxed.Int = Int
unboxed_sort unboxed.Native = I64
unboxed_sort unboxed.Bool = BoolSort

abbrev pub operands_of : Operation → List Sort
operands_of (IntArithmetic op) = Int ∷ Int ∷ []
operands_of (NativeArithmetic op) = I64 ∷ I64 ∷ []
operands_of IntNegation = Int ∷ []
operands_of NativeNegation = I64 ∷ []
operands_of (Comparison c test) = compared_sort c ∷ compared_sort c ∷ []
operands_of Inversion = BoolSort ∷ []
operands_of Concatenation = Str ∷ Str ∷ []
operands_of Length = Str ∷ []
operands_of Letter = Str ∷ Int ∷ []
operands_of IntText = Int ∷ []
operands_of NativeText = I64 ∷ []
operands_of BoolText = BoolSort ∷ []
operands_of BoolToInt = BoolSort ∷ []
operands_of BoolToNative = BoolSort ∷ []
operands_of NativeToInt = I64 ∷ []
operands_of IntToNative = Int ∷ []
operands_of (Boxing u) = unboxed_sort u ∷ []
operands_of (Unboxing u) = boxed ∷ []
operands_of Absence = boxed ∷ []
operands_of EmptyList = []
operands_of ListLength = boxed ∷ []
operands_of TupleLength = boxed ∷ []
operands_of Item = boxed ∷ Int ∷ []
operands_of ItemChange = boxed ∷ Int ∷ boxed ∷ []
operands_of LastItem = boxed ∷ []
operands_of EmptyDict = []
operands_of DictLength = boxed ∷ []
operands_of DictItem = boxed ∷ boxed ∷ []
operands_of Deletion = boxed ∷ boxed ∷ []
operands_of Membership = boxed ∷ boxed ∷ []
operands_of SizeCheck = boxed ∷ Int ∷ []
operands_of KeyAt = boxed ∷ Int ∷ []
operands_of Line = []

abbrev pub result_of : Operation → Sort
result_of (IntArithmetic op) = Int
result_of (NativeArithmetic op) = I64
result_of IntNegation = Int
result_of NativeNegation = I64
result_of (Comparison c test) = BoolSort
result_of Inversion = BoolSort
result_of Length = Int
result_of BoolToInt = Int
result_of BoolToNative = I64
result_of NativeToInt = Int
result_of IntToNative = I64
result_of (Boxing u) = Optional (unboxed_sort u)
result_of (Unboxing u) = unboxed_sort u
result_of Absence = BoolSort
result_of EmptyList = boxed
result_of ListLength = Int
result_of TupleLength = Int
result_of Item = boxed
result_of ItemChange = BoolSort
result_of LastItem = boxed
result_of EmptyDict = boxed
result_of DictLength = Int
result_of DictItem = boxed
result_of Deletion = BoolSort
result_of Membership = BoolSort
result_of SizeCheck = BoolSort
result_of KeyAt = boxed
result_of _ = Str

-- the primitive that makes an object of a value, and the one that takes it out again
abbrev pub box_primitive : Unboxed → Primitive
box_primitive unboxed.Int = prim.Tagged tagged.Box
box_primitive unboxed.Native = prim.Int64 int64.Box
box_primitive unboxed.Bool = prim.Bool bool.Box

abbrev pub unbox_primitive : Unboxed → Primitive
unbox_primitive unboxed.Int = prim.Tagged tagged.Unbox
unbox_primitive unboxed.Native = prim.Int64 int64.Unbox
unbox_primitive unboxed.Bool = prim.Bool bool.Unbox

abbrev pub primitive_of : Operation → Primitive
primitive_of (IntArithmetic op) = prim.Tagged (int_primitive op)
primitive_of (NativeArithmetic op) = prim.Int64 (native_primitive op)
primitive_of IntNegation = prim.Tagged tagged.Negate
primitive_of NativeNegation = prim.Int64 int64.Negate
primitive_of (Comparison c test) = test_primitive c test
primitive_of Inversion = prim.Bool bool.Not
primitive_of Concatenation = prim.Str str.Concat
primitive_of Length = prim.Str str.Len
primitive_of Letter = prim.Str str.GetItem
primitive_of IntText = prim.Tagged tagged.Str
primitive_of NativeText = prim.Int64 int64.Str
primitive_of BoolText = prim.Bool bool.Str
primitive_of BoolToInt = prim.Tagged tagged.FromBool
primitive_of BoolToNative = prim.Int64 int64.FromBool
primitive_of NativeToInt = prim.Tagged tagged.FromInt64
primitive_of IntToNative = prim.Tagged tagged.AsInt64
primitive_of (Boxing u) = box_primitive u
primitive_of (Unboxing u) = unbox_primitive u
primitive_of Absence = prim.Object object.IsNone
primitive_of EmptyList = prim.List list.New
primitive_of ListLength = prim.List list.Len
primitive_of TupleLength = prim.Tuple tuple.Len
primitive_of Item = prim.List list.GetItem
primitive_of ItemChange = prim.List list.SetItem
primitive_of LastItem = prim.List list.Pop
primitive_of EmptyDict = prim.Dict dict.New
primitive_of DictLength = prim.Dict dict.Len
primitive_of DictItem = prim.Dict dict.GetItem
primitive_of Deletion = prim.Dict dict.DelItem
primitive_of Membership = prim.Dict dict.Contains
primitive_of SizeCheck = prim.Dict dict.CheckSize
primitive_of KeyAt = prim.Dict dict.KeyAt
primitive_of Line = prim.Io io.Input

-- ---- what the source does with no value, with one, with two, and with three

abbrev pub of_none : Does Value → List Value → Does Value
of_none go [] = go
of_none go _ = stop Stuck

abbrev pub of_one : (Value → Does Value) → List Value → Does Value
of_one go (v ∷ []) = go v
of_one go _ = stop Stuck

abbrev pub of_two : (Value → Value → Does Value) → List Value → Does Value
of_two go (v ∷ w ∷ []) = go v w
of_two go _ = stop Stuck

abbrev pub of_three : (Value → Value → Value → Does Value) → List Value → Does Value
of_three go (u ∷ v ∷ w ∷ []) = go u v w
of_three go _ = stop Stuck

-- the text of a value
abbrev pub written : Value → Does Value
written v = give (StrVal (text_of v))

-- whether a test of two values of one type holds
abbrev pub tested : Test → Value → Value → Bool
tested Equal v w = is_equal v w
tested Less v w = is_less v w
tested AtMost v w = not (is_less w v)

-- a truth as a value
abbrev pub as_value : Does Bool → Does Value
as_value d = d >>= λ h. give (BoolVal h)

-- two values that may be compared are, as each stands
abbrev pub compares : (Value → Value → Bool) → Value → Value → Does Value
compares test v w = as_value (needs (are_alike v w) (give (test v w)))

-- the other truth
abbrev pub inverts : Value → Does Value
inverts v = truth_of v >>= λ h. give (BoolVal (not h))

-- the number of the items of a list, and of the parts of a tuple
abbrev pub list_length : Value → Does Value
list_length l = with_list l (λ k vs. give (length_value (length vs)))

abbrev pub tuple_length : Value → Does Value
tuple_length (TupleVal parts) = give (length_value (length (listed parts)))
tuple_length _ = stop Stuck

-- whether a value is None
abbrev pub is_absent : Value → Does Value
is_absent v = give (BoolVal (is_none v))

-- a new item in the place of an old one
abbrev pub item_changed : Value → Value → Value → Does Value
item_changed l i v = set_list_item l i v >> give (BoolVal true)

-- the number of the pairs of a dict
abbrev pub dict_length : Value → Does Value
dict_length d = with_dict d (λ k ps. give (length_value (length ps)))

-- what is done with a dict and a key, where that is a value that keys may be, as it is in a well-typed module
abbrev pub keyed : (Value → Value → Does Value) → Value → Value → Does Value
keyed go d key = needs (may_be_key key) (go d key)

-- the pair of a key, taken out
abbrev pub entry_deleted : Value → Value → Does Value
entry_deleted d key = delete_entry d key >> give (BoolVal true)

-- a value under a key; it gives None, as no value is asked for
abbrev pub entry_put : Value → Value → Value → Does Value
entry_put d key v = needs (may_be_key key) (set_dict_item d key v >> give NoneVal)

-- whether a dict has a key
abbrev pub key_found : Value → Value → Does Value
key_found d key = as_value (has_key d key)

-- a dict has as many pairs as a number says, as a loop over its keys asks
abbrev pub if_same_size : Bool → Does Value
if_same_size b = if b then give (BoolVal true) else raise_new RuntimeError (codes "dictionary changed size during iteration")

abbrev pub size_checked : Value → Value → Does Value
size_checked d size = with_number size (λ n. with_dict d (λ k ps. if_same_size (is_same_number (pos (counted (length ps))) n)))

-- the key of the pair at a place, from 0
abbrev pub key_of_pair : ℤ → List (Value × Value) → Does Value
key_of_pair (pos i) ps = sure (slice_get (map (λ p. p.0) ps) i)
key_of_pair (negsuc i) ps = stop Stuck

abbrev pub key_there : Value → Value → Does Value
key_there d i = with_number i (λ n. with_dict d (λ k ps. key_of_pair n ps))

abbrev pub goes : Operation → List Value → Does Value
goes (IntArithmetic op) = of_two (arithmetic Int op)
goes (NativeArithmetic op) = of_two (arithmetic I64 op)
goes IntNegation = of_one (negated Int)
goes NativeNegation = of_one (negated I64)
goes (Comparison c test) = of_two (compares (tested test))
goes Inversion = of_one inverts
goes Concatenation = of_two joined
goes Length = of_one length_of
goes Letter = of_two letter
goes IntText = of_one written
goes NativeText = of_one written
goes BoolText = of_one written
goes BoolToInt = of_one (coerced Int)
goes BoolToNative = of_one (coerced I64)
goes NativeToInt = of_one (coerced Int)
goes IntToNative = of_one (coerced I64)
goes (Boxing u) = of_one give
goes (Unboxing u) = of_one (taken_as (unboxed_sort u))
goes Absence = of_one is_absent
goes EmptyList = of_none (make (ListObj []))
goes ListLength = of_one list_length
goes TupleLength = of_one tuple_length
goes Item = of_two list_item
goes ItemChange = of_three item_changed
goes LastItem = of_one pop_item
goes EmptyDict = of_none (make (DictObj []))
goes DictLength = of_one dict_length
goes DictItem = of_two (keyed dict_item)
goes Deletion = of_two (keyed entry_deleted)
goes Membership = of_two (keyed key_found)
goes SizeCheck = of_two size_checked
goes KeyAt = of_two key_there
goes Line = of_none (look (λ s. s.items) next_line)

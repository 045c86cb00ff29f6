-- The primitives of the runtime: each is one row with what its arguments are to be, which of them it steals, its result,
-- and whether it may stand while an exception is pending (mypyc's developer guide, "Primitives").
use Rattle.std.specs.Prelude.{ℕ, Bool, true, false, List, [], ◌∷◌, Option, codes, find, map, replicate}
use Rattle.std.specs.Str.{bytes_eq}
use Rattle.c_core.specs.declared.code.Kind.{Kind}
use Rattle.c_core.specs.declared.code.Kind.TheVariants.{Tagged, Int64, Char, Object}
use Rattle.c_core.specs.declared.primitive.Primitive.{Primitive}
use Rattle.c_core.specs.declared.primitive.Primitive.TheVariants as prim
use Rattle.c_core.specs.declared.primitive.Int64Prim.TheVariants as int64
use Rattle.c_core.specs.declared.primitive.TaggedPrim.TheVariants as tagged
use Rattle.c_core.specs.declared.primitive.BoolPrim.TheVariants as bool
use Rattle.c_core.specs.declared.primitive.ObjectPrim.TheVariants as object
use Rattle.c_core.specs.declared.primitive.StrPrim.TheVariants as str
use Rattle.c_core.specs.declared.primitive.ListPrim.TheVariants as list
use Rattle.c_core.specs.declared.primitive.DictPrim.TheVariants as dict
use Rattle.c_core.specs.declared.primitive.TuplePrim.TheVariants as tuple
use Rattle.c_core.specs.declared.primitive.InstancePrim.TheVariants as instance
use Rattle.c_core.specs.declared.primitive.AttrPrim.TheVariants as attr
use Rattle.c_core.specs.declared.primitive.GlobalPrim.TheVariants as global
use Rattle.c_core.specs.declared.primitive.ExcPrim.TheVariants as exc
use Rattle.c_core.specs.declared.primitive.ErrPrim.TheVariants as err
use Rattle.c_core.specs.declared.primitive.IoPrim.TheVariants as io

-- where the kind of a variable is found: in the row, at the global that the call names first, or at the slot of the
-- object that the call names by its first two arguments
pub data KindAt : Type 0 where
  Is : (k : Kind) → KindAt
  OfGlobal : KindAt
  OfSlot : KindAt

-- what a variable is to hold: any word of its kind that is no error value, a number that is short or stands in a cell, or a cell with a
-- text, an exception, a list, a tuple, a dict or an instance; or what may be the key of a dict
pub data Holding : Type 0 where
  Anything : Holding
  ANumber : Holding
  AText : Holding
  AnException : Holding
  AList : Holding
  ATuple : Holding
  ADict : Holding
  AKey : Holding
  AnInstance : Holding

-- what an argument is to be: a variable, which is borrowed, or stolen, or stolen where there is one; or a number, a place (a number that
-- is not negative), a text, the decimal of an `int` that is not short, the name of an exception class as a text, a global or a class as
-- it is written
pub data Parameter : Type 0 where
  Borrows : (k : KindAt) (h : Holding) → Parameter
  Steals : (k : KindAt) (h : Holding) → Parameter
  MaySteal : (k : KindAt) (h : Holding) → Parameter
  TakesNumber : Parameter
  TakesPlace : Parameter
  TakesText : Parameter
  TakesDecimal : Parameter
  TakesException : Parameter
  TakesGlobal : Parameter
  TakesClass : Parameter

-- whether no more arguments have to be there
abbrev pub may_end : List Parameter → Bool
may_end [] = true
may_end (MaySteal k h ∷ ps) = may_end ps
may_end _ = false

-- what a primitive answers: nothing, a word of a kind, whose reference the caller then owns, or one whose reference stays where it is
pub data Outcome : Type 0 where
  Nothing : Outcome
  Owned : (k : KindAt) → Outcome
  Lent : (k : KindAt) → Outcome

pub record Row : Type 0 where
  pub name : List ℕ
  pub parameters : List Parameter
  pub outcome : Outcome
  pub while_pending : Bool

-- a row that borrows variables of these kinds, whatever they hold, and answers a word of a kind
abbrev pub simple_row : List ℕ → List Kind → Kind → Row
simple_row name kinds k = record { name = name; parameters = map (λ k. Borrows (Is k) Anything) kinds; outcome = Owned (Is k); while_pending = false }

-- a row that borrows one variable of a kind, which holds what is asked for, and answers a word of a kind
abbrev pub one_row : List ℕ → Kind → Holding → Kind → Row
one_row name k h answer = record { name = name; parameters = Borrows (Is k) h ∷ []; outcome = Owned (Is answer); while_pending = false }

-- the same of two variables of a kind
abbrev pub two_row : List ℕ → Kind → Holding → Kind → Row
two_row name k h answer = record { name = name; parameters = Borrows (Is k) h ∷ Borrows (Is k) h ∷ []; outcome = Owned (Is answer); while_pending = false }

-- a row that answers a word of a kind
abbrev pub answering_row : List ℕ → List Parameter → Kind → Row
answering_row name parameters k = record { name = name; parameters = parameters; outcome = Owned (Is k); while_pending = false }

-- a row that lends a word of a kind
abbrev pub lending_row : List ℕ → List Parameter → KindAt → Row
lending_row name parameters k = record { name = name; parameters = parameters; outcome = Lent k; while_pending = false }

-- a row without variables that may stand while an exception is pending
abbrev pub pending_row : List ℕ → List Parameter → Kind → Row
pending_row name parameters k = record { name = name; parameters = parameters; outcome = Owned (Is k); while_pending = true }

-- a row that answers nothing
abbrev pub acting_row : List ℕ → List Parameter → Row
acting_row name parameters = record { name = name; parameters = parameters; outcome = Nothing; while_pending = false }

abbrev pub row_of : Primitive → Row
row_of (prim.Int64 int64.Add) = simple_row (codes "CPyInt64_Add") (Int64 ∷ Int64 ∷ []) Int64
row_of (prim.Int64 int64.Subtract) = simple_row (codes "CPyInt64_Subtract") (Int64 ∷ Int64 ∷ []) Int64
row_of (prim.Int64 int64.Multiply) = simple_row (codes "CPyInt64_Multiply") (Int64 ∷ Int64 ∷ []) Int64
row_of (prim.Int64 int64.Negate) = simple_row (codes "CPyInt64_Negate") (Int64 ∷ []) Int64
row_of (prim.Int64 int64.FloorDivide) = simple_row (codes "CPyInt64_FloorDivide") (Int64 ∷ Int64 ∷ []) Int64
row_of (prim.Int64 int64.Remainder) = simple_row (codes "CPyInt64_Remainder") (Int64 ∷ Int64 ∷ []) Int64
row_of (prim.Int64 int64.Lshift) = simple_row (codes "CPyInt64_Lshift") (Int64 ∷ Int64 ∷ []) Int64
row_of (prim.Int64 int64.Rshift) = simple_row (codes "CPyInt64_Rshift") (Int64 ∷ Int64 ∷ []) Int64
row_of (prim.Int64 int64.FromBool) = simple_row (codes "CPyInt64_FromBool") (Char ∷ []) Int64
row_of (prim.Int64 int64.Eq) = simple_row (codes "CPyInt64_Eq") (Int64 ∷ Int64 ∷ []) Char
row_of (prim.Int64 int64.Lt) = simple_row (codes "CPyInt64_Lt") (Int64 ∷ Int64 ∷ []) Char
row_of (prim.Int64 int64.Le) = simple_row (codes "CPyInt64_Le") (Int64 ∷ Int64 ∷ []) Char
row_of (prim.Int64 int64.Str) = simple_row (codes "CPyInt64_Str") (Int64 ∷ []) Object
row_of (prim.Int64 int64.Box) = simple_row (codes "CPyInt64_Box") (Int64 ∷ []) Object
row_of (prim.Int64 int64.Unbox) = one_row (codes "CPyInt64_Unbox") Object ANumber Int64
row_of (prim.Tagged tagged.Add) = two_row (codes "CPyTagged_Add") Tagged ANumber Tagged
row_of (prim.Tagged tagged.Subtract) = two_row (codes "CPyTagged_Subtract") Tagged ANumber Tagged
row_of (prim.Tagged tagged.Multiply) = two_row (codes "CPyTagged_Multiply") Tagged ANumber Tagged
row_of (prim.Tagged tagged.Negate) = one_row (codes "CPyTagged_Negate") Tagged ANumber Tagged
row_of (prim.Tagged tagged.FloorDivide) = two_row (codes "CPyTagged_FloorDivide") Tagged ANumber Tagged
row_of (prim.Tagged tagged.Remainder) = two_row (codes "CPyTagged_Remainder") Tagged ANumber Tagged
row_of (prim.Tagged tagged.Lshift) = two_row (codes "CPyTagged_Lshift") Tagged ANumber Tagged
row_of (prim.Tagged tagged.Rshift) = two_row (codes "CPyTagged_Rshift") Tagged ANumber Tagged
row_of (prim.Tagged tagged.FromText) = answering_row (codes "CPyTagged_FromText") (TakesDecimal ∷ []) Tagged
row_of (prim.Tagged tagged.FromInt64) = simple_row (codes "CPyTagged_FromInt64") (Int64 ∷ []) Tagged
row_of (prim.Tagged tagged.FromBool) = simple_row (codes "CPyTagged_FromBool") (Char ∷ []) Tagged
row_of (prim.Tagged tagged.AsInt64) = one_row (codes "CPyTagged_AsInt64") Tagged ANumber Int64
row_of (prim.Tagged tagged.Eq) = two_row (codes "CPyTagged_Eq") Tagged ANumber Char
row_of (prim.Tagged tagged.Lt) = two_row (codes "CPyTagged_Lt") Tagged ANumber Char
row_of (prim.Tagged tagged.Le) = two_row (codes "CPyTagged_Le") Tagged ANumber Char
row_of (prim.Tagged tagged.Str) = one_row (codes "CPyTagged_Str") Tagged ANumber Object
row_of (prim.Tagged tagged.Box) = answering_row (codes "CPyTagged_Box") (Steals (Is Tagged) ANumber ∷ []) Object
row_of (prim.Tagged tagged.Unbox) = one_row (codes "CPyTagged_Unbox") Object ANumber Tagged
row_of (prim.Bool bool.Not) = simple_row (codes "CPyBool_Not") (Char ∷ []) Char
row_of (prim.Bool bool.Str) = simple_row (codes "CPyBool_Str") (Char ∷ []) Object
row_of (prim.Bool bool.Box) = simple_row (codes "CPyBool_Box") (Char ∷ []) Object
row_of (prim.Bool bool.Unbox) = simple_row (codes "CPyBool_Unbox") (Object ∷ []) Char
row_of (prim.Object object.IsNone) = simple_row (codes "CPyObject_IsNone") (Object ∷ []) Char
row_of (prim.Str str.Literal) = answering_row (codes "CPyStr_Literal") (TakesText ∷ []) Object
row_of (prim.Str str.Concat) = two_row (codes "CPyStr_Concat") Object AText Object
row_of (prim.Str str.Eq) = two_row (codes "CPyStr_Eq") Object AText Char
row_of (prim.Str str.Lt) = two_row (codes "CPyStr_Lt") Object AText Char
row_of (prim.Str str.Le) = two_row (codes "CPyStr_Le") Object AText Char
row_of (prim.Str str.Len) = one_row (codes "CPyStr_Len") Object AText Tagged
row_of (prim.Str str.GetItem) = answering_row (codes "CPyStr_GetItem") (Borrows (Is Object) AText ∷ Borrows (Is Tagged) ANumber ∷ []) Object
row_of (prim.List list.New) = answering_row (codes "CPyList_New") [] Object
row_of (prim.List list.Append) = acting_row (codes "CPyList_Append") (Borrows (Is Object) AList ∷ Steals (Is Object) Anything ∷ [])
row_of (prim.List list.GetItem) = answering_row (codes "CPyList_GetItem") (Borrows (Is Object) AList ∷ Borrows (Is Tagged) ANumber ∷ []) Object
row_of (prim.List list.GetItemBorrow) =
    lending_row (codes "CPyList_GetItemBorrow") (Borrows (Is Object) AList ∷ Borrows (Is Tagged) ANumber ∷ []) (Is Object)
row_of (prim.List list.SetItem) =
    answering_row (codes "CPyList_SetItem") (Borrows (Is Object) AList ∷ Borrows (Is Tagged) ANumber ∷ Steals (Is Object) Anything ∷ []) Char
row_of (prim.List list.Pop) = one_row (codes "CPyList_Pop") Object AList Object
row_of (prim.List list.Len) = one_row (codes "CPyList_Len") Object AList Tagged
row_of (prim.Dict dict.New) = answering_row (codes "CPyDict_New") [] Object
row_of (prim.Dict dict.GetItem) = answering_row (codes "CPyDict_GetItem") (Borrows (Is Object) ADict ∷ Borrows (Is Object) AKey ∷ []) Object
row_of (prim.Dict dict.SetItem) =
    acting_row (codes "CPyDict_SetItem") (Borrows (Is Object) ADict ∷ Steals (Is Object) AKey ∷ Steals (Is Object) Anything ∷ [])
row_of (prim.Dict dict.DelItem) = answering_row (codes "CPyDict_DelItem") (Borrows (Is Object) ADict ∷ Borrows (Is Object) AKey ∷ []) Char
row_of (prim.Dict dict.Contains) = answering_row (codes "CPyDict_Contains") (Borrows (Is Object) ADict ∷ Borrows (Is Object) AKey ∷ []) Char
row_of (prim.Dict dict.CheckSize) = answering_row (codes "CPyDict_CheckSize") (Borrows (Is Object) ADict ∷ Borrows (Is Tagged) ANumber ∷ []) Char
row_of (prim.Dict dict.KeyAt) = answering_row (codes "CPyDict_KeyAt") (Borrows (Is Object) ADict ∷ Borrows (Is Tagged) ANumber ∷ []) Object
row_of (prim.Dict dict.Len) = one_row (codes "CPyDict_Len") Object ADict Tagged
row_of (prim.Tuple tuple.Pack) =
    answering_row (codes "CPyTuple_Pack") (Steals (Is Object) Anything ∷ replicate 15 (MaySteal (Is Object) Anything)) Object
row_of (prim.Tuple tuple.GetItem) = answering_row (codes "CPyTuple_GetItem") (Borrows (Is Object) ATuple ∷ TakesNumber ∷ []) Object
row_of (prim.Tuple tuple.GetItemBorrow) =
    lending_row (codes "CPyTuple_GetItemBorrow") (Borrows (Is Object) ATuple ∷ TakesNumber ∷ []) (Is Object)
row_of (prim.Tuple tuple.Len) = one_row (codes "CPyTuple_Len") Object ATuple Tagged
row_of (prim.Instance instance.New) = answering_row (codes "CPyInstance_New") (TakesClass ∷ []) Object
row_of (prim.Attr attr.Get) =
    record { name = codes "CPyAttr_Get"; parameters = Borrows (Is Object) AnInstance ∷ TakesPlace ∷ []; outcome = Owned OfSlot; while_pending = false }
row_of (prim.Attr attr.GetBorrow) = lending_row (codes "CPyAttr_GetBorrow") (Borrows (Is Object) AnInstance ∷ TakesPlace ∷ []) OfSlot
row_of (prim.Attr attr.Set) = acting_row (codes "CPyAttr_Set") (Borrows (Is Object) AnInstance ∷ TakesPlace ∷ Steals OfSlot Anything ∷ [])
row_of (prim.Global global.Get) = record { name = codes "CPyGlobal_Get"; parameters = TakesGlobal ∷ []; outcome = Owned OfGlobal; while_pending = false }
row_of (prim.Global global.Set) = acting_row (codes "CPyGlobal_Set") (TakesGlobal ∷ Steals OfGlobal Anything ∷ [])
row_of (prim.Global global.Clear) = acting_row (codes "CPyGlobal_Clear") (TakesGlobal ∷ [])
row_of (prim.Exc exc.New) = answering_row (codes "CPyExc_New") (TakesException ∷ Borrows (Is Object) AText ∷ []) Object
row_of (prim.Exc exc.Str) = one_row (codes "CPyExc_Str") Object AnException Object
row_of (prim.Err err.SetObject) = acting_row (codes "CPyErr_SetObject") (Steals (Is Object) AnException ∷ [])
row_of (prim.Err err.Unbound) = acting_row (codes "CPyErr_Unbound") (TakesText ∷ [])
row_of (prim.Err err.Occurred) = pending_row (codes "CPyErr_Occurred") [] Char
row_of (prim.Err err.Matches) = pending_row (codes "CPyErr_Matches") (TakesException ∷ []) Char
row_of (prim.Err err.Catch) = pending_row (codes "CPyErr_Catch") [] Object
row_of (prim.Io io.Write) = acting_row (codes "CPy_Write") (Borrows (Is Object) AText ∷ [])
row_of (prim.Io io.Input) = answering_row (codes "CPy_Input") [] Object

abbrev pub all_primitives : List Primitive
all_primitives =
    prim.Int64 int64.Add ∷ prim.Int64 int64.Subtract ∷ prim.Int64 int64.Multiply ∷ prim.Int64 int64.Negate
    ∷ prim.Int64 int64.FloorDivide ∷ prim.Int64 int64.Remainder ∷ prim.Int64 int64.Lshift ∷ prim.Int64 int64.Rshift
    ∷ prim.Int64 int64.FromBool ∷ prim.Int64 int64.Eq ∷ prim.Int64 int64.Lt ∷ prim.Int64 int64.Le ∷ prim.Int64 int64.Str
    ∷ prim.Int64 int64.Box ∷ prim.Int64 int64.Unbox
    ∷ prim.Tagged tagged.Add ∷ prim.Tagged tagged.Subtract ∷ prim.Tagged tagged.Multiply ∷ prim.Tagged tagged.Negate
    ∷ prim.Tagged tagged.FloorDivide ∷ prim.Tagged tagged.Remainder ∷ prim.Tagged tagged.Lshift ∷ prim.Tagged tagged.Rshift
    ∷ prim.Tagged tagged.FromText ∷ prim.Tagged tagged.FromInt64 ∷ prim.Tagged tagged.FromBool ∷ prim.Tagged tagged.AsInt64
    ∷ prim.Tagged tagged.Eq ∷ prim.Tagged tagged.Lt ∷ prim.Tagged tagged.Le ∷ prim.Tagged tagged.Str
    ∷ prim.Tagged tagged.Box ∷ prim.Tagged tagged.Unbox
    ∷ prim.Bool bool.Not ∷ prim.Bool bool.Str ∷ prim.Bool bool.Box ∷ prim.Bool bool.Unbox ∷ prim.Object object.IsNone
    ∷ prim.Str str.Literal ∷ prim.Str str.Concat ∷ prim.Str str.Eq ∷ prim.Str str.Lt ∷ prim.Str str.Le ∷ prim.Str str.Len ∷ prim.Str str.GetItem
    ∷ prim.List list.New ∷ prim.List list.Append ∷ prim.List list.GetItem ∷ prim.List list.GetItemBorrow ∷ prim.List list.SetItem
    ∷ prim.List list.Pop ∷ prim.List list.Len
    ∷ prim.Dict dict.New ∷ prim.Dict dict.GetItem ∷ prim.Dict dict.SetItem ∷ prim.Dict dict.DelItem ∷ prim.Dict dict.Contains
    ∷ prim.Dict dict.CheckSize ∷ prim.Dict dict.KeyAt ∷ prim.Dict dict.Len
    ∷ prim.Tuple tuple.Pack ∷ prim.Tuple tuple.GetItem ∷ prim.Tuple tuple.GetItemBorrow ∷ prim.Tuple tuple.Len
    ∷ prim.Instance instance.New ∷ prim.Attr attr.Get ∷ prim.Attr attr.GetBorrow ∷ prim.Attr attr.Set
    ∷ prim.Global global.Get ∷ prim.Global global.Set ∷ prim.Global global.Clear ∷ prim.Exc exc.New ∷ prim.Exc exc.Str
    ∷ prim.Err err.SetObject ∷ prim.Err err.Unbound ∷ prim.Err err.Occurred ∷ prim.Err err.Matches ∷ prim.Err err.Catch
    ∷ prim.Io io.Write ∷ prim.Io io.Input ∷ []

abbrev pub is_named : List ℕ → Primitive → Bool
is_named name p = bytes_eq (row_of p).name name

-- the primitive of a name, if there is one
abbrev pub primitive_named : List ℕ → Option Primitive
primitive_named name = find (is_named name) all_primitives

-- How operations fail: of each primitive whether it does, one row one line, and what is to stand behind an operation so that
-- its failure is seen (mypyc's developer guide, "Error handling").
use Rattle.std.specs.Prelude.{ℕ, List, Option, Some, None, slice_get}
use Rattle.std.specs.Option.{option_map, option_and_then}
use Rattle.c_core.specs.declared.code.Kind.{Kind}
use Rattle.c_core.specs.declared.code.Kind.TheVariants.{Tagged, Int64, Char, Object}
use Rattle.c_core.specs.Primitives.{KindAt, Is, OfGlobal, OfSlot, Outcome, Nothing, Owned, Lent, row_of}
use Rattle.c_core.specs.declared.primitive.Primitive.{Primitive}
use Rattle.c_core.specs.declared.primitive.Primitive.TheVariants as prim
use Rattle.c_core.specs.declared.primitive.Int64Prim.TheVariants as int64
use Rattle.c_core.specs.declared.primitive.TaggedPrim.TheVariants as tagged
use Rattle.c_core.specs.declared.primitive.BoolPrim.TheVariants as bool
use Rattle.c_core.specs.declared.primitive.ObjectPrim.TheVariants as object
use Rattle.c_core.specs.declared.primitive.StrPrim.TheVariants as str
use Rattle.c_core.specs.declared.primitive.ListPrim.TheVariants as list
use Rattle.c_core.specs.declared.primitive.DictPrim.TheVariants as dict
use Rattle.c_core.specs.declared.primitive.TuplePrim.TheVariants as tuple
use Rattle.c_core.specs.declared.primitive.InstancePrim.TheVariants as instance
use Rattle.c_core.specs.declared.primitive.AttrPrim.TheVariants as attr
use Rattle.c_core.specs.declared.primitive.GlobalPrim.TheVariants as global
use Rattle.c_core.specs.declared.primitive.ExcPrim.TheVariants as exc
use Rattle.c_core.specs.declared.primitive.ErrPrim.TheVariants as err
use Rattle.c_core.specs.declared.primitive.IoPrim.TheVariants as io
use Rattle.ir_core.specs.declared.code.ErrorKind.{ErrorKind}
use Rattle.ir_core.specs.declared.code.ErrorKind.TheVariants.{Never, Magic, Always, MagicOverlapping}
use Rattle.ir_core.specs.declared.code.RType.{RType}
use Rattle.ir_core.specs.declared.code.RType.TheVariants.{Int, I64, Bool, Ref}
use Rattle.ir_core.specs.declared.code.Op.{Op}
use Rattle.ir_core.specs.declared.code.Op.TheVariants as op
use Rattle.ir_core.specs.declared.code.Reg.{Reg}
use Rattle.ir_core.specs.declared.kind.Edge.{Edge}
use Rattle.ir_core.specs.declared.kind.Edge.TheVariants.{NoEdge, Tests, TestsTwice, Jumps}

-- a primitive never fails, in some cases, or always
pub data Failing : Type 0 where
  NeverFails : Failing
  MayFail : Failing
  AlwaysFails : Failing

abbrev pub failing : Primitive → Failing
failing (prim.Int64 int64.Add) = NeverFails
failing (prim.Int64 int64.Subtract) = NeverFails
failing (prim.Int64 int64.Multiply) = NeverFails
failing (prim.Int64 int64.Negate) = NeverFails
failing (prim.Int64 int64.FloorDivide) = MayFail
failing (prim.Int64 int64.Remainder) = MayFail
failing (prim.Int64 int64.Lshift) = MayFail
failing (prim.Int64 int64.Rshift) = MayFail
failing (prim.Int64 int64.FromBool) = NeverFails
failing (prim.Int64 int64.Eq) = NeverFails
failing (prim.Int64 int64.Lt) = NeverFails
failing (prim.Int64 int64.Le) = NeverFails
failing (prim.Int64 int64.Str) = NeverFails
failing (prim.Int64 int64.Box) = NeverFails
failing (prim.Int64 int64.Unbox) = NeverFails
failing (prim.Tagged tagged.Add) = MayFail
failing (prim.Tagged tagged.Subtract) = MayFail
failing (prim.Tagged tagged.Multiply) = MayFail
failing (prim.Tagged tagged.Negate) = MayFail
failing (prim.Tagged tagged.FloorDivide) = MayFail
failing (prim.Tagged tagged.Remainder) = MayFail
failing (prim.Tagged tagged.Lshift) = MayFail
failing (prim.Tagged tagged.Rshift) = MayFail
failing (prim.Tagged tagged.FromText) = NeverFails
failing (prim.Tagged tagged.FromInt64) = NeverFails
failing (prim.Tagged tagged.FromBool) = NeverFails
failing (prim.Tagged tagged.AsInt64) = MayFail
failing (prim.Tagged tagged.Eq) = NeverFails
failing (prim.Tagged tagged.Lt) = NeverFails
failing (prim.Tagged tagged.Le) = NeverFails
failing (prim.Tagged tagged.Str) = NeverFails
failing (prim.Tagged tagged.Box) = NeverFails
failing (prim.Tagged tagged.Unbox) = NeverFails
failing (prim.Bool bool.Not) = NeverFails
failing (prim.Bool bool.Str) = NeverFails
failing (prim.Bool bool.Box) = NeverFails
failing (prim.Bool bool.Unbox) = NeverFails
failing (prim.Object object.IsNone) = NeverFails
failing (prim.Str str.Literal) = NeverFails
failing (prim.Str str.Concat) = NeverFails
failing (prim.Str str.Eq) = NeverFails
failing (prim.Str str.Lt) = NeverFails
failing (prim.Str str.Le) = NeverFails
failing (prim.Str str.Len) = NeverFails
failing (prim.Str str.GetItem) = MayFail
failing (prim.List list.New) = NeverFails
failing (prim.List list.Append) = NeverFails
failing (prim.List list.GetItem) = MayFail
failing (prim.List list.GetItemBorrow) = MayFail
failing (prim.List list.SetItem) = MayFail
failing (prim.List list.Pop) = MayFail
failing (prim.List list.Len) = NeverFails
failing (prim.Dict dict.New) = NeverFails
failing (prim.Dict dict.GetItem) = MayFail
failing (prim.Dict dict.SetItem) = NeverFails
failing (prim.Dict dict.DelItem) = MayFail
failing (prim.Dict dict.Contains) = NeverFails
failing (prim.Dict dict.CheckSize) = MayFail
failing (prim.Dict dict.KeyAt) = NeverFails
failing (prim.Dict dict.Len) = NeverFails
failing (prim.Tuple tuple.Pack) = NeverFails
failing (prim.Tuple tuple.GetItem) = NeverFails
failing (prim.Tuple tuple.GetItemBorrow) = NeverFails
failing (prim.Tuple tuple.Len) = NeverFails
failing (prim.Instance instance.New) = NeverFails
failing (prim.Attr attr.Get) = MayFail
failing (prim.Attr attr.GetBorrow) = MayFail
failing (prim.Attr attr.Set) = NeverFails
failing (prim.Global global.Get) = MayFail
failing (prim.Global global.Set) = NeverFails
failing (prim.Global global.Clear) = NeverFails
failing (prim.Exc exc.New) = NeverFails
failing (prim.Exc exc.Str) = NeverFails
failing (prim.Err err.SetObject) = AlwaysFails
failing (prim.Err err.Unbound) = AlwaysFails
failing (prim.Err err.Occurred) = NeverFails
failing (prim.Err err.Matches) = NeverFails
failing (prim.Err err.Catch) = NeverFails
failing (prim.Io io.Write) = NeverFails
failing (prim.Io io.Input) = MayFail

-- the type of the registers that hold words of a kind
abbrev pub register_type : Kind → RType
register_type Tagged = Int
register_type Int64 = I64
register_type Char = Bool
register_type Object = Ref

-- the type of what an operation gives: its row says it, or leaves it to a slot or a global, and then it is that of the target
abbrev pub type_at : KindAt → Option RType → Option RType
type_at (Is k) t = Some (register_type k)
type_at OfGlobal t = t
type_at OfSlot t = t

abbrev pub type_given : Outcome → Option RType → Option RType
type_given Nothing t = None
type_given (Owned k) t = type_at k t
type_given (Lent k) t = type_at k t

-- what may fail tells it by the error value of its result, which for a native integer is an ordinary value too
abbrev pub kind_by_result : Option RType → ErrorKind
kind_by_result (Some I64) = MagicOverlapping
kind_by_result _ = Magic

abbrev pub kind_by : Failing → Option RType → ErrorKind
kind_by NeverFails t = Never
kind_by MayFail t = kind_by_result t
kind_by AlwaysFails t = Always

-- the error kind of a primitive, whose target, if it has one, has this type
abbrev pub error_kind : Primitive → Option RType → ErrorKind
error_kind p t = kind_by (failing p) (type_given (row_of p).outcome t)

-- what is to stand behind an operation of a kind and a target
abbrev pub edge_of_kind : ErrorKind → Option Reg → Edge
edge_of_kind Magic (Some r) = Tests r
edge_of_kind MagicOverlapping (Some r) = TestsTwice r
edge_of_kind Always r = Jumps
edge_of_kind _ _ = NoEdge

-- a function's registers, with their names
abbrev pub Declared : Type 0
Declared = List (List ℕ × RType)

abbrev pub type_of_reg : Declared → Reg → Option RType
type_of_reg regs r = option_map (λ x. x.1) (slice_get regs r.0)

-- a call of a function may fail
abbrev pub edge_of_call : Declared → Reg → Edge
edge_of_call regs r = edge_of_kind (kind_by_result (type_of_reg regs r)) (Some r)

abbrev pub edge_of_prim : Declared → Option Reg → Primitive → Edge
edge_of_prim regs to p = edge_of_kind (error_kind p (option_and_then (type_of_reg regs) to)) to

abbrev pub edge_of_op : Declared → Op → Edge
edge_of_op regs (op.Prim to p args) = edge_of_prim regs to p
edge_of_op regs (op.Call r g args) = edge_of_call regs r
edge_of_op regs (op.Virtual r o n args) = edge_of_call regs r
edge_of_op regs (op.TraitCall r o t n args) = edge_of_call regs r
edge_of_op regs _ = NoEdge

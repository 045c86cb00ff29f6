-- What the parts of the code of statements are, one behind another.
use Rattle.std.specs.Prelude.{◌≡◌, ◌<◌, ◌≤◌, ◌⊎◌, ℕ, true, List, Option, Some, None, slice_get}
use Rattle.py_syntax.specs.declared.token.Span.{Span}
use Rattle.py_syntax.specs.declared.expression.BinOp.{BinOp}
use Rattle.value_core.specs.Value.{Value}
use Rattle.py_typed.specs.Fits.{is_number}
use Rattle.py_typed.specs.Sorts as sort
use Rattle.py_typed.specs.Sorts.{Sort}
use Rattle.py_typed.specs.Expressions.{TypedExpr, typed, Local, Global, Nothing, type_of}
use Rattle.py_typed.specs.Statements.{Variable, TypedModule, TypedTarget, LocalTarget, GlobalTarget}
use Rattle.source_meaning.specs.State.{Does, on_to, ◌>>=◌}
use Rattle.source_meaning.specs.Operations.{coerced, combined}
use Rattle.ir_builder_frames.specs.Building.{Building}
use Rattle.ir_core.specs.declared.code.RType.TheVariants.{Bool, Ref}
use Rattle.ir_builder_frames.specs.declared.frame.Frame.{Frame}
use Rattle.ir_builder_frames.specs.Settings.{Setting, rtype_of}
use Rattle.ir_builder_frames.specs.Placing.{HasType}
use Rattle.ir_builder_frames.specs.Matching.{flag_of, HasRoom}
use Rattle.ir_builder_frames.specs.Computing.{Shows, Computes, means}
use Rattle.ir_builder_operations.specs.Boxes.{boxed}
use Rattle.ir_builder_operations.specs.Selecting.{is_whole}
use Rattle.ir_builder_expressions.specs.declared.applying.Binary.{Binary}
use Rattle.ir_builder_expressions.specs.declared.applying.Binary.TheVariants.{Arithmetic, Joined}
use Rattle.ir_builder_expressions.specs.Reading.{setting_in}
use Rattle.ir_builder_loops_and_jumps.specs.Means.{means_returned, returned_type}
use Rattle.ir_builder_loops_and_jumps.specs.Simple.{Sets}
use Rattle.ir_builder_statements.specs.Suiting.{IsVariable}

-- ---- variables that are read and set

-- the flag of a variable is there, where it is no parameter
abbrev pub HasFlag : Frame → ℕ → Building → Type 0
HasFlag frame k b =
    frame.locals.params ≤ k → (flag_of frame.locals k < frame.locals.top) × HasType b (flag_of frame.locals k) Bool

-- a value in a register is put into the function's variable of a number, whatever its type is
abbrev pub SetsLocal : Frame → ℕ → ℕ → Building → Building → Type 0
SetsLocal frame k r old new =
    (x : Setting) (v : Variable) → x.frame ≡ frame → HasRoom x old → slice_get x.variables k ≡ Some v → HasType old r (rtype_of v.1) → Sets x (LocalTarget k) r old new

-- a register has the type of the module's variable of a number
abbrev pub TakesGlobal : TypedModule → ℕ → ℕ → Building → Type 0
TakesGlobal m i r b =
    (v : Variable) × (slice_get m.globals i ≡ Some v) × HasType b r (rtype_of v.1)

-- a value in a register is put into the module's variable of a number
abbrev pub SetsGlobal : TypedModule → ℕ → ℕ → Building → Building → Type 0
SetsGlobal m i r old new =
    (x : Setting) (v : Variable) → x.source ≡ m → slice_get m.globals i ≡ Some v → HasType old r (rtype_of v.1) → Sets x (GlobalTarget i) r old new

-- a target is a variable, and a register has its type
abbrev pub TakesRegister : TypedModule → Frame → TypedTarget → ℕ → Building → Type 0
TakesRegister m frame target r b =
    (vs : List Variable) × (t : Sort) × HasRoom (setting_in m vs frame) b × IsVariable m vs None target t × HasType b r (rtype_of t)

-- a value in a register is put into the variable that a target is, in whatever function with this frame
abbrev pub SetsVariable : TypedModule → Frame → TypedTarget → ℕ → Building → Building → Type 0
SetsVariable m frame target r old new =
    (vs : List Variable) (t : Sort) → HasRoom (setting_in m vs frame) old → IsVariable m vs None target t → HasType old r (rtype_of t) → Sets (setting_in m vs frame) target r old new

-- the expression of a type that reads the variable that a target is
abbrev pub reading_of : TypedTarget → Sort → Span → TypedExpr
reading_of (LocalTarget k) t place = typed (Local k) t place
reading_of (GlobalTarget i) t place = typed (Global i) t place
reading_of target t place = typed Nothing t place

-- the operation of an update in a type
abbrev pub update_binary : BinOp → Sort → Binary
update_binary op sort.Str = Joined
update_binary op t = Arithmetic op

-- a value of the first type becomes one of the second, which a variable has: a number of a whole one, or a text as it is
abbrev pub TurnsInto : Sort → Sort → Type 0
TurnsInto t u = ((is_number t ≡ true) × (is_whole u ≡ true)) ⊎ ((t ≡ sort.Str) × (u ≡ sort.Str))

-- ---- returned values

-- the value of a return, or None, was computed
abbrev pub ComputesReturned : Setting → Option TypedExpr → Building → Building → ℕ → Type 0
ComputesReturned x o old new r =
    Computes x (Shows (returned_type o)) (rtype_of (returned_type o)) (means_returned x o) old new r

-- ---- items of lists

-- of an old value of a type and an operand, by an operator in another type, a value of the old one's type
abbrev pub changed_as : Sort → BinOp → Sort → Value → Value → Does Value
changed_as own op t v w = combined t op v w >>= coerced own

-- Reading a variable. Where one of the function may be unset its flag is tested first; one of the module is read from its global,
-- which fails where it is unset.
use Rattle.std.specs.Prelude.{◌≡◌, ℕ, List, [], ◌∷◌, length, Option, Some, None, slice_get}
use Rattle.value_core.specs.Value.{Value}
use Rattle.c_core.specs.Step.{unbound}
use Rattle.c_core.specs.declared.primitive.Primitive.TheVariants.{Err}
use Rattle.c_core.specs.declared.primitive.ErrPrim.TheVariants.{Unbound}
use Rattle.py_typed.specs.Sorts.{Sort}
use Rattle.source_meaning.specs.State.{State, Outcome, on_to}
use Rattle.py_typed.specs.Statements.{Variable, TypedModule}
use Rattle.py_typed.specs.Expressions.{TypedNode, Local}
use Rattle.ir_core.specs.declared.code.Op.{Op}
use Rattle.ir_core.specs.declared.code.Op.TheVariants.{Prim}
use Rattle.ir_core.specs.declared.code.PArg.TheVariants.{Text}
use Rattle.ir_core.specs.declared.code.Program.{Program}
use Rattle.ir_builder_frames.specs.Building.{Building, Extends}
use Rattle.ir_core.specs.Registers.{Held, Unset, Holds, Regs}
use Rattle.ir_core.specs.Meaning.{Waiting, away}
use Rattle.ir_builder_frames.specs.declared.frame.Frame.{Frame}
use Rattle.ir_builder_frames.specs.Settings.{Setting, rtype_of}
use Rattle.ir_builder_frames.specs.Placing.{Has, Placed}
use Rattle.ir_builder_frames.specs.Coming.{world, running, Leads}
use Rattle.ir_builder_frames.specs.Computing.{Itself, Shows, means_node, Computes}
use Rattle.ir_builder_operations.specs.Boxes.{taken_as}
use Rattle.ir_builder_expressions.specs.Suiting.{ReadsAs}

-- the operation that reports a variable as unbound
abbrev pub reports_unbound : List ℕ → Op
reports_unbound name = Prim None (Err Unbound) (Text name ∷ [])

-- code that changes no register, by a flag that the registers have. Where the flag is a value the code is run to its end, and where it
-- is the error value the exception for a variable of the name goes to the handler or out of the function
pub record TestsSet (old new : Building) (flag : Regs → Held) (name : List ℕ) : Type 0 where
  pub extends : Extends old new
  pub set : (p : Program) (fn : ℕ) → Has p fn new → (regs : Regs) (below : List Waiting) (s : State) (v : Value) → flag regs ≡ Holds v → Leads p (running fn (length old.blocks) (length old.ops) regs below (world None s)) (running fn (length new.blocks) (length new.ops) regs below (world None s))
  pub unset : (p : Program) (fn : ℕ) (h : Option ℕ) → Placed p fn old new h → (regs : Regs) (below : List Waiting) (s : State) → flag regs ≡ Unset → (k : ℕ) × (i : ℕ) × Leads p (running fn (length old.blocks) (length old.ops) regs below (world None s)) (away h (record { fn = fn; block = k; place = i; regs = regs }) below (world (Some (unbound name)) s))

-- what a part of a function with these variables is built for, in a module
abbrev pub setting_in : TypedModule → List Variable → Frame → Setting
setting_in m vs frame = record { source = m; variables = vs; frame = frame }

-- the code of the variable of a number, of these, that is read: its value is in a register of its type
abbrev pub EmitsRead : Setting → List Variable → ℕ → TypedNode → Building → Building → ℕ → Type 0
EmitsRead x vs i node old new r =
    (v : Variable) (t : Sort) → slice_get vs i ≡ Some v → Computes x Itself (rtype_of v.1) (means_node x node t) old new r

-- a value in a register that is taken as one of a type
abbrev pub Takes : Sort → ℕ → Regs → State → Outcome Value → Type 0
Takes t x regs s res = (v : Value) × Itself v (regs x) × (res ≡ taken_as t v s)

-- the function's variable of a number is read as one of a type
abbrev pub ReadsLocal : Setting → ℕ → Sort → Type 0
ReadsLocal x i t = (v : Variable) → slice_get x.variables i ≡ Some v → ReadsAs v.1 t

-- its code, and what makes a value of the type of it
abbrev pub TakesLocal : Setting → ℕ → Sort → Building → Building → ℕ → Type 0
TakesLocal x i t old new r = Computes x (Shows t) (rtype_of t) (λ k s. on_to (means_node x (Local i) t k s) (taken_as t)) old new r

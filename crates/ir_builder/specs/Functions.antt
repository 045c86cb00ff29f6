-- What is built of a function, and of a module's own statements.
use Rattle.std.specs.Prelude.{◌≡◌, ℕ, ◌≤◌, false, pos, List, [], ◌∷◌, ◌++◌, map, Some, None, slice_get}
use Rattle.std.specs.List.{AllZip}
use Rattle.value_core.specs.Value.{Value, IntVal, BoolVal, NoneVal}
use Rattle.value_core.specs.Ending.{Done}
use Rattle.source_meaning.specs.State.{State}
use Rattle.source_soundness.specs.Watched.{enter, top_of}
use Rattle.py_typed.specs.Statements.{TypedFunc, TypedModule}
use Rattle.source_meaning.specs.WaysOut.{Goes}
use Rattle.ir_core.specs.declared.code.Func.{Func}
use Rattle.ir_core.specs.declared.code.Lit.{Lit}
use Rattle.ir_core.specs.declared.code.Lit.TheVariants.{Number, PyNone}
use Rattle.ir_core.specs.declared.code.Program.{Program}
use Rattle.ir_core.specs.declared.code.RType.{RType}
use Rattle.ir_core.specs.declared.code.RType.TheVariants.{Bool, Ref}
use Rattle.ir_core.specs.Meaning.{Waiting, Ended}
use Rattle.ir_core.specs.Registers.{Holds, first_regs}
use Rattle.ir_builder_frames.specs.Coming.{world, running, Escapes, Ends}
use Rattle.ir_builder_frames.specs.Settings.{variable_registers}
use Rattle.ir_builder_frames.specs.Watching.{watch, calls_in}
use Rattle.ir_builder_frames.specs.Among.{heads_of}
use Rattle.ir_builder_frames.specs.Matching.{HasHead, CallGives, CallRaises, CallsWork}
use Rattle.ir_builder_shapes_laws.specs.Built.{IsFunction, IsOwn}
use Rattle.ir_builder.specs.Lines.{setting_in, LinedFunction}

-- what a function gives at the end of its code. One whose result is not None does not come there
abbrev pub end_literal : RType → Lit
end_literal Ref = PyNone
end_literal t = Number (pos 0)

abbrev pub end_value : RType → Value
end_value Ref = NoneVal
end_value Bool = BoolVal false
end_value t = IntVal (pos 0)

-- where calls work, the function's code does behind its turn what the function's body does on arguments
abbrev pub FunctionWorks : Program → TypedModule → TypedFunc → ℕ → Func → Type 0
FunctionWorks p m f fn h =
    (n : ℕ) → CallsWork p m n → (args : List Value) (below : List Waiting) (s : State) → s.turns ≤ n → Ends p s.turns (running fn 0 1 (first_regs h.regs (map Holds args)) below (world None s)) (enter (watch m) m (calls_in m n) n (Some f) args s) (CallGives p f.ret below s) (CallRaises fn below s)

pub record IsFunctionOf (m : TypedModule) (f : TypedFunc) (h : Func) : Type 0 where
  pub name : h.name ≡ f.name
  pub head : HasHead h f
  pub built : IsFunction (heads_of m) (variable_registers m.globals) h
  pub works : (p : Program) (fn : ℕ) → slice_get p.funcs fn ≡ Some h → FunctionWorks p m f fn h
  pub lined : LinedFunction (setting_in m f.params f.locals) f.body h

-- where calls work, the code of a module's own statements does what they mean
abbrev pub OwnWorks : Program → TypedModule → ℕ → Func → Type 0
OwnWorks p m fn h =
    (n : ℕ) → CallsWork p m n → (s : State) → s.turns ≤ n → Ends p s.turns (running fn 0 0 (first_regs h.regs []) [] (world None s)) (top_of (watch m) m n s) (λ g u d. (g ≡ Goes) × (d ≡ Ended Done (world None u))) (Escapes fn [])

pub record IsOwnOf (m : TypedModule) (h : Func) : Type 0 where
  pub built : IsOwn (heads_of m) (variable_registers m.globals) h
  pub works : (p : Program) (fn : ℕ) → slice_get p.funcs fn ≡ Some h → OwnWorks p m fn h
  pub lined : LinedFunction (setting_in m 0 []) m.top h

-- each function has its code, in order
abbrev pub AllBuilt : TypedModule → List TypedFunc → List Func → Type 0
AllBuilt m = AllZip (IsFunctionOf m)

-- the program of a module: its functions in order, and its own statements behind them
pub record IsBuiltOf (m : TypedModule) (p : Program) : Type 0 where
  pub functions : List Func
  pub own : Func
  pub are : p.funcs ≡ functions ++ own ∷ []
  pub each : AllBuilt m m.funcs functions
  pub own_built : IsOwnOf m own
  pub classes : p.classes ≡ []
  pub globals : p.globals ≡ variable_registers m.globals

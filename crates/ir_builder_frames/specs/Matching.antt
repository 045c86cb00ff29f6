-- How registers stand for the source's variables, and what calls do.
use Rattle.std.specs.Prelude.{◌≡◌, ◌≢◌, ◌⊎◌, ℕ, ◌+◌, ◌-◌, ◌<◌, ◌≤◌, nat_lt, Bool, true, if◌then◌else◌, ℤ, List, [], ◌∷◌, length, map, Option, Some, None, slice_get}
use Rattle.value_core.specs.Arithmetic.{lies_within}
use Rattle.value_core.specs.Exceptions.{Thrown}
use Rattle.value_core.specs.Value.{Value, IntVal, BoolVal, NoneVal, StrVal, ExcVal}
use Rattle.c_core.specs.WellFormed.{names_differ}
use Rattle.py_typed.specs.Sorts as sort
use Rattle.py_typed.specs.Sorts.{Sort}
use Rattle.py_typed.specs.Statements.{Variable, TypedFunc, TypedModule}
use Rattle.source_meaning.specs.State.{State}
use Rattle.ir_core.specs.declared.code.Func.{Func}
use Rattle.ir_core.specs.declared.code.Program.{Program}
use Rattle.ir_core.specs.declared.code.RType.{RType}
use Rattle.ir_core.specs.declared.code.RType.TheVariants as rtype
use Rattle.ir_core.specs.declared.code.Reg.{Reg}
use Rattle.ir_core.specs.Registers.{Held, Unset, Holds, Regs, first_regs}
use Rattle.ir_builder_frames.specs.Building.{Building}
use Rattle.ir_builder_frames.specs.Among.{IsAmong}
use Rattle.ir_core.specs.Meaning.{Waiting, Config}
use Rattle.ir_builder_frames.specs.declared.frame.Frame.{Frame}
use Rattle.ir_builder_frames.specs.declared.frame.Vars.{Vars}
use Rattle.ir_builder_frames.specs.Settings.{Setting, rtype_of, variable_registers, parameter_sorts}
use Rattle.ir_builder_frames.specs.Watching.{calls_in}
use Rattle.ir_builder_frames.specs.Placing.{HasType}
use Rattle.ir_builder_frames.specs.Coming.{world, running, Escapes, returning, Ends}

-- what the shape of a type says of a number, a text, a bool or None, and of what is one of these or None; of an object it says nothing
-- here
abbrev pub HasKind : Sort → Value → Type 0
HasKind sort.I64 v = (n : ℤ) × (v ≡ IntVal n) × (lies_within 63 n ≡ true)
HasKind sort.Int v = (n : ℤ) × (v ≡ IntVal n)
HasKind sort.Str v = (text : List ℕ) × (v ≡ StrVal text)
HasKind sort.Bool v = (b : Bool) × (v ≡ BoolVal b)
HasKind sort.Nothing v = v ≡ NoneVal
HasKind (sort.Optional t) v = (v ≡ NoneVal) ⊎ HasKind t v
HasKind _ v = Unit {0}

abbrev pub HaveKinds : List Sort → List Value → Type 0
HaveKinds [] [] = Unit {0}
HaveKinds [] (v ∷ vs) = ⊥
HaveKinds (t ∷ ts) [] = ⊥
HaveKinds (t ∷ ts) (v ∷ vs) = HasKind t v × HaveKinds ts vs

-- ---- variables of the module

-- the globals of a program are the variables of a module, whose names differ
pub record HasGlobals (p : Program) (m : TypedModule) : Type 0 where
  pub are : p.globals ≡ variable_registers m.globals
  pub differ : names_differ (map (λ (v : Variable). v.0) m.globals) ≡ true

-- ---- variables of a function

-- what a variable's register and its flag hold: a variable is unset where the flag is, and its register may then hold anything
abbrev pub Keeps : Held → Held → Option Value → Type 0
Keeps h flag None = flag ≡ Unset
Keeps h flag (Some v) = (h ≡ Holds v) × (flag ≡ Holds (BoolVal true))

-- the register of a variable's flag; those of the variables that are no parameters stand behind the variables' own registers
abbrev pub flag_of : Vars → ℕ → ℕ
flag_of f j = f.count + (j - f.params)

-- the flag of a variable; a parameter is always set
abbrev pub flag_in : Vars → Regs → ℕ → Held
flag_in f regs j = if nat_lt j f.params then Holds (BoolVal true) else regs (flag_of f j)

-- the first registers hold the function's variables, and others their flags
pub record Matches (x : Setting) (regs : Regs) (s : State) : Type 0 where
  pub each : (j : ℕ) (v : Variable) → slice_get x.variables j ≡ Some v → (o : Option Value) × (slice_get s.locals j ≡ Some o) × Keeps (regs j) (flag_in x.frame.locals regs j) o

-- the register for a returned value, where a statement around waits for it, is no variable's and no flag
abbrev pub BackBelow : Option Reg → ℕ → ℕ → Type 0
BackBelow None top n = Unit {0}
BackBelow (Some r) top n = (top ≤ r.0) × (r.0 < n)

-- the builder is among the functions and variables of a module, and has the registers of a frame
pub record HasRoom (x : Setting) (b : Building) : Type 0 where
  pub among : IsAmong x.source b.among
  pub count : x.frame.locals.count ≡ length x.variables
  pub flags : x.frame.locals.count + (x.frame.locals.count - x.frame.locals.params) ≤ x.frame.locals.top
  pub top : x.frame.locals.top ≤ length b.regs
  pub declared : (j : ℕ) (v : Variable) → slice_get x.variables j ≡ Some v → HasType b j (rtype_of v.1)
  pub flagged : (j : ℕ) → x.frame.locals.params ≤ j → j < x.frame.locals.count → HasType b (flag_of x.frame.locals j) rtype.Bool
  pub back : BackBelow x.frame.ret x.frame.locals.top (length b.regs)

-- ---- what stays

-- the register for a returned value may change
abbrev pub IsKept : Option Reg → ℕ → Type 0
IsKept None j = Unit {0}
IsKept (Some r) j = j ≢ r.0

-- the registers behind the variables and flags, but for the one for a returned value, are as they were
abbrev pub SameIn : Frame → ℕ → Regs → Regs → Type 0
SameIn f keep now old = (j : ℕ) → f.locals.top ≤ j → j < keep → IsKept f.ret j → now j ≡ old j

-- the machine is at a place, its first registers hold the variables, and those behind them are as before
pub record Stands (fn k i : ℕ) (below : List Waiting) (e : Option Thrown) (x : Setting) (keep : ℕ) (regs : Regs) (s : State) (d : Config) : Type 0 where
  pub now : Regs
  pub is : d ≡ running fn k i now below (world e s)
  pub match : Matches x now s
  pub kept : SameIn x.frame keep now regs

-- after an exception: at the handler, with the exception pending, or out of the function
abbrev pub IsThrown : ℕ → Option ℕ → List Waiting → Setting → ℕ → Regs → Value → State → Config → Type 0
IsThrown fn None below x keep regs v s d = Escapes fn below v s d
IsThrown fn (Some h) below x keep regs v s d = (e : Thrown) × (v ≡ ExcVal e) × Stands fn h 0 below (Some e) x keep regs s d

-- ---- calls

abbrev pub BeginWith : List (List ℕ × RType) → List Sort → Type 0
BeginWith ds [] = Unit {0}
BeginWith [] (t ∷ ts) = ⊥
BeginWith (d ∷ ds) (t ∷ ts) = (d.1 ≡ rtype_of t) × BeginWith ds ts

-- the code of a function takes and gives what the function does: its first registers are of the types of the parameters
pub record HasHead (h : Func) (f : TypedFunc) : Type 0 where
  pub params : h.params ≡ length (parameter_sorts f)
  pub regs : BeginWith h.regs (parameter_sorts f)
  pub ret : h.ret ≡ rtype_of f.ret

-- a call that was left: with the value that it gives, where that has the shape of the result's type, or with an exception
abbrev pub CallGives : Program → Sort → List Waiting → State → Value → State → Config → Type 0
CallGives p t below s v u d = (w : Value) × (HasKind t v → w ≡ v) × (u.locals ≡ s.locals) × (d ≡ returning p w below (world None u))

abbrev pub CallRaises : ℕ → List Waiting → State → Value → State → Config → Type 0
CallRaises g below s v u d = (u.locals ≡ s.locals) × Escapes g below v u d

-- the globals are the module's variables, each function has its code, and a call with at most n turns left does in the machine what
-- it does in the source
pub record CallsWork (p : Program) (m : TypedModule) (n : ℕ) : Type 0 where
  pub variables : HasGlobals p m
  pub there : (g : ℕ) (f : TypedFunc) → slice_get m.funcs g ≡ Some f → (h : Func) × (slice_get p.funcs g ≡ Some h) × HasHead h f
  pub each : (g : ℕ) (f : TypedFunc) (h : Func) (args : List Value) (below : List Waiting) (s : State) → slice_get m.funcs g ≡ Some f → slice_get p.funcs g ≡ Some h → s.turns ≤ n → Ends p s.turns (running g 0 0 (first_regs h.regs (map Holds args)) below (world None s)) (calls_in m n g args s) (CallGives p f.ret below s) (CallRaises g below s)

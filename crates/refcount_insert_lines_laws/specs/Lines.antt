-- What one line does, without tests of ownership, next to what the operation or the end does that it is the line of.
use Rattle.std.specs.Prelude.{◌≡◌, ◌⊎◌, ℕ, ◌+◌, ◌-◌, ◌<◌, Bool, true, false, List, [], ◌∷◌, length, Option, Some, None, slice_get}
use Rattle.value_core.specs.Ending.{Ending, Done, Raised, Cut, Over, Broken}
use Rattle.value_core.specs.Exceptions.{Thrown}
use Rattle.c_core.specs.declared.code.Line.TheVariants as line
use Rattle.c_core.specs.declared.code.Code.{Code}
use Rattle.c_core.specs.Machine.{MachineState}
use Rattle.c_core.specs.Machine as machine
use Rattle.c_core.specs.Step.{Next, Goes, Ends, unchecked_step, line_at, label_at, jumped}
use Rattle.c_core.specs.Step as machine_step
use Rattle.c_core.specs.WellFormed.{WellFormed}
use Rattle.ir_core.specs.declared.code.RType.{RType}
use Rattle.ir_core.specs.declared.code.RType.TheVariants.{Int, Ref}
use Rattle.ir_core.specs.declared.code.Reg.{Reg}
use Rattle.ir_core.specs.declared.code.Op.{Op}
use Rattle.ir_core.specs.declared.code.Op.TheVariants.{Move, Lit, Prim, Call, Virtual, TraitCall, Turn}
use Rattle.ir_core.specs.declared.code.Last.TheVariants.{If, IfError, Return}
use Rattle.ir_core.specs.declared.code.Func.{Func}
use Rattle.ir_core.specs.declared.code.Program.{Program}
use Rattle.ir_core.specs.Lower.{line_of}
use Rattle.ir_core.specs.Registers.{Regs, is_unset}
use Rattle.ir_core.specs.Rows.{Declared, type_of_reg}
use Rattle.ir_core.specs.Effects.{World}
use Rattle.ir_core.specs.Meaning.{Frame, Waiting, Config, Runs, Ended, Stuck, Fitting, next, to_block, do_op, do_last}
use Rattle.refcount_insert_lines_laws.specs.Matching.{RegsFit, Keeps, Grows, WorldFits, HasHeads, RunsIn}

-- a run that ends by itself leaves no exception pending, and one that an exception ends leaves that one
abbrev pub EndsBy : Ending → Option Thrown → Type 0
EndsBy Done o = o ≡ None
EndsBy (Raised e) o = o ≡ Some e
EndsBy Cut o = Unit {0}
EndsBy Over o = Unit {0}
EndsBy Broken o = Unit {0}

-- ---- operations that stay in their function

abbrev pub stays : Op → Bool
stays (Move r s) = true
stays (Lit r l) = true
stays (Prim to q args) = true
stays Turn = true
stays o = false

-- the next line, in the same frame above the same frames, with these registers and this world
pub record GoesOn (p : Program) (declared : Declared) (s : MachineState) (regs : Regs) (w : World) (t : MachineState) : Type 0 where
  pub func : t.top.func ≡ s.top.func
  pub place : t.top.place ≡ s.top.place + 1
  pub into : t.top.into ≡ s.top.into
  pub below : t.below ≡ s.below
  pub grows : Grows s t
  pub registers : RegsFit t declared regs t.top.vars
  pub world : WorldFits p w t

-- the operation is stuck, both go on, or both end
pub data OpDoes (p : Program) (declared : Declared) (f : Frame) (below : List Waiting) (s : MachineState) : Config → Next → Type 0 where
  op_sticks : (n : Next) → OpDoes p declared f below s Stuck n
  op_goes : (regs : Regs) (w : World) (t : MachineState) → GoesOn p declared s regs w t → OpDoes p declared f below s (Runs (next f regs) below w) (Goes t)
  op_ends : (e : Ending) (w : World) (t : MachineState) → WorldFits p w t → EndsBy e w.pending → OpDoes p declared f below s (Ended e w) (Ends (machine_step.Ended e) t)

abbrev pub OpsDo : Type 0
OpsDo =
    (p : Program) (code : Code) → HasHeads p code → WellFormed code → (o : Op) → stays o ≡ true → (f : Frame) (below : List Waiting) (w : World) (s : MachineState) (a : RunsIn p f w s) → line_at code s.top ≡ Some (line_of p o) → OpDoes p a.func.regs f below s (do_op Fitting p o f below w) (unchecked_step code s)

-- ---- calls

-- a function was entered: its parameters hold values, and the frame that called waits behind its line
pub record Enters (p : Program) (h : Func) (n : ℕ) (into : Reg) (s : MachineState) (regs : Regs) (w : World) (t : MachineState) : Type 0 where
  pub func : t.top.func ≡ n
  pub place : t.top.place ≡ 0
  pub into_is : t.top.into ≡ Some into.0
  pub below : t.below ≡ record s.top { place = s.top.place + 1 } ∷ s.below
  pub grows : Grows s t
  pub registers : RegsFit t h.regs regs t.top.vars
  pub given : (r : ℕ) → r < h.params → is_unset (regs r) ≡ false
  pub world : WorldFits p w t

pub data CallDoes (p : Program) (declared : Declared) (n : ℕ) (into : Reg) (f : Frame) (below : List Waiting) (s : MachineState) : Config → Next → Type 0 where
  call_sticks : (m : Next) → CallDoes p declared n into f below s Stuck m
  call_enters : (h : Func) (regs : Regs) (w : World) (t : MachineState) → slice_get p.funcs n ≡ Some h → type_of_reg declared into ≡ Some h.ret → Enters p h n into s regs w t → CallDoes p declared n into f below s (Runs (record { fn = n; block = 0; place = 0; regs = regs }) (record { frame = f; into = into } ∷ below) w) (Goes t)

abbrev pub CallsDo : Type 0
CallsDo =
    (p : Program) (code : Code) → HasHeads p code → WellFormed code → (into : Reg) (n : ℕ) (args : List Reg) (f : Frame) (below : List Waiting) (w : World) (s : MachineState) (a : RunsIn p f w s) → line_at code s.top ≡ Some (line_of p (Call into n args)) → CallDoes p a.func.regs n into f below s (do_op Fitting p (Call into n args) f below w) (unchecked_step code s)

-- a call of a method has a target
abbrev pub method_target : Op → Option Reg
method_target (Virtual r o n args) = Some r
method_target (TraitCall r o t n args) = Some r
method_target o = None

-- it calls the function that the object's class has there, the same in both
abbrev pub MethodsDo : Type 0
MethodsDo =
    (p : Program) (code : Code) → HasHeads p code → WellFormed code → (o : Op) (into : Reg) → method_target o ≡ Some into → (f : Frame) (below : List Waiting) (w : World) (s : MachineState) (a : RunsIn p f w s) → line_at code s.top ≡ Some (line_of p o) → (n : ℕ) × CallDoes p a.func.regs n into f below s (do_op Fitting p o f below w) (unchecked_step code s)

-- ---- returns

-- a frame that waits has its function and its registers, and a result of the type of the function above fits its target
pub record WaitsIn (p : Program) (ret : RType) (into : Option ℕ) (k : Waiting) (fr : machine.Frame) (s : MachineState) : Type 0 where
  pub func : Func
  pub there : slice_get p.funcs k.frame.fn ≡ Some func
  pub same : fr.func ≡ k.frame.fn
  pub into_is : into ≡ Some k.into.0
  pub target : type_of_reg func.regs k.into ≡ Some ret
  pub regs : RegsFit s func.regs k.frame.regs fr.vars

-- the caller goes on at its line
pub record GoesBack (p : Program) (declared : Declared) (fr : machine.Frame) (frs : List machine.Frame) (s : MachineState) (regs : Regs) (w : World) (t : MachineState) : Type 0 where
  pub func : t.top.func ≡ fr.func
  pub place : t.top.place ≡ fr.place
  pub into : t.top.into ≡ fr.into
  pub below : t.below ≡ frs
  pub grows : Grows s t
  pub registers : RegsFit t declared regs t.top.vars
  pub world : WorldFits p w t

pub data ReturnDoes (p : Program) (declared : Declared) (k : Waiting) (ks : List Waiting) (fr : machine.Frame) (frs : List machine.Frame) (s : MachineState) : Config → Next → Type 0 where
  return_sticks : (n : Next) → ReturnDoes p declared k ks fr frs s Stuck n
  return_goes : (regs : Regs) (w : World) (t : MachineState) → GoesBack p declared fr frs s regs w t → ReturnDoes p declared k ks fr frs s (Runs (next k.frame regs) ks w) (Goes t)

-- the function that returns, and what it returns
abbrev pub ReturnsDo : Type 0
ReturnsDo =
    (p : Program) (code : Code) → HasHeads p code → WellFormed code → (x : Reg) (f : Frame) (k : Waiting) (ks : List Waiting) (w : World) (s : MachineState) (fr : machine.Frame) (frs : List machine.Frame) (a : RunsIn p f w s) → s.below ≡ fr ∷ frs → (b : WaitsIn p a.func.ret s.top.into k fr s) → line_at code s.top ≡ Some (line.Return x.0) → ReturnDoes p b.func.regs k ks fr frs s (do_last Fitting p (Return x) f (k ∷ ks) w) (unchecked_step code s)

-- the module itself comes to its end
pub data EndDoes (p : Program) (s : MachineState) : Config → Next → Type 0 where
  end_sticks : (n : Next) → EndDoes p s Stuck n
  end_is : (e : Ending) (w : World) → WorldFits p w s → EndsBy e w.pending → EndDoes p s (Ended e w) (Ends (machine_step.Ended e) s)

abbrev pub EndsDo : Type 0
EndsDo =
    (p : Program) (code : Code) → HasHeads p code → WellFormed code → (x : Reg) (f : Frame) (w : World) (s : MachineState) (a : RunsIn p f w s) → f.fn ≡ length p.funcs - 1 → s.below ≡ [] → line_at code s.top ≡ Some (line.Return x.0) → EndDoes p s (do_last Fitting p (Return x) f [] w) (unchecked_step code s)

-- ---- tests

-- the same branch is taken in both, or the program is stuck
pub data TestDoes (code : Code) (f : Frame) (below : List Waiting) (w : World) (s : MachineState) (a b n m : ℕ) : Config → Next → Type 0 where
  test_sticks : (k : Next) → TestDoes code f below w s a b n m Stuck k
  first_taken : TestDoes code f below w s a b n m (to_block f a below w) (jumped false s (label_at code s.top n))
  second_taken : TestDoes code f below w s a b n m (to_block f b below w) (jumped false s (label_at code s.top m))

abbrev pub IfsDo : Type 0
IfsDo =
    (p : Program) (code : Code) → HasHeads p code → WellFormed code → (x : Reg) (a b n m : ℕ) (f : Frame) (below : List Waiting) (w : World) (s : MachineState) (r : RunsIn p f w s) → line_at code s.top ≡ Some (line.If x.0 n m) → TestDoes code f below w s a b n m (do_last Fitting p (If x a b) f below w) (unchecked_step code s)

abbrev pub IfErrorsDo : Type 0
IfErrorsDo =
    (p : Program) (code : Code) → HasHeads p code → WellFormed code → (x : Reg) (a b source n m : ℕ) (f : Frame) (below : List Waiting) (w : World) (s : MachineState) (r : RunsIn p f w s) → line_at code s.top ≡ Some (line.IfError x.0 n m) → TestDoes code f below w s a b n m (do_last Fitting p (IfError x a b source) f below w) (unchecked_step code s)

-- ---- counts

-- in a run without tests of ownership a count only goes to the next line; one more, or one surely less, where its register holds no
-- error value
pub record Passes (s : MachineState) (next : Next) (t : MachineState) : Type 0 where
  pub goes : next ≡ Goes t
  pub func : t.top.func ≡ s.top.func
  pub place : t.top.place ≡ s.top.place + 1
  pub into : t.top.into ≡ s.top.into
  pub vars : t.top.vars ≡ s.top.vars
  pub below : t.below ≡ s.below
  pub output : t.output ≡ s.output
  pub turns : t.turns ≡ s.turns
  pub items : t.items ≡ s.items
  pub made : t.made ≡ s.made
  pub globals : t.globals ≡ s.globals
  pub pending : t.pending ≡ s.pending
  pub keeps : Keeps s t

-- the type of a register has cells
abbrev pub HasCells : Declared → ℕ → Type 0
HasCells declared r =
    (t : RType) × (type_of_reg declared (record { 0 = r }) ≡ Some t) × ((t ≡ Int) ⊎ (t ≡ Ref))

abbrev pub CountsDo : Type 0
CountsDo =
    (p : Program) (code : Code) (f : Frame) (w : World) (s : MachineState) (a : RunsIn p f w s) (r : ℕ) → HasCells a.func.regs r → (line_at code s.top ≡ Some (line.Inc r) → is_unset (f.regs r) ≡ false → (t : MachineState) × Passes s (unchecked_step code s) t) × ((line_at code s.top ≡ Some (line.Dec r) → is_unset (f.regs r) ≡ false → (t : MachineState) × Passes s (unchecked_step code s) t) × (line_at code s.top ≡ Some (line.XDec r) → (t : MachineState) × Passes s (unchecked_step code s) t))

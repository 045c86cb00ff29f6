-- Groups: lines of which each leads to the next one.
use Rattle.std.specs.Prelude.{◌≡◌, ℕ, zero, suc, ◌+◌, List, [], ◌∷◌, Option, Some, None}
use Rattle.c_core.specs.declared.code.Line.{Line}
use Rattle.c_core.specs.declared.code.Line.TheVariants.{Call, Virtual, TraitCall, Goto, If, IfError, Return}
use Rattle.c_core.specs.declared.code.Code.{Code}
use Rattle.c_core.specs.declared.primitive.Primitive.{Primitive}
use Rattle.c_core.specs.declared.fault.Fault.TheVariants as fault
use Rattle.c_core.specs.Machine.{MachineState}
use Rattle.c_core.specs.Primitives.{primitive_named}
use Rattle.c_core.specs.Step.{MachineEnding, Ended, Faulted, Next, Goes, Ends, step}
use Rattle.c_core_ownership_laws.specs.Order.{Table, Entered}
use Rattle.c_core_ownership_laws.specs.Frames.{IsMet}

-- a call is one of a primitive
abbrev pub IsPrimitive : Option Primitive → Type 0
IsPrimitive None = ⊥
IsPrimitive (Some p) = Unit {0}

-- a line that leads to the next one: no jump, no return and no call of a function or a method
abbrev pub IsStraight : Line → Type 0
IsStraight (Call x name args) = IsPrimitive (primitive_named name)
IsStraight (Virtual x o n args) = ⊥
IsStraight (TraitCall x o t n args) = ⊥
IsStraight (Goto n) = ⊥
IsStraight (If x n m) = ⊥
IsStraight (IfError x n m) = ⊥
IsStraight (Return x) = ⊥
IsStraight _ = Unit {0}

abbrev pub AreStraight : List Line → Type 0
AreStraight [] = Unit {0}
AreStraight (l ∷ ls) = IsStraight l × AreStraight ls

-- an ending that is no fault of ownership
abbrev pub IsFine : MachineEnding → Type 0
IsFine (Ended e) = Unit {0}
IsFine (Faulted fault.Kind) = Unit {0}
IsFine (Faulted fault.Dead) = ⊥
IsFine (Faulted fault.NotOwned) = ⊥
IsFine (Faulted fault.Leak) = ⊥

-- what k steps lead to
abbrev pub steps_on : Code → ℕ → Next → Next
steps_on code zero next = next
steps_on code (suc k) (Goes s) = steps_on code k (step code s)
steps_on code (suc k) (Ends e s) = Ends e s

-- a state k places further on in the same frame, above the same frames, with the shares of its place
pub record HasCome (code : Code) (t : Table) (s : MachineState) (k : ℕ) (u : MachineState) : Type 0 where
  pub func : u.top.func ≡ s.top.func
  pub place : u.top.place ≡ s.top.place + k
  pub into : u.top.into ≡ s.top.into
  pub below : u.below ≡ s.below
  pub met : IsMet code (Entered t) u

-- steps lead there, or the run ends before, in no fault of ownership
abbrev pub ComesTo : Code → Table → MachineState → ℕ → Next → Type 0
ComesTo code t s k (Goes u) = HasCome code t s k u
ComesTo code t s k (Ends e u) = IsFine e

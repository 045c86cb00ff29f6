-- The laws, as statements.
use Rattle.std.specs.Prelude.{◌≡◌, ℕ, List, ◌++◌, length, Some, slice_get}
use Rattle.value_core.specs.Ending.{Done, Raised}
use Rattle.value_core.specs.Items.{Items}
use Rattle.c_core.specs.declared.code.CFunc.{CFunc}
use Rattle.c_core.specs.declared.code.Code.{Code}
use Rattle.c_core.specs.declared.code.Line.{Line}
use Rattle.c_core.specs.Cells.{count_at}
use Rattle.c_core.specs.Holders.{holders, owned}
use Rattle.c_core.specs.Machine.{MachineState}
use Rattle.c_core.specs.Step.{MachineEnding, Ended, Goes, step, unchecked_step}
use Rattle.c_core.specs.Run.{Stop, module_function, start, machine_run, unchecked_run}
use Rattle.c_core.specs.Laws.{IsCounted, Reaches}
use Rattle.c_core.specs.WellFormed.{WellFormed}
use Rattle.c_core_ownership_laws.specs.Order.{from, Table, Entered, AreInOrder, labels_of, ArePlaced}
use Rattle.c_core_ownership_laws.specs.Frames.{IsMet}
use Rattle.c_core_ownership_laws.specs.Groups.{AreStraight, IsFine, steps_on, ComesTo}
use Rattle.c_core_ownership_laws.specs.Alike.{IsLike, Alike}

-- no run of a code that is in order by some table ends in a fault of ownership, whatever the turns and the input
abbrev pub OrderIsSafe : Type 0
OrderIsSafe =
    (code : Code) (t : Table) → AreInOrder code t → (n : ℕ) (items : Items) (stop : Stop) → machine_run n items code ≡ Some stop → IsFine stop.ending

-- From states that are alike, where the counts of the first are right, the checked step does what the unchecked one does, or it
-- ends in a fault of ownership.
abbrev pub StepIsUnchecked : Type 0
StepIsUnchecked =
    (code : Code) (s u : MachineState) → IsCounted s → IsLike s u → Alike (step code s) (unchecked_step code u)

-- two stops with the same ending, the same output, and states that are alike
pub record AgreesWith (stop free : Stop) : Type 0 where
  pub ending : stop.ending ≡ free.ending
  pub output : stop.state.output ≡ free.state.output
  pub like : IsLike stop.state free.state

-- where the unchecked run of a code that is in order by some table stops within its bound, the checked run stops within the same
-- bound, as the unchecked one
abbrev pub RunIsUnchecked : Type 0
RunIsUnchecked =
    (code : Code) (t : Table) → AreInOrder code t → (n : ℕ) (items : Items) (free : Stop) → unchecked_run n items code ≡ Some free → (stop : Stop) × (machine_run n items code ≡ Some stop) × AgreesWith stop free

-- where the code is well formed too, both runs stop within the bound
abbrev pub RunsAgree : Type 0
RunsAgree =
    (code : Code) (t : Table) → WellFormed code → AreInOrder code t → (n : ℕ) (items : Items) → (stop : Stop) × (free : Stop) × (machine_run n items code ≡ Some stop) × (unchecked_run n items code ≡ Some free) × AgreesWith stop free

-- a code whose places have the shares of a table is in order, by what the table says of its labels
abbrev pub PlacedIsInOrder : Type 0
PlacedIsInOrder = (code : Code) (t : Table) → ArePlaced code t → AreInOrder code (labels_of code t)

-- Each state of each run of such a code has those shares: the frame that runs has those of its place, so its ledger is what its variables
-- own by them, and each frame that waits has those of the place of its call.
abbrev pub PlacesAreMet : Type 0
PlacesAreMet =
    (code : Code) (t : Table) → ArePlaced code t → (n : ℕ) (items : Items) (g : CFunc) → slice_get code.funcs (module_function code) ≡ Some g → (k : ℕ) (s : MachineState) → Reaches code k (start code n items) s → IsMet code (Entered t) s

-- Some lines of which each leads to the next one bring each state of a run of such a code, in as many steps, to the place behind them, with the
-- shares of that place; or the run ends on the way, in no fault of ownership.
abbrev pub GroupRuns : Type 0
GroupRuns =
    (code : Code) (t : Table) → ArePlaced code t → (n : ℕ) (items : Items) (top : CFunc) → slice_get code.funcs (module_function code) ≡ Some top → (k : ℕ) (s : MachineState) → Reaches code k (start code n items) s → (g : CFunc) → slice_get code.funcs s.top.func ≡ Some g → (ls rest : List Line) → AreStraight ls → from s.top.place g.lines ≡ ls ++ rest → ComesTo code t s (length ls) (steps_on code (length ls) (Goes s))

-- the end of a program: it is done, or an exception was raised
abbrev pub IsFinished : MachineEnding → Type 0
IsFinished (Ended Done) = Unit {0}
IsFinished (Ended (Raised e)) = Unit {0}
IsFinished _ = ⊥

-- at the end of a program no ledger owns a reference, and each count is the number of places that hold the cell
abbrev pub EndOwnsNothing : Type 0
EndOwnsNothing =
    (code : Code) (n : ℕ) (items : Items) (stop : Stop) → machine_run n items code ≡ Some stop → IsFinished stop.ending → (c : ℕ) → (owned stop.state c ≡ 0) × (count_at stop.state.cells c ≡ holders stop.state c)

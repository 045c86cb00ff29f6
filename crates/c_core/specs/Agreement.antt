-- When a run of the machine does what a program of the source does: it has the source's output and ending, and no fault; and where it
-- ends, the machine's cells are the source's objects, each counted as often as something holds it.
use Rattle.std.specs.Prelude.{◌≡◌, ℕ, List, Option, Some, None}
use Rattle.value_core.specs.Exceptions.{Thrown}
use Rattle.value_core.specs.Value.{Value, Store}
use Rattle.value_core.specs.Ending.{Ending, Done, Raised, Cut, Over, Broken}
use Rattle.c_core.specs.Cells.{count_at}
use Rattle.c_core.specs.Machine.{Content, ExcCell, MachineState}
use Rattle.c_core.specs.Holders.{holders}
use Rattle.c_core.specs.Stands.{Stands, IsLive}
use Rattle.c_core.specs.Step.{Ended}
use Rattle.c_core.specs.Run.{Stop}

-- where a run of the source stops: its output and its ending, the objects that it made and the values of the module's
-- variables, None where one is unset
pub record SourceStop : Type 0 where
  pub output : List ℕ
  pub ending : Ending
  pub store : Store
  pub variables : List (Option Value)

-- the machine holds the source's objects, and each live cell is held as often as it is counted
pub record IsWhole (source : SourceStop) (s : MachineState) : Type 0 where
  pub stands : Stands source.store source.variables s
  pub counted : (c : ℕ) (content : Content) → IsLive s c content → count_at s.cells c ≡ holders s c

-- the pending exception is a cell of this exception
abbrev pub IsPending : Thrown → MachineState → Type 0
IsPending e s = (c : ℕ) × (s.pending ≡ Some c) × IsLive s c (ExcCell e)

-- what holds at an ending: of one that comes by itself or by an exception everything, of the others nothing is said,
-- since frames then still own references
abbrev pub EndsWhole : Ending → SourceStop → MachineState → Type 0
EndsWhole Done source s = IsWhole source s × (s.pending ≡ None)
EndsWhole (Raised e) source s = IsWhole source s × IsPending e s
EndsWhole Cut source s = Unit {0}
EndsWhole Over source s = Unit {0}
EndsWhole Broken source s = Unit {0}

-- a run of the machine agrees with the source's: it ends as that does, so without a fault
pub record Agrees (source : SourceStop) (stop : Stop) : Type 0 where
  pub same_output : stop.state.output ≡ source.output
  pub same_ending : stop.ending ≡ Ended source.ending
  pub whole : EndsWhole source.ending source stop.state

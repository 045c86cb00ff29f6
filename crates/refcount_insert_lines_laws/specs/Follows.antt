-- When the runs of a code do what a program does.
use Rattle.std.specs.Prelude.{◌≡◌, ℕ, map, Some, None}
use Rattle.value_core.specs.Ending.{Ending, Done, Raised, Cut, Over, Broken}
use Rattle.value_core.specs.Items.{Items}
use Rattle.c_core.specs.declared.code.Code.{Code}
use Rattle.c_core.specs.Agreement.{SourceStop, Agrees, IsPending}
use Rattle.c_core.specs.Machine.{MachineState}
use Rattle.c_core.specs.Stands.{Stands}
use Rattle.c_core.specs.Step.{Goes, unchecked_step}
use Rattle.c_core.specs.Step as machine_step
use Rattle.c_core.specs.Run.{Stop, go_on, start, machine_run, unchecked_run}
use Rattle.c_core.specs.WellFormed.{WellFormed}
use Rattle.ir_core.specs.declared.code.Program.{Program}
use Rattle.ir_core.specs.Effects.{World}
use Rattle.ir_core.specs.Lower.{global_of}
use Rattle.ir_core.specs.Runs.{ComesTo}

-- where a program stops, in the terms of a source
abbrev pub stop_of : Ending → World → SourceStop
stop_of e w = record { output = w.output; ending = e; store = w.store; variables = w.globals }

-- ---- without tests of ownership

-- what holds of the cells at an ending: that they are the source's objects, but not yet how often each is counted
abbrev pub EndsStanding : Ending → SourceStop → MachineState → Type 0
EndsStanding Done source s = Stands source.store source.variables s × (s.pending ≡ None)
EndsStanding (Raised e) source s = Stands source.store source.variables s × IsPending e s
EndsStanding Cut source s = Unit {0}
EndsStanding Over source s = Unit {0}
EndsStanding Broken source s = Unit {0}

pub record StandsAs (source : SourceStop) (stop : Stop) : Type 0 where
  pub same_output : stop.state.output ≡ source.output
  pub same_ending : stop.ending ≡ machine_step.Ended source.ending
  pub standing : EndsStanding source.ending source stop.state

-- the run of a code without tests of ownership stops, and as the program ends
pub record UncheckedFollows (p : Program) (code : Code) (turns : ℕ) (items : Items) : Type 0 where
  pub bound : ℕ
  pub stop : Stop
  pub runs : go_on (unchecked_step code) bound (Goes (start code turns items)) ≡ Some stop
  pub ending : Ending
  pub world : World
  pub comes : ComesTo p turns items ending world
  pub stands : StandsAs (stop_of ending world) stop

-- ---- with them

-- the run of a code stops, without a fault, and agrees with the program as a run agrees with a source; so does the run without tests
-- of ownership, within the same bound
pub record RunFollows (p : Program) (code : Code) (turns : ℕ) (items : Items) : Type 0 where
  pub stop : Stop
  pub runs : machine_run turns items code ≡ Some stop
  pub ending : Ending
  pub world : World
  pub comes : ComesTo p turns items ending world
  pub agrees : Agrees (stop_of ending world) stop
  pub free : Stop
  pub runs_free : unchecked_run turns items code ≡ Some free
  pub stands : StandsAs (stop_of ending world) free

-- a code follows a program: it is well formed, it has the program's globals, and all its runs do what the program does
pub record Follows (p : Program) (code : Code) : Type 0 where
  pub is_well_formed : WellFormed code
  pub same_globals : code.globals ≡ map global_of p.globals
  pub runs : (turns : ℕ) (items : Items) → RunFollows p code turns items

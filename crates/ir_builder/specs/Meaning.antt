-- When a program does what a module does.
use Rattle.std.specs.Prelude.{◌≡◌, ℕ, List, Some}
use Rattle.value_core.specs.Ending.{Ending}
use Rattle.value_core.specs.Items.{Items}
use Rattle.py_typed.specs.Statements.{TypedModule}
use Rattle.source_meaning.specs.SourceRun.{ModuleStop, source_run}
use Rattle.ir_core.specs.declared.code.RType.{RType}
use Rattle.ir_core.specs.declared.code.Program.{Program}
use Rattle.ir_core.specs.Effects.{World}
use Rattle.ir_core.specs.Runs.{ComesTo}
use Rattle.ir_builder_frames.specs.Settings.{variable_registers}

-- where a program stops, in the terms of a module
abbrev pub module_stop : Ending → World → ModuleStop
module_stop e w = record { output = w.output; ending = Some e; store = w.store; variables = w.globals }

-- for every number of turns and all input it comes to the module's output, ending, objects and variables
pub record ComesAsModule (m : TypedModule) (p : Program) (turns : ℕ) (items : Items) : Type 0 where
  pub ending : Ending
  pub world : World
  pub comes : ComesTo p turns items ending world
  pub same : source_run turns items m ≡ module_stop ending world

abbrev pub DoesAsModule : TypedModule → Program → Type 0
DoesAsModule m p = (turns : ℕ) (items : Items) → ComesAsModule m p turns items

-- a module's variables as a program's globals
abbrev pub globals_of : TypedModule → List (List ℕ × RType)
globals_of m = variable_registers m.globals

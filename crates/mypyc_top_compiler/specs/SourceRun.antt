-- Where the run of a module stops by the rules of the source (`source_meaning/specs/SourceRun.antt`), in the terms in which the
-- machine's run is held to it.
use Rattle.std.specs.Prelude.{◌≡◌, ℕ, Some}
use Rattle.value_core.specs.Items.{Items}
use Rattle.py_typed.specs.Statements.{TypedModule}
use Rattle.source_meaning.specs.SourceRun.{ModuleStop, source_run}
use Rattle.c_core.specs.Agreement.{SourceStop}

-- it has an ending: it is not stuck
abbrev pub module_stop : SourceStop → ModuleStop
module_stop s = record { output = s.output; ending = Some s.ending; store = s.store; variables = s.variables }

-- a module's run for n turns on these lines of input stops here
abbrev pub StopsAt : TypedModule → ℕ → Items → SourceStop → Type 0
StopsAt m n items s = source_run n items m ≡ module_stop s

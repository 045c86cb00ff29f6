-- What the modes that run a program answer.
use Rattle.std.specs.Prelude.{◌≡◌, ℕ, List, [], ◌++◌, length, Some}
use Rattle.value_core.specs.Items.{Items}
use Rattle.py_typed.specs.Statements.{TypedModule}
use Rattle.c_core.specs.declared.code.Code.{Code}
use Rattle.c_core.specs.Text.{code_text}
use Rattle.c_core.specs.WellFormed.{WellFormed}
use Rattle.c_core.specs.Agreement.{SourceStop}
use Rattle.value_core.specs.Ending.{Ending}
use Rattle.c_core.specs.Run.{Stop, machine_run}
use Rattle.c_text.specs.Reading.{HasCode, HasWellFormed, RefusedAt}
use Rattle.mypyc_top_status.specs.declared.status.Status.{Status}
use Rattle.mypyc_top_status.specs.declared.status.Status.TheVariants as status
use Rattle.mypyc_top_status.specs.ErrorLines.{refused_line, ill_formed_line}
use Rattle.mypyc_top_status.specs.Endings.{ending_status, ending_line, machine_status, machine_line}
use Rattle.mypyc_top_running.specs.Summary.{cells_left, summary}
use Rattle.mypyc_top_compiler.specs.SourceRun.{StopsAt}
use Rattle.mypyc_top_compiler.specs.Faithful.{Faithful}

-- the line for the ending of a source: the cells that it may tell of are those of the run of a code that is faithful to it
abbrev pub IsSourceLine : TypedModule → ℕ → Items → Ending → List ℕ → Type 0
IsSourceLine m turns items ending err =
    (code : Code) × Faithful m code × ((stop : Stop) × (machine_run turns items code ≡ Some stop) × (err ≡ ending_line ending (length (cells_left code stop))))

-- a module that is run gives the output of its source for these turns and this input, and a line and a status by the ending
abbrev pub ModuleRun : TypedModule → ℕ → Items → List ℕ → List ℕ → Status → Type 0
ModuleRun m turns items out err s =
    (source : SourceStop) × StopsAt m turns items source × (out ≡ source.output)
    × IsSourceLine m turns items source.ending err × (s ≡ ending_status source.ending)

-- the run of a code gives its output with the summary, and a line and a status by its ending
abbrev pub CodeRun : Code → ℕ → Items → List ℕ → List ℕ → Status → Type 0
CodeRun code turns items out err s =
    (stop : Stop) × (machine_run turns items code ≡ Some stop) × (out ≡ stop.state.output ++ summary code stop)
    × (err ≡ machine_line stop.ending (length (cells_left code stop))) × (s ≡ machine_status stop.ending)

-- A file that is run as C text: it is refused where it is the text of no spelled code, and where none of those is well
-- formed; else the well-formed code that has the text is run.
pub data TextRun (file bytes : List ℕ) (turns : ℕ) (items : Items) (out err : List ℕ) (s : Status) : Type 0 where
  no_text : (place : ℕ) → ¬ (HasCode bytes) → RefusedAt bytes place → out ≡ [] → err ≡ refused_line file place → s ≡ status.TextRefused → TextRun file bytes turns items out err s
  ill_formed : HasCode bytes → ¬ (HasWellFormed bytes) → out ≡ [] → err ≡ ill_formed_line file → s ≡ status.TextRefused → TextRun file bytes turns items out err s
  runs : (code : Code) → WellFormed code → code_text code ≡ bytes → CodeRun code turns items out err s → TextRun file bytes turns items out err s

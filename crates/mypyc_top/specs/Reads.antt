-- What a call took of the input.
use Rattle.std.specs.Prelude.{◌≡◌, ◌⊎◌, ℕ, ◌+◌, Bool, true, false, not, ◌||◌, List, ◌++◌, length, Some, IsTrue}
use Rattle.value_core.specs.Items.{Items}
use Rattle.c_core.specs.declared.code.Code.{Code}
use Rattle.c_core.specs.Text.{code_text}
use Rattle.c_core.specs.WellFormed.{WellFormed}
use Rattle.c_core.specs.Run.{Stop, machine_run}
use Rattle.mypyc_top_words.specs.declared.words.Emit.{Emit}
use Rattle.mypyc_top_words.specs.declared.words.Emit.TheVariants as emit
use Rattle.mypyc_top_words.specs.declared.words.Words.{Words}
use Rattle.mypyc_top_words.specs.declared.words.Words.TheVariants.{Usage, Go}
use Rattle.mypyc_top_status.specs.declared.status.Status.{Status}
use Rattle.mypyc_top_status.specs.declared.status.Status.TheVariants as status
use Rattle.mypyc_top_status.specs.Endings.{machine_status, machine_line}
use Rattle.mypyc_top_status.specs.Causes.{Yields}
use Rattle.mypyc_top_status.specs.Sinks.{SinkCall}
use Rattle.mypyc_top_running.specs.Summary.{cells_left}
use Rattle.mypyc_top_running.specs.Programs.{behind_output}
use Rattle.mypyc_top_running.specs.Takes.{TookBy}
use Rattle.mypyc_top.specs.declared.plan.Plan.{Plan}
use Rattle.mypyc_top.specs.declared.plan.Plan.TheVariants.{Send, Run}

-- whether a program is run in the mode
abbrev pub runs : Emit → Bool
runs emit.Run = true
runs emit.Runc = true
runs _ = false

-- whether the words can run one
abbrev pub runs_program : Words → Bool
runs_program Usage = false
runs_program (Go r) = runs r.emit

-- the turns that the words give a run
abbrev pub turns_of : Words → ℕ
turns_of Usage = 0
turns_of (Go r) = r.turns

-- whether the words ask for the run of a C text
abbrev pub is_text : Emit → Bool
is_text emit.Runc = true
is_text _ = false

abbrev pub runs_text : Words → Bool
runs_text Usage = false
runs_text (Go r) = is_text r.emit

-- a program that is planned is that of a C text of these bytes
abbrev pub OfText : List ℕ → Plan → Type 0
OfText bytes (Send reply) = Unit {0}
OfText bytes (Run program) = code_text program.code ≡ bytes

-- a program that is planned has so many turns
abbrev pub HasTurns : ℕ → Plan → Type 0
HasTurns n (Send reply) = Unit {0}
HasTurns n (Run program) = program.turns ≡ n

-- the statuses of a call that ran no program
abbrev pub is_unrun : Status → Bool
is_unrun status.Diagnosed = true
is_unrun status.Usage = true
is_unrun status.OpenFault = true
is_unrun status.ReadFault = true
is_unrun status.TooLarge = true
is_unrun status.TextRefused = true
is_unrun _ = false

-- the input is left as it was where the words run no program, and where none was run
abbrev pub leaves_input : Words → Status → Bool
leaves_input words s = not (runs_program words) || is_unrun s

-- The run behind an answer, and what it took of an input that tells its bytes: the output, the line and the status of the run of a well-formed
-- code for so many turns on these lines are the answer, and what was taken is what that very run says of its lines; where a C text is run it
-- is that text's code. Want of memory or a refusal of a sink can come between.
pub record RunRead (items : Items) (turns : ℕ) (out : SinkCall) (left left' : List ℕ) (IsCode : Code → Type 0) (IsAnswer : List ℕ → List ℕ → Status → Type 0) (s : Status) : Type 0 where
  pub code : Code
  pub formed : WellFormed code
  pub is_code : IsCode code
  pub has_summary : Bool
  pub stop : Stop
  pub run : machine_run turns items code ≡ Some stop
  pub ending : (s ≡ machine_status stop.ending) ⊎ Yields s
  pub answer : IsAnswer (stop.state.output ++ behind_output has_summary stop.ending (cells_left code stop)) (machine_line stop.ending (length (cells_left code stop))) (machine_status stop.ending)
  pub took : TookBy s code turns out items stop left left'

-- whether a program was run, by a status that comes where one is: memory may have run out, or a sink refused, also where none was
abbrev pub ReadBy : Status → Type 0 → Type 0 → Type 0
ReadBy status.WriteFault Alone Read = Alone ⊎ Read
ReadBy status.Memory Alone Read = Alone ⊎ Read
ReadBy _ Alone Read = Read

-- a program is planned only where one is run in the mode, and there each reply says that none was run
abbrev pub PlanRuns : Bool → Plan → Type 0
PlanRuns true (Send reply) = IsTrue (is_unrun reply.status)
PlanRuns true (Run program) = Unit {0}
PlanRuns false (Send reply) = Unit {0}
PlanRuns false (Run program) = ⊥

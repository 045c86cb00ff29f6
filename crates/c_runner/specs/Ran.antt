-- What a call that runs a code gives.
use Rattle.std.specs.Prelude.{◌≡◌, ◌⊎◌, ℕ, ◌+◌, ◌-◌, ◌<◌, ◌≤◌, Bool, true, false, List, [], ◌++◌, length, take, IsTrue, Result, Ok, Err}
use Rattle.std.specs.List.{concat}
use Rattle.value_core.specs.Items.{Items, Line, Bad, InputEnd, AtEof, AtFailure, input_items, pieces, lines_from}
use Rattle.outside_core.specs.Bytes.{TakesFront, GivesAtMost, bytes_between}
use Rattle.outside_core.specs.Counts.{count_end, has_risen, one_more}
use Rattle.c_core.specs.declared.code.Code.{Code}
use Rattle.value_core.specs.Ending as source
use Rattle.c_core.specs.Machine.{MachineState}
use Rattle.c_core.specs.Step.{Ended}
use Rattle.c_core.specs.Run.{Stop, start}
use Rattle.c_core.specs.Laws.{Reaches}
use Rattle.c_runner_lines.specs.Held.{most_read, piece_size}
use Rattle.c_runner.specs.declared.report.Report.{Report}
use Rattle.c_runner.specs.declared.report.RunError.{RunError}
use Rattle.c_runner.specs.declared.report.RunError.TheVariants.{InputFault, WriteFault, Memory}
use Rattle.c_runner_deeds.specs.Handing.{has_bytes}
use Rattle.c_runner.specs.Report.{Reports}

-- the lines that a source gave in a call: those of all that it told before where no read failed in the call, and else
-- those of the bytes that it gave, behind which reading failed
abbrev pub given_items : Bool → List ℕ → List ℕ → Items
given_items false before after = input_items before AtEof
given_items true before after = input_items (bytes_between before after) AtFailure

-- lines are those of some bytes, with the end that these have
abbrev pub AreLines : Items → Type 0
AreLines items = (bytes : List ℕ) × ((e : InputEnd) × (items ≡ input_items bytes e))

-- lines are those that a source gave, where it tells its content and its count of faults was not at its end: of any other
-- source nothing more is said
abbrev pub AreGiven : Bool → ℕ → ℕ → List ℕ → List ℕ → Items → Type 0
AreGiven tells faults_before faults_after before after items =
    AreLines items × (IsTrue tells → faults_before < count_end → items ≡ given_items (has_risen faults_before faults_after) before after)

-- A report is that of the run, whose output the sink took; where reading the input failed the run is broken off there, and it is told
-- whether there was any output; where the sink refused a call or memory ran out the sink took a front of the output
abbrev pub Ran : Code → Stop → Bool → List ℕ → List ℕ → Result Report RunError → Type 0
Ran code stop tells before after (Ok report) =
    Reports code report stop × (IsTrue tells → after ≡ before ++ stop.state.output)
Ran code stop tells before after (Err (InputFault any)) =
    (stop.ending ≡ Ended source.Broken) × (IsTrue tells → after ≡ before ++ stop.state.output) × (any ≡ has_bytes stop.state.output)
Ran code stop tells before after (Err WriteFault) = IsTrue tells → TakesFront before after stop.state.output
Ran code stop tells before after (Err Memory) = IsTrue tells → TakesFront before after stop.state.output

-- how many lines are left, and how many were used where of some lines these are left
abbrev pub line_count : Items → ℕ
line_count (Line text next) = line_count next + 1
line_count (Bad next) = line_count next + 1
line_count _ = 0

abbrev pub lines_used : Items → Items → ℕ
lines_used items left = line_count items - line_count left

-- where the first lines of some bytes end
abbrev pub lines_end : ℕ → List ℕ → ℕ
lines_end lines bytes = length (concat (take lines (pieces bytes)))

-- where no line ended too far along, fewer bytes were taken behind those that were used than one read gives, and none where no line was used
pub record TookNear (items : Items) (used ahead : List ℕ) (stop : Stop) : Type 0 where
  pub near : length ahead < piece_size
  pub none : lines_used items stop.state.items ≡ 0 → used ++ ahead ≡ []

-- what a run took of an input that tells its bytes: those of the lines that it used, each whole and no others, and some behind them, no more
-- in all than one byte more than may be used. The lines that are left are those of the bytes behind the ones that were used
pub record TookLines (items : Items) (stop : Stop) (left left' : List ℕ) : Type 0 where
  pub used : List ℕ
  pub ahead : List ℕ
  pub given : left ≡ used ++ (ahead ++ left')
  pub whole : used ≡ concat (take (lines_used items stop.state.items) (pieces left))
  pub follows : stop.state.items ≡ lines_from (length used) AtEof (pieces (ahead ++ left'))
  pub within : length used + length ahead ≤ most_read
  pub usual : (stop.ending ≡ Ended source.Over) ⊎ TookNear items used ahead stop

-- so many lines were used, and fewer bytes were taken behind the last one than one read gives, and none where no line was used
pub record TookUpTo (lines : ℕ) (left left' : List ℕ) : Type 0 where
  pub taken : List ℕ
  pub given : left ≡ taken ++ left'
  pub near : length taken < lines_end lines left + piece_size
  pub none : lines ≡ 0 → taken ≡ []

-- What a run took that was broken off, because memory ran out or the sink refused a call: what was taken up to some state that the run
-- comes to is all, and the sink took the whole output up to that state. So no line was used behind a call that a sink that tells refused. The
-- run may stop there, at a line that ends too far along
pub record TookSome (code : Code) (turns : ℕ) (items : Items) (stop : Stop) (tells : Bool) (sink sink' left left' : List ℕ) : Type 0 where
  pub state : MachineState
  pub steps : ℕ
  pub comes : Reaches code steps (start code turns items) state
  pub sent : IsTrue tells → (more : List ℕ) × (sink' ≡ sink ++ (state.output ++ more))
  pub within : GivesAtMost most_read left left'
  pub usual : (stop ≡ record { ending = Ended source.Over; state = state }) ⊎ TookUpTo (lines_used items state.items) left left'

-- what a call took by its answer; where a read failed, the run's lines end with the bytes that were taken
abbrev pub Took : Code → ℕ → Bool → List ℕ → List ℕ → Result Report RunError → Items → Stop → List ℕ → List ℕ → Type 0
Took code turns tells sink sink' (Ok report) items stop left left' = TookLines items stop left left'
Took code turns tells sink sink' (Err (InputFault any)) items stop left left' = GivesAtMost most_read left left'
Took code turns tells sink sink' (Err WriteFault) items stop left left' = TookSome code turns items stop tells sink sink' left left'
Took code turns tells sink sink' (Err Memory) items stop left left' = TookSome code turns items stop tells sink sink' left left'

-- the sink's count of faults: a refusal is counted once, and ends the call
abbrev pub faults_of_out : Result Report RunError → ℕ → ℕ
faults_of_out (Err WriteFault) n = one_more n
faults_of_out _ n = n

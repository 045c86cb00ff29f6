-- What a program that is run gives, and what the sinks take of it.
use Rattle.std.specs.Prelude.{◌≡◌, ◌⊎◌, ℕ, ◌≤◌, Bool, true, false, List, [], ◌++◌, length, Some, Result, Ok, Err}
use Rattle.value_core.specs.Items.{Items}
use Rattle.c_core.specs.WellFormed.{WellFormed}
use Rattle.c_core.specs.Step.{MachineEnding}
use Rattle.c_core.specs.Run.{Stop, most_turns, machine_run}
use Rattle.c_runner.specs.declared.report.LiveCell.{LiveCell}
use Rattle.mypyc_top_status.specs.declared.status.Status.{Status}
use Rattle.mypyc_top_status.specs.declared.status.Status.TheVariants as status
use Rattle.mypyc_top_status.specs.declared.reply.Reply.{Reply}
use Rattle.mypyc_top_status.specs.Output.{output_text}
use Rattle.mypyc_top_status.specs.Endings.{machine_status, machine_line}
use Rattle.mypyc_top_status.specs.Sinks.{SinkCall, Took, TookFront}
use Rattle.mypyc_top_status.specs.Gave.{Gave}
use Rattle.mypyc_top_running.specs.declared.running.Program.{Program}
use Rattle.mypyc_top_running.specs.declared.running.Rest.{Rest}
use Rattle.mypyc_top_running.specs.declared.running.Unfinished.{Unfinished}
use Rattle.mypyc_top_running.specs.Summary.{cells_left, summary_at}

-- what stands behind the output of a program that ended so and left these cells: its summary, if it is to have one
abbrev pub behind_output : Bool → MachineEnding → List LiveCell → List ℕ
behind_output true ending cells = summary_at ending cells
behind_output false ending cells = []

abbrev pub behind : Program → Stop → List ℕ
behind program stop = behind_output program.has_summary stop.ending (cells_left program.code stop)

abbrev pub program_text : Program → Stop → List ℕ
program_text program stop = stop.state.output ++ behind program stop

abbrev pub program_line : Program → Stop → List ℕ
program_line program stop = machine_line stop.ending (length (cells_left program.code stop))

-- a program that can be run
abbrev pub IsRunnable : Program → Type 0
IsRunnable program = WellFormed program.code × (program.turns ≤ most_turns)

-- what is left to send of a run that ended so and left these cells: what stands behind its output, its line, its status
abbrev pub IsRest : Bool → MachineEnding → List LiveCell → Reply → Type 0
IsRest has_summary ending cells rest =
    (output_text rest.out ≡ behind_output has_summary ending cells) × (rest.err.items ≡ machine_line ending (length cells))
    × (rest.status ≡ machine_status ending)

-- what the output took where a program was run: all of its output, and the rest is left to send, or else a front of it
abbrev pub Finishes : Program → Stop → SinkCall → Result Rest Unfinished → Type 0
Finishes program stop out (Ok rest) =
    Took out stop.state.output × IsRest program.has_summary stop.ending (cells_left program.code stop) rest.reply
    × (stop.state.output ≡ [] → rest.has_output ≡ false)
Finishes program stop out (Err unfinished) = TookFront out stop.state.output

-- the run of a program and what the sinks took of it; a sink that is to get nothing is left alone
pub record RunGave (program : Program) (items : Items) (out err : SinkCall) (OutAlone ErrAlone : Type 0) (s : Status) : Type 0 where
  pub stop : Stop
  pub run : machine_run program.turns items program.code ≡ Some stop
  pub gave : Gave out err (program_text program stop) (program_line program stop) (machine_status stop.ending) s
  pub out_alone : program_text program stop ≡ [] → OutAlone
  pub err_alone : program_line program stop ≡ [] → (s ≡ status.Memory) ⊎ ErrAlone

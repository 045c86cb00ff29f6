-- What is answered by the way in which a program ends: the status, and the line on errors.
use Rattle.std.specs.Prelude.{ℕ, List, []}
use Rattle.value_core.specs.Ending.{Ending, Done, Raised, Cut, Over, Broken}
use Rattle.c_core.specs.Step.{MachineEnding, Ended, Faulted}
use Rattle.mypyc_top_status.specs.declared.status.Status.{Status}
use Rattle.mypyc_top_status.specs.declared.status.Status.TheVariants as status
use Rattle.mypyc_top_status.specs.ErrorLines.{raised_line, turns_line, long_input_line, input_line, ownership_line}

abbrev pub ending_status : Ending → Status
ending_status Done = status.Done
ending_status (Raised e) = status.Raised
ending_status Cut = status.Cut
ending_status Over = status.InputOver
ending_status Broken = status.InputFault

-- `live` is how many cells are there at the end
abbrev pub ending_line : Ending → ℕ → List ℕ
ending_line Done live = []
ending_line (Raised e) live = raised_line e
ending_line Cut live = turns_line live
ending_line Over live = long_input_line
ending_line Broken live = input_line

-- a run of C text may end in a fault too
abbrev pub machine_status : MachineEnding → Status
machine_status (Ended e) = ending_status e
machine_status (Faulted f) = status.Faulted

abbrev pub machine_line : MachineEnding → ℕ → List ℕ
machine_line (Ended e) live = ending_line e live
machine_line (Faulted f) live = ownership_line

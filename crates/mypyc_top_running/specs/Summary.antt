-- The summary that stands behind the output of a C text: how its run ended, how many cells were left, and each of them
-- with its count, in the order in which they were made.
use Rattle.std.specs.Prelude.{ℕ, List, [], ◌++◌, length, codes, decimal, flat_map}
use Rattle.value_core.specs.Exceptions.{class_name}
use Rattle.c_core.specs.declared.code.Code.{Code}
use Rattle.c_core.specs.declared.fault.Fault.{Fault}
use Rattle.c_core.specs.declared.fault.Fault.TheVariants.{Kind, Dead, NotOwned, Leak}
use Rattle.value_core.specs.Ending.{Done, Raised, Cut, Over, Broken}
use Rattle.c_core.specs.Step.{MachineEnding, Ended, Faulted}
use Rattle.c_core.specs.Run.{Stop}
use Rattle.c_runner.specs.declared.report.LiveCell.{LiveCell}
use Rattle.c_runner.specs.Report.{live_cells}

abbrev pub fault_name : Fault → List ℕ
fault_name Kind = codes "Kind"
fault_name Dead = codes "Dead"
fault_name NotOwned = codes "NotOwned"
fault_name Leak = codes "Leak"

-- a run that could not read its input has no summary, and its ending no name there
abbrev pub ending_name : MachineEnding → List ℕ
ending_name (Ended Done) = codes "Done"
ending_name (Ended (Raised e)) = codes "Raised " ++ class_name e.class
ending_name (Ended Cut) = codes "Cut"
ending_name (Ended Over) = codes "Over"
ending_name (Ended Broken) = []
ending_name (Faulted f) = codes "Fault " ++ fault_name f

abbrev pub cell_line : LiveCell → List ℕ
cell_line cell = codes "-- " ++ (cell.kind ++ (codes " " ++ (decimal cell.count ++ codes "\n")))

abbrev pub summary_text : MachineEnding → List LiveCell → List ℕ
summary_text ending cells =
    codes "-- " ++ (ending_name ending ++ (codes "\n-- live " ++ (decimal (length cells) ++ (codes "\n" ++ flat_map cell_line cells))))

-- the cells that are there where the run of a code stopped
abbrev pub cells_left : Code → Stop → List LiveCell
cells_left code stop = live_cells code.classes stop.state.cells

-- the summary, which a run that could not read its input does not have
abbrev pub summary_at : MachineEnding → List LiveCell → List ℕ
summary_at (Ended Broken) cells = []
summary_at ending cells = summary_text ending cells

abbrev pub summary : Code → Stop → List ℕ
summary code stop = summary_at stop.ending (cells_left code stop)

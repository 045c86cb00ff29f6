-- When a report is that of a run.
use Rattle.std.specs.Prelude.{◌≡◌, ℕ, List, [], ◌∷◌, Option, Some, None, codes, slice_get}
use Rattle.value_core.specs.Exceptions.{class_name}
use Rattle.c_core.specs.declared.code.CClass.{CClass}
use Rattle.c_core.specs.declared.code.Code.{Code}
use Rattle.c_core.specs.Cells.{Cells}
use Rattle.c_core.specs.Machine.{Content, IntCell, StrCell, ListCell, DictCell, TupleCell, InstCell, ExcCell}
use Rattle.c_core.specs.Run.{Stop}
use Rattle.c_runner.specs.declared.report.LiveCell.{LiveCell}
use Rattle.c_runner.specs.declared.report.Report.{Report}
use Rattle.c_runner_deeds.specs.Handing.{has_bytes}
use Rattle.c_runner_deeds.specs.States.{ending_of}

-- what a cell holds, by name: an instance by its class's, an exception by its own class's
abbrev pub name_of_class : Option CClass → List ℕ
name_of_class None = []
name_of_class (Some class) = class.name

abbrev pub kind_name : List CClass → Content → List ℕ
kind_name classes (IntCell n) = codes "Int"
kind_name classes (StrCell text) = codes "Str"
kind_name classes (ListCell items) = codes "List"
kind_name classes (DictCell pairs) = codes "Dict"
kind_name classes (TupleCell items) = codes "Tuple"
kind_name classes (InstCell number attributes) = name_of_class (slice_get classes number)
kind_name classes (ExcCell e) = class_name e.class

-- the cells that are there, in the order in which they were made
abbrev pub live_cells : List CClass → Cells Content → List LiveCell
live_cells classes [] = []
live_cells classes (None ∷ cells) = live_cells classes cells
live_cells classes (Some cell ∷ cells) =
    record { kind = kind_name classes cell.content; count = cell.count } ∷ live_cells classes cells

-- a report says how the run of a code stopped, and in which state
pub record Reports (code : Code) (report : Report) (stop : Stop) : Type 0 where
  pub same_ending : ending_of report.ending ≡ stop.ending
  pub same_cells : report.live ≡ live_cells code.classes stop.state.cells
  pub same_turns : report.turns_left ≡ stop.state.turns
  pub same_output : report.has_output ≡ has_bytes stop.state.output

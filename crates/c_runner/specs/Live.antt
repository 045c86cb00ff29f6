-- The cells that are there, by their numbers.
use Rattle.std.specs.Prelude.{ℕ, List, Option}
use Rattle.std.specs.Option.{option_map}
use Rattle.c_core.specs.declared.code.CClass.{CClass}
use Rattle.c_core.specs.Cells.{Cells, content_at, count_at}
use Rattle.c_core.specs.Machine.{Content}
use Rattle.c_runner.specs.declared.report.LiveCell.{LiveCell}
use Rattle.c_runner.specs.Report.{kind_name}

-- how the cell of a number stands in a report, if it is there
abbrev pub live_at : List CClass → Cells Content → ℕ → Option LiveCell
live_at classes cells c =
    option_map (λ content. record { kind = kind_name classes content; count = count_at cells c }) (content_at cells c)

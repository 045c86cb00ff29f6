-- What the C text of a program with its counts does, without tests of ownership.
use Rattle.std.specs.Prelude.{ℕ}
use Rattle.value_core.specs.Items.{Items}
use Rattle.c_core.specs.WellFormed.{WellFormed}
use Rattle.ir_core.specs.declared.code.Program.{Program}
use Rattle.ir_core.specs.Lower.{lower}
use Rattle.ir_core.specs.Runs.{Fit}
use Rattle.ir_core.specs.Shape.{Shape}
use Rattle.refcount_insert_rule.specs.Counted.{IsCountedProgram}
use Rattle.refcount_insert_lines_laws.specs.Follows.{UncheckedFollows}

-- it does what the program does that has no counts yet
abbrev pub CountedRunsFollow : Type 0
CountedRunsFollow =
    (p q : Program) → Shape p → Fit p → IsCountedProgram p q → WellFormed (lower q) → (turns : ℕ) (items : Items) → UncheckedFollows p (lower q) turns items

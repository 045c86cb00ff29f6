-- A program with its counts may be run.
use Rattle.c_core.specs.WellFormed.{WellFormed}
use Rattle.ir_core.specs.declared.code.Program.{Program}
use Rattle.ir_core.specs.Lower.{lower}
use Rattle.ir_core.specs.Shape.{Shape}
use Rattle.refcount_insert_rule.specs.Counted.{IsCountedProgram}

-- the C text of a program with its counts is well formed
abbrev pub CountedIsWellFormed : Type 0
CountedIsWellFormed = (p q : Program) → Shape p → IsCountedProgram p q → WellFormed (lower q)

-- From a run without tests of ownership to the run with them.
use Rattle.std.specs.Prelude.{◌≡◌, ℕ, map}
use Rattle.value_core.specs.Items.{Items}
use Rattle.c_core.specs.declared.code.Code.{Code}
use Rattle.c_core.specs.WellFormed.{WellFormed}
use Rattle.ir_core.specs.declared.code.Program.{Program}
use Rattle.ir_core.specs.Lower.{global_of}
use Rattle.c_core_ownership_laws.specs.Order.{Table, AreInOrder}
use Rattle.refcount_insert_lines_laws.specs.Follows.{UncheckedFollows, Follows}

-- A well-formed code that keeps its references in order, and whose runs without tests of ownership do what a program does, follows the
-- program: its runs never fault, what they leave is the program's objects, and each count is the number of places that hold the cell.
abbrev pub OrderedFollows : Type 0
OrderedFollows =
    (p : Program) (code : Code) (t : Table) → WellFormed code → code.globals ≡ map global_of p.globals → AreInOrder code t → ((turns : ℕ) (items : Items) → UncheckedFollows p code turns items) → Follows p code

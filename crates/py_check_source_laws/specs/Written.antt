-- What holds of the tree of every file.
use Rattle.std.specs.Prelude.{◌≡◌, ℕ, true, List, []}
use Rattle.py_syntax.specs.Statements.{Suite}
use Rattle.py_check.specs.Module.{diagnostics, typed}
use Rattle.py_typed.specs.WellTypedModule.{is_well_typed}
use Rattle.py_parser_source.specs.Modules.{IsModule}
use Rattle.c_core.specs.WellFormed.{is_identifier}
use Rattle.py_check_laws.specs.Modules.{is_module_written, are_names_written}

-- the tree of a file is one that a text can write
abbrev pub TreeIsWritten : Type 0
TreeIsWritten = (bytes : List ℕ) (m : Suite) → IsModule bytes m → (is_module_written m ≡ true) × (are_names_written is_identifier m ≡ true)

-- a file of which typing says nothing has a well typed module
abbrev pub QuietFileIsWellTyped : Type 0
QuietFileIsWellTyped = (bytes : List ℕ) (m : Suite) → IsModule bytes m → diagnostics m ≡ [] → is_well_typed is_identifier (typed m) ≡ true

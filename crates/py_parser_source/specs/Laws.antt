-- Laws of what is told of a file.
use Rattle.std.specs.Prelude.{◌≡◌, ℕ, List}
use Rattle.py_syntax.specs.Statements.{Suite}
use Rattle.py_parser_source.specs.Entries.{Entry, Telling}
use Rattle.py_parser_source.specs.Modules.{IsModule}
use Rattle.py_parser_source.specs.Faults.{AreFaults}

-- whatever is told of a tree, each file has exactly one list of faults
abbrev pub FaultsAreOne : Type 0
FaultsAreOne = (told : Telling) (bytes : List ℕ) → (es : List Entry) × AreFaults told bytes es × ((other : List Entry) → AreFaults told bytes other → other ≡ es)

-- a file is no two modules
abbrev pub ModuleIsOne : Type 0
ModuleIsOne = (bytes : List ℕ) (a b : Suite) → IsModule bytes a → IsModule bytes b → a ≡ b

-- the faults of a file that is a module are what is told of its tree
abbrev pub TreeIsTold : Type 0
TreeIsTold = (told : Telling) (bytes : List ℕ) (suite : Suite) → IsModule bytes suite → AreFaults told bytes (told suite)

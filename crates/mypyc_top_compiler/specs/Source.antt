-- The typed module that a file is.
use Rattle.std.specs.Prelude.{◌≡◌, ℕ, List}
use Rattle.py_syntax.specs.Statements.{Suite}
use Rattle.py_typed.specs.Statements.{TypedModule}
use Rattle.py_parser_source.specs.Modules.{IsModule}
use Rattle.mypyc_top_compiler.specs.Types.{typed_tree}

-- a file is a module whose tree has this typed module
abbrev pub IsTyped : List ℕ → TypedModule → Type 0
IsTyped bytes m = (suite : Suite) × IsModule bytes suite × (m ≡ typed_tree suite)

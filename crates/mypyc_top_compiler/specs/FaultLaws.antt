-- Laws of what is wrong with a file, and of what it is.
use Rattle.std.specs.Prelude.{◌≡◌, ℕ, List}
use Rattle.py_typed.specs.Statements.{TypedModule}
use Rattle.py_parser_source.specs.Entries.{Entry}
use Rattle.mypyc_top_words.specs.declared.words.Emit.{Emit}
use Rattle.mypyc_top_compiler.specs.Source.{IsTyped}
use Rattle.mypyc_top_compiler.specs.Faults.{AreFaults}

-- each file has exactly one list of faults in a mode
abbrev pub FaultsAreOne : Type 0
FaultsAreOne = (mode : Emit) (bytes : List ℕ) → (es : List Entry) × AreFaults mode bytes es × ((other : List Entry) → AreFaults mode bytes other → other ≡ es)

-- a file has no two typed modules
abbrev pub TypedModulesAreOne : Type 0
TypedModulesAreOne = (bytes : List ℕ) (a b : TypedModule) → IsTyped bytes a → IsTyped bytes b → a ≡ b

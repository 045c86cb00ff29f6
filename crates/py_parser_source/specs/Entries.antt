-- What is told of a file is a list of entries.
use Rattle.std.specs.Prelude.{ℕ, List, Option}
use Rattle.py_syntax.specs.Statements.{Suite}

-- an entry: the line of the file that it is on, from 1, what is wrong there in words, the code of the rule that is broken, and what
-- is said of it besides, if anything is
pub record Entry : Type 0 where
  pub line : ℕ
  pub text : List ℕ
  pub code : List ℕ
  pub note : Option (List ℕ)

-- what is told of a file that is a module, by its tree
abbrev pub Telling : Type 0
Telling = Suite → List Entry

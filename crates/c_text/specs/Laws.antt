-- Laws of C texts.
use Rattle.std.specs.Prelude.{◌≡◌, ℕ, List}
use Rattle.c_core.specs.declared.code.Code.{Code}
use Rattle.c_core.specs.Text.{code_text}
use Rattle.c_core.specs.WellFormed.{WellFormed}
use Rattle.c_text.specs.Reading.{RefusedAt}

-- a text is refused at one place
abbrev pub PlacesAreOne : Type 0
PlacesAreOne = (bytes : List ℕ) (m n : ℕ) → RefusedAt bytes m → RefusedAt bytes n → m ≡ n

-- a text has at most one well-formed code
abbrev pub CodesAreOne : Type 0
CodesAreOne = (a b : Code) → WellFormed a → WellFormed b → code_text a ≡ code_text b → a ≡ b

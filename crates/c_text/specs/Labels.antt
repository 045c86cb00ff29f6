-- The numbers of labels, as they are written and as they are counted.
use Rattle.std.specs.Prelude.{◌≡◌, ℕ, ◌+◌, cond, List, [], ◌∷◌, Option, Some, IfSome, IsTrue}
use Rattle.std.specs.Fmt.{decimal}
use Rattle.c_core.specs.declared.code.Line.{Line}
use Rattle.c_core.specs.Functions.{is_label}
use Rattle.c_core.specs.Text.{indented, label_line, statement_text}
use Rattle.c_core.specs.WellFormed.{Declared, spelled_label}

-- the number was found that is written so; one that is written with leading zeros may be found too
pub record FindsLabel (digits : List ℕ) (found : Option ℕ) : Type 0 where
  pub finds : (n : ℕ) → IsTrue (spelled_label n) → decimal n ≡ digits → found ≡ Some n
  pub fits : IfSome found (λ n. IsTrue (spelled_label n))

-- a line above which n labels stand, and how many stand above the line behind it
abbrev pub line_text : List Declared → ℕ → Line → List ℕ
line_text vars n l = cond (is_label l) (label_line n) (indented (statement_text vars l))

abbrev pub labels_after : ℕ → Line → ℕ
labels_after n l = cond (is_label l) (n + 1) n

-- how many labels stand above what follows lines above which n labels stand
abbrev pub labels_behind : ℕ → List Line → ℕ
labels_behind n [] = n
labels_behind n (l ∷ lines) = labels_behind (labels_after n l) lines

-- What reading a part of a line finds, where the part is written as the text says.
use Rattle.std.specs.Prelude.{◌≡◌, ◌≢◌, ℕ, List, [], ◌∷◌, ◌++◌, Option, Some, MatchOption, IsTrue, IfSome, codes}
use Rattle.std.specs.Borrow.{Bor}
use Rattle.std.specs.List.{list_all}
use Rattle.c_core.specs.declared.code.CArg.{CArg}
use Rattle.c_core.specs.declared.code.CArg.TheVariants as arg
use Rattle.c_core.specs.declared.code.Kind.{Kind}
use Rattle.c_core.specs.declared.code.Line.{Line}
use Rattle.c_core.specs.declared.code.Line.TheVariants.{Label}
use Rattle.c_core.specs.Text.{var_text, arg_text, arg_texts, error_text, joined, comma, goto_text, statement_text}
use Rattle.c_core.specs.WellFormed.{Declared, is_declared, is_identifier, spelled_line}
use Rattle.c_text.specs.Labels.{line_text}
use Rattle.c_text.specs.Variables.{Finds}
use Rattle.c_text.specs.Words.{bracketed}

-- each variable's name is an identifier
abbrev pub AreNamed : List Declared → Type 0
AreNamed vars = IsTrue (list_all (λ v. is_identifier v.0) vars)

-- an argument that is one word, as all but texts are
abbrev pub IsWord : CArg → Type 0
IsWord (arg.Text text) = ⊥
IsWord _ = Unit {0}

-- an argument was found, and this stands behind it
abbrev pub FindsArgument : List Declared → Option (CArg × Bor (List ℕ)) → CArg → List ℕ → Type 0
FindsArgument vars found a rest = MatchOption found ⊥ (λ p. (arg_text vars a ≡ arg_text vars p.0) × (p.1.now ≡ rest))

-- arguments with a comma between each two
abbrev pub args_text : List Declared → List CArg → List ℕ
args_text vars args = joined comma (arg_texts vars args)

-- an assignment of what this text writes, and a jump's text behind a test
abbrev pub assignment_text : List Declared → ℕ → List ℕ → List ℕ
assignment_text vars x value = var_text vars x ++ (codes " = " ++ value)

abbrev pub call_text : List Declared → List ℕ → List CArg → List ℕ
call_text vars name args = bracketed name (args_text vars args)

abbrev pub test_text : List ℕ → List ℕ → List ℕ
test_text inside branches = codes "if (" ++ (inside ++ (codes ")" ++ branches))

-- both labels of a test, behind its bracket
abbrev pub both_text : ℕ → ℕ → List ℕ
both_text a b = codes " " ++ (goto_text a ++ (codes "; else " ++ goto_text b))

-- the error value of a kind, as a test writes it
abbrev pub error_of : Kind → List ℕ
error_of kind = error_text (Some ([], kind))

-- a target was found, and this stands behind its equals sign
abbrev pub FindsTarget : List Declared → Option (ℕ × Bor (List ℕ)) → List ℕ → Type 0
FindsTarget vars found text =
    MatchOption found ((x : ℕ) (value : List ℕ) → IsTrue (is_declared vars x) → assignment_text vars x value ≢ text) (λ p. IsTrue (is_declared vars p.0) × (assignment_text vars p.0 p.1.now ≡ text))

-- a line that stands behind four spaces, as all but labels do
abbrev pub IsIndented : Line → Type 0
IsIndented Label = ⊥
IsIndented _ = Unit {0}

-- what was found is a statement that is spelled
abbrev pub IsSpelledLine : List Declared → Option Line → Type 0
IsSpelledLine vars found = IfSome found (λ l. IsIndented l × IsTrue (spelled_line vars l))

-- a statement was found that is written as the one of this text, where there is one
pub record Reads (vars : List Declared) (text : List ℕ) (found : Option Line) : Type 0 where
  pub spelled : IsSpelledLine vars found
  pub finds : (l : Line) → IsIndented l → IsTrue (spelled_line vars l) → statement_text vars l ≡ text → Finds (statement_text vars) found l

-- a statement has this text, and none has it
abbrev pub IsStatement : List Declared → List ℕ → Line → Type 0
IsStatement vars text line = IsIndented line × IsTrue (spelled_line vars line) × (statement_text vars line ≡ text)

abbrev pub IsNoStatement : List Declared → List ℕ → Type 0
IsNoStatement vars text = (l : Line) → IsIndented l → IsTrue (spelled_line vars l) → statement_text vars l ≢ text

-- this line is written so, where n labels stand above it, and none is
abbrev pub IsLine : List Declared → ℕ → List ℕ → Line → Type 0
IsLine vars n piece line = IsTrue (spelled_line vars line) × (line_text vars n line ≡ piece)

abbrev pub IsNoLine : List Declared → ℕ → List ℕ → Type 0
IsNoLine vars n piece = (l : Line) → IsTrue (spelled_line vars l) → line_text vars n l ≢ piece

-- some arguments were read, and these are the others, of which there is one at least
pub record ArgsRemain (vars : List Declared) (read all : List CArg) (left : List ℕ) : Type 0 where
  pub front : List CArg
  pub next : CArg
  pub others : List CArg
  pub whole : front ++ next ∷ others ≡ all
  pub same : arg_texts vars front ≡ arg_texts vars read
  pub written : args_text vars (next ∷ others) ≡ left

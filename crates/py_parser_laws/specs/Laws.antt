-- What passes in tokens passes in their tree.
use Rattle.std.specs.Prelude.{◌≡◌, ℕ, List, Some, slice_get}
use Rattle.py_syntax.specs.declared.token.Token.{Token}
use Rattle.py_syntax.specs.Statements.{Suite}
use Rattle.py_parser_grammar.specs.Faults.{IsTree}
use Rattle.py_parser_laws.specs.Trees.{Tests, JoinsTexts, KindPasses, SuitePasses}

-- each token passes
abbrev pub TokensPass : Tests → List Token → Type 0
TokensPass tests ts = (i : ℕ) (t : Token) → slice_get ts i ≡ Some t → KindPasses tests t.kind

abbrev pub TreesPassAsTokens : Type 0
TreesPassAsTokens = (tests : Tests) → JoinsTexts tests → (ts : List Token) → TokensPass tests ts → (suite : Suite) → IsTree ts suite → SuitePasses tests suite

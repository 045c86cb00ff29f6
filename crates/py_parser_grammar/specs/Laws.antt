-- What is known of what tokens are and of reading them.
use Rattle.std.specs.Prelude.{◌≡◌, ◌<◌, List, length, Option, Some, None, Ok, Err}
use Rattle.py_syntax.specs.declared.token.Token.{Token}
use Rattle.py_syntax.specs.Tokens.{EndsOnce}
use Rattle.py_syntax.specs.Statements.{Suite}
use Rattle.py_parser_grammar.specs.Levels.{IsShallow}
use Rattle.py_parser_grammar.specs.Grammar.{MODULE}
use Rattle.py_parser_grammar.specs.Faults.{IsTree, Came, tree, syntax, profile, too_deep, Says}
use Rattle.py_parser_grammar.specs.Reader.{Outcome, syntax_at, profile_at, too_deep_at, out, start}
use Rattle.py_parser_grammar.specs.Readings.{reads_sym}

-- what came of reading a module, unless reading ran out of steps
abbrev pub came : Outcome Suite → Option Came
came (Ok x) = Some (tree x.0)
came (Err (syntax_at i)) = Some (syntax i)
came (Err (profile_at i)) = Some (profile i)
came (Err (too_deep_at i)) = Some (too_deep i)
came (Err out) = None

-- each list of tokens that ends once has a tree or a fault
abbrev pub OutcomeExists : Type 0
OutcomeExists = (ts : List Token) → EndsOnce ts → (x : Came) × Says ts x

-- no list of tokens has two of these
abbrev pub OutcomeIsOne : Type 0
OutcomeIsOne = (ts : List Token) (x y : Came) → Says ts x → Says ts y → x ≡ y

-- there is one tree at most
abbrev pub TreeIsOne : Type 0
TreeIsOne = (ts : List Token) (b c : Suite) → IsTree ts b → IsTree ts c → b ≡ c

-- no tree has an expression of level above 100
abbrev pub TreesAreShallow : Type 0
TreesAreShallow = (ts : List Token) (b : Suite) → IsTree ts b → IsShallow b

-- the number of a fault is that of a token
abbrev pub IsWithin : List Token → Came → Type 0
IsWithin ts (tree b) = Unit {0}
IsWithin ts (syntax i) = i < length ts
IsWithin ts (profile i) = i < length ts
IsWithin ts (too_deep j) = j < length ts

abbrev pub FaultsAreTokens : Type 0
FaultsAreTokens = (ts : List Token) (x : Came) → Says ts x → IsWithin ts x

-- reading ends, and answers what the tokens are
abbrev pub ReadingIsExact : Type 0
ReadingIsExact =
    (ts : List Token) → EndsOnce ts → (x : Came) → (came (reads_sym ts MODULE start) ≡ Some x → Says ts x) × (Says ts x → came (reads_sym ts MODULE start) ≡ Some x)

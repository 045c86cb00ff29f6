-- What the tokens of a module are: its tree, or its first fault.
use Rattle.std.specs.Prelude.{ℕ, ◌+◌, ◌≤◌, ◌<◌, List, length}
use Rattle.py_syntax.specs.declared.token.Token.{Token}
use Rattle.py_syntax.specs.Statements.{Suite}
use Rattle.py_parser_grammar.specs.Terminals.{IsLeftOutAt}
use Rattle.py_parser_grammar.specs.Levels.{Limit, free, shallow}
use Rattle.py_parser_grammar.specs.Grammar.{sym, MODULE}
use Rattle.py_parser_grammar.specs.Derivation.{Derives, Front}

-- all tokens are derived from a module, with no expression of level above 100, and the tree is their value
abbrev pub IsTree : List Token → Suite → Type 0
IsTree ts b = Derives shallow ts (sym MODULE) 0 (length ts) b

-- the tokens before n are a front of a module
abbrev pub IsFront : Limit → List Token → ℕ → Type 0
IsFront fits ts n = Front fits ts n (sym MODULE) 0

-- with token i the tokens are no longer a front of a module, whatever the levels, and before it no expression of level
-- above 100 was finished
pub record SyntaxAt (ts : List Token) (i : ℕ) : Type 0 where
  pub within : i < length ts
  pub before : (n : ℕ) → n ≤ i → IsFront shallow ts n
  pub fault : IsFront free ts (i + 1) → ⊥

-- With token j + 1 the tokens are a front of a module, but not with levels of at most 100, and before it they were such a
-- front: the first expression of level 101 is finished at token j. An expression is finished at its last token if the
-- next token is no fault.
pub record TooDeepAt (ts : List Token) (j : ℕ) : Type 0 where
  pub before : (n : ℕ) → n ≤ j + 1 → IsFront shallow ts n
  pub goes_on : IsFront free ts (j + 2)
  pub fault : IsFront shallow ts (j + 2) → ⊥

-- what may come of the tokens of a module; a fault has the number of its token
pub data Came : Type 0 where
  tree : Suite → Came
  syntax : ℕ → Came
  profile : ℕ → Came
  too_deep : ℕ → Came

-- THE MEANING of the tokens of a module. A fault of syntax at a keyword that the grammar leaves out is a fault of the
-- profile.
abbrev pub Says : List Token → Came → Type 0
Says ts (tree b) = IsTree ts b
Says ts (syntax i) = SyntaxAt ts i × (IsLeftOutAt ts i → ⊥)
Says ts (profile i) = SyntaxAt ts i × IsLeftOutAt ts i
Says ts (too_deep j) = TooDeepAt ts j

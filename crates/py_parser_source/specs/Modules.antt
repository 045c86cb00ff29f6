-- The module that a file is.
use Rattle.std.specs.Prelude.{◌≡◌, ℕ, true, List, Ok}
use Rattle.std.specs.Str.{chars, is_utf8}
use Rattle.py_syntax.specs.declared.token.Token.{Token}
use Rattle.py_syntax.specs.Statements.{Suite}
use Rattle.py_lexer.specs.Tokens.{tokens_of}
use Rattle.py_parser_grammar.specs.Faults.{IsTree}

-- a text has tokens, and this is their tree
pub record HasTree (text : List ℕ) (suite : Suite) : Type 0 where
  pub tokens : List Token
  pub has_tokens : tokens_of text ≡ Ok tokens
  pub derived : IsTree tokens suite

-- a file is a text that has this tree
abbrev pub IsModule : List ℕ → Suite → Type 0
IsModule bytes suite = (is_utf8 bytes ≡ true) × HasTree (chars bytes) suite

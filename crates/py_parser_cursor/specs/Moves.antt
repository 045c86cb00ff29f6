-- How far reading went.
use Rattle.std.specs.Prelude.{◌≤◌, ◌<◌, List, length}
use Rattle.py_syntax.specs.declared.token.Token.{Token}
use Rattle.py_parser_grammar.specs.declared.place.Place.{Place}

-- reading went on, within the tokens
pub record MovesTo (ts : List Token) (p q : Place) : Type 0 where
  pub on : p.at < q.at
  pub within : q.at ≤ length ts

-- reading went on or stayed
pub record MovesUpTo (ts : List Token) (p q : Place) : Type 0 where
  pub on : p.at ≤ q.at
  pub within : p.at ≤ length ts → q.at ≤ length ts

-- Expressions behind a token, as they are read.
use Rattle.std.specs.Prelude.{List}
use Rattle.py_syntax.specs.declared.token.Token.{Token}
use Rattle.py_parser_grammar.specs.declared.terminal.Terminal.{Terminal}
use Rattle.py_parser_grammar.specs.declared.place.Place.{Place}
use Rattle.py_parser_grammar.specs.Levels.{Piece}
use Rattle.py_parser_grammar.specs.Grammar.{ExprSym}
use Rattle.py_parser_grammar.specs.Reader.{Outcome, ◌>>=◌, accept}
use Rattle.py_parser_grammar.specs.Readings.{reads_expr}

-- an expression behind a token of a terminal
unfoldable pub reads_behind : List Token → Terminal → ExprSym → Place → Outcome Piece
reads_behind ts c x p = accept ts c p >>= λ a. reads_expr ts x a.1

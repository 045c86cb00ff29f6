-- Blocks behind a colon, as they are read.
use Rattle.std.specs.Prelude.{List}
use Rattle.py_syntax.specs.declared.sign.Sign.TheVariants as s
use Rattle.py_syntax.specs.declared.token.Token.{Token}
use Rattle.py_syntax.specs.Statements.{StmtTree}
use Rattle.py_parser_grammar.specs.declared.terminal.Terminal.TheVariants as terminal
use Rattle.py_parser_grammar.specs.declared.place.Place.{Place}
use Rattle.py_parser_grammar.specs.Grammar.{BLOCK}
use Rattle.py_parser_grammar.specs.Reader.{Outcome, ◌>>=◌, accept}
use Rattle.py_parser_grammar.specs.Readings.{reads_sym}

-- a block behind a colon
unfoldable pub reads_suite : List Token → Place → Outcome (List StmtTree)
reads_suite ts p = accept ts (terminal.Sign s.Colon) p >>= λ c. reads_sym ts BLOCK c.1

-- What stands in brackets, as it is read.
use Rattle.std.specs.Prelude.{List, if◌then◌else◌}
use Rattle.py_syntax.specs.declared.sign.Sign.TheVariants as s
use Rattle.py_syntax.specs.declared.token.Token.{Token}
use Rattle.py_syntax.specs.Expressions as e
use Rattle.py_syntax.specs.Expressions.{exprs_of, entries_of}
use Rattle.py_parser_grammar.specs.declared.terminal.Terminal.TheVariants as terminal
use Rattle.py_parser_grammar.specs.declared.place.Place.{Place}
use Rattle.py_parser_grammar.specs.Levels.{Piece}
use Rattle.py_parser_grammar.specs.Grammar.{TEST, TESTS, ENTRY}
use Rattle.py_parser_grammar.specs.Actions.{piece, grouped_at}
use Rattle.py_parser_grammar.specs.Reader.{Outcome, ◌>>=◌, accept, sees, tests}
use Rattle.py_parser_grammar.specs.Readings.{reads_expr, finish}
use Rattle.py_parser_expressions.specs.Rows.{reads_row, reads_trees}

-- round ones group, or are an empty tuple
unfoldable pub reads_group : List Token → Place → Outcome Piece
reads_group ts p =
    accept ts (terminal.Sign s.LeftParen) p >>= λ x.
    if sees ts x.1 tests
    then (reads_expr ts TESTS x.1 >>= λ y. accept ts (terminal.Sign s.RightParen) y.1 >>= λ z. finish (grouped_at x.0.span y.0) z.1)
    else (accept ts (terminal.Sign s.RightParen) x.1 >>= λ z. finish (piece (e.TupleOf e.no_exprs) x.0.span) z.1)

unfoldable pub reads_list : List Token → Place → Outcome Piece
reads_list ts p =
    accept ts (terminal.Sign s.LeftSquare) p >>= λ x. reads_trees ts TEST x.1 >>= λ y.
    accept ts (terminal.Sign s.RightSquare) y.1 >>= λ z. finish (piece (e.ListOf (exprs_of y.0)) x.0.span) z.1

unfoldable pub reads_dict : List Token → Place → Outcome Piece
reads_dict ts p =
    accept ts (terminal.Sign s.LeftBrace) p >>= λ x. reads_row ts ENTRY x.1 >>= λ y.
    accept ts (terminal.Sign s.RightBrace) y.1 >>= λ z. finish (piece (e.DictOf (entries_of y.0)) x.0.span) z.1

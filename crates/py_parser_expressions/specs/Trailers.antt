-- What may stand behind an expression and go on with it, as it is read.
use Rattle.std.specs.Prelude.{ℕ, List, Ok}
use Rattle.py_syntax.specs.declared.sign.Sign.TheVariants as s
use Rattle.py_syntax.specs.declared.token.Token.{Token}
use Rattle.py_syntax.specs.Expressions as e
use Rattle.py_syntax.specs.Expressions.{ArgTree, arguments_of}
use Rattle.py_parser_grammar.specs.declared.terminal.Terminal.TheVariants as terminal
use Rattle.py_parser_grammar.specs.declared.place.Place.{Place}
use Rattle.py_parser_grammar.specs.Levels.{Piece}
use Rattle.py_parser_grammar.specs.Grammar.{TESTS, ARG}
use Rattle.py_parser_grammar.specs.Actions.{piece, name_of}
use Rattle.py_parser_grammar.specs.Reader.{Outcome, ◌>>=◌, accept}
use Rattle.py_parser_grammar.specs.Readings.{reads_expr, finish}
use Rattle.py_parser_expressions.specs.declared.parsed.Parsed.{Parsed}
use Rattle.py_parser_expressions.specs.Parsed.{piece_of}
use Rattle.py_parser_expressions.specs.Rows.{reads_row}

-- a name behind a dot
unfoldable pub reads_attribute_name : List Token → Place → Outcome (List ℕ)
reads_attribute_name ts p = accept ts (terminal.Sign s.Dot) p >>= λ x. accept ts terminal.Name x.1 >>= λ y. Ok (name_of y.0, y.1)

-- arguments in brackets
unfoldable pub reads_arguments : List Token → Place → Outcome (List ArgTree)
reads_arguments ts p =
    accept ts (terminal.Sign s.LeftParen) p >>= λ x. reads_row ts ARG x.1 >>= λ y. accept ts (terminal.Sign s.RightParen) y.1 >>= λ z. Ok (y.0, z.1)

-- an index in brackets, and the place behind them
unfoldable pub reads_index : List Token → Place → Outcome Piece
reads_index ts p =
    accept ts (terminal.Sign s.LeftSquare) p >>= λ x. reads_expr ts TESTS x.1 >>= λ y. accept ts (terminal.Sign s.RightSquare) y.1 >>= λ z. Ok (y.0, z.1)

abbrev pub index_seen : Parsed × Place → Piece × Place
index_seen x = (piece_of x.0, x.1)

-- an expression that goes on with each of them
unfoldable pub reads_attribute : List Token → Piece → Place → Outcome Piece
reads_attribute ts v p = reads_attribute_name ts p >>= λ y. finish (piece (e.Attr v.tree y.0) v.begins) y.1

unfoldable pub reads_call : List Token → Piece → Place → Outcome Piece
reads_call ts v p = reads_arguments ts p >>= λ y. finish (piece (e.Call v.tree (arguments_of y.0)) v.begins) y.1

unfoldable pub reads_indexed : List Token → Piece → Place → Outcome Piece
reads_indexed ts v p = reads_index ts p >>= λ y. finish (piece (e.Index v.tree y.0.tree) v.begins) y.1

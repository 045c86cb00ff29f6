-- Names and literals, as they are read.
use Rattle.std.specs.Prelude.{List, [], ◌∷◌, if◌then◌else◌}
use Rattle.py_syntax.specs.declared.key.Key.{Key}
use Rattle.py_syntax.specs.declared.key.Key.TheVariants as k
use Rattle.py_syntax.specs.declared.token.Token.{Token}
use Rattle.py_syntax.specs.Expressions as e
use Rattle.py_syntax.specs.Expressions.{ExprNode}
use Rattle.py_parser_grammar.specs.declared.terminal.Terminal.TheVariants as terminal
use Rattle.py_parser_grammar.specs.declared.place.Place.{Place}
use Rattle.py_parser_grammar.specs.Levels.{Piece}
use Rattle.py_parser_grammar.specs.Actions.{piece, name_of, int_in, text_in}
use Rattle.py_parser_grammar.specs.Reader.{Outcome, ◌>>=◌, accept, sees}
use Rattle.py_parser_grammar.specs.Readings.{finish}
use Rattle.py_parser_cursor.specs.Texts.{reads_texts}

-- a constant, by its word
abbrev pub constant_node : Key → ExprNode
constant_node k.True = e.True
constant_node k.False = e.False
constant_node _ = e.Nothing

abbrev pub reads_word : List Token → Key → Place → Outcome Piece
reads_word ts word p = accept ts (terminal.Key word) p >>= λ x. finish (piece (constant_node word) x.0.span) x.1

unfoldable pub reads_constant : List Token → Place → Outcome Piece
reads_constant ts p =
    if sees ts p (terminal.Key k.True ∷ []) then reads_word ts k.True p
    else (if sees ts p (terminal.Key k.False ∷ []) then reads_word ts k.False p else reads_word ts k.Nothing p)

unfoldable pub reads_literal : List Token → Place → Outcome Piece
reads_literal ts p =
    if sees ts p (terminal.Name ∷ []) then (accept ts terminal.Name p >>= λ x. finish (piece (e.Name (name_of x.0)) x.0.span) x.1)
    else (if sees ts p (terminal.Int ∷ []) then (accept ts terminal.Int p >>= λ x. finish (piece (e.Int (int_in x.0.kind)) x.0.span) x.1)
    else (if sees ts p (terminal.Str ∷ [])
    then (accept ts terminal.Str p >>= λ x. reads_texts ts (text_in x.0.kind) x.1 >>= λ v. finish (piece (e.Str v.0) x.0.span) v.1)
    else reads_constant ts p))

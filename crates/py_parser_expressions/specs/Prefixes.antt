-- Prefixes before an expression, and conditions with a last alternative.
use Rattle.std.specs.Prelude.{ℕ, zero, suc, ◌+◌, List, [], ◌∷◌, Option, Some, None, Ok, slice_get, if◌then◌else◌}
use Rattle.py_syntax.specs.declared.key.Key.TheVariants as k
use Rattle.py_syntax.specs.declared.sign.Sign.TheVariants as s
use Rattle.py_syntax.specs.declared.token.Token.{Token}
use Rattle.py_syntax.specs.Expressions as e
use Rattle.py_syntax.specs.Expressions.{ExprTree, ExprNode}
use Rattle.py_parser_grammar.specs.declared.terminal.Terminal.TheVariants as terminal
use Rattle.py_parser_grammar.specs.declared.place.Place.{Place}
use Rattle.py_parser_grammar.specs.Terminals.{terminal_of, same}
use Rattle.py_parser_grammar.specs.Levels.{Piece}
use Rattle.py_parser_grammar.specs.Grammar.{OR, TEST}
use Rattle.py_parser_grammar.specs.Actions.{piece}
use Rattle.py_parser_grammar.specs.Reader.{Outcome, ◌>>=◌, accept, sees}
use Rattle.py_parser_grammar.specs.Readings.{reads_expr, finish}
use Rattle.py_parser_expressions.specs.Behind.{reads_behind}

-- an expression behind a prefix: `not`, minus or plus
abbrev pub prefix_node : Token → ExprTree → ExprNode
prefix_node t inner =
    if same (terminal_of t.kind) (terminal.Key k.Not) then e.Not inner
    else (if same (terminal_of t.kind) (terminal.Sign s.Minus) then e.Neg inner else e.Plus inner)

abbrev pub prefixed : Token → Outcome Piece → Outcome Piece
prefixed t o = o >>= λ y. finish (piece (prefix_node t y.0.tree) t.span) y.1

abbrev pub prefixed_at : Option Token → Outcome Piece → Outcome Piece
prefixed_at None o = o
prefixed_at (Some t) o = prefixed t o

-- an expression behind some tokens that are prefixes, from a number on
abbrev pub prefixes : List Token → ℕ → ℕ → Outcome Piece → Outcome Piece
prefixes ts from zero o = o
prefixes ts from (suc n) o = prefixes ts from n (prefixed_at (slice_get ts (from + n)) o)

-- a condition, by its value and its test, with what is read of its last alternative
abbrev pub conditional : Piece × Piece → Outcome Piece → Outcome Piece
conditional h o = o >>= λ q. finish (piece (e.Cond h.0.tree h.1.tree q.0.tree) h.0.begins) q.1

abbrev pub conditionals : List (Piece × Piece) → Outcome Piece → Outcome Piece
conditionals [] o = o
conditionals (h ∷ hs) o = conditional h (conditionals hs o)

-- what stands behind an operand of a condition
unfoldable pub reads_condition : List Token → Piece → Place → Outcome Piece
reads_condition ts v p =
    if sees ts p (terminal.Key k.If ∷ [])
    then (accept ts (terminal.Key k.If) p >>= λ a. reads_expr ts OR a.1 >>= λ t.
    accept ts (terminal.Key k.Else) t.1 >>= λ b. reads_expr ts TEST b.1 >>= λ q.
    finish (piece (e.Cond v.tree t.0.tree q.0.tree) v.begins) q.1)
    else finish v p

-- a test, and the operand behind its `else`
unfoldable pub reads_alternative : List Token → Place → Outcome (Piece × Piece)
reads_alternative ts p =
    reads_behind ts (terminal.Key k.If) OR p >>= λ t. reads_behind ts (terminal.Key k.Else) OR t.1 >>= λ x. Ok ((t.0, x.0), x.1)

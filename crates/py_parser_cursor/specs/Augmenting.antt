-- The operators of augmented assignments, as they are read.
use Rattle.std.specs.Prelude.{List, Ok}
use Rattle.py_syntax.specs.declared.expression.BinOp.{BinOp}
use Rattle.py_syntax.specs.declared.sign.Sign.{Sign}
use Rattle.py_syntax.specs.declared.token.Token.{Token}
use Rattle.py_parser_grammar.specs.declared.terminal.Terminal.TheVariants as terminal
use Rattle.py_parser_grammar.specs.declared.place.Place.{Place}
use Rattle.py_parser_grammar.specs.Reader.{Outcome, ◌>>=◌, accept}

-- the operator, by its sign
abbrev pub reads_augmenting : List Token → Sign → BinOp → Place → Outcome BinOp
reads_augmenting ts text op p = accept ts (terminal.Sign text) p >>= λ x. Ok (op, x.1)

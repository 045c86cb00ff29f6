-- The comparison operators, as they are read.
use Rattle.std.specs.Prelude.{[], ◌∷◌, List, Ok, if◌then◌else◌}
use Rattle.py_syntax.specs.declared.expression.CmpOp.{CmpOp}
use Rattle.py_syntax.specs.declared.expression.CmpOp.TheVariants as cmp
use Rattle.py_syntax.specs.declared.key.Key.TheVariants as k
use Rattle.py_syntax.specs.declared.sign.Sign.{Sign}
use Rattle.py_syntax.specs.declared.token.Token.{Token}
use Rattle.py_parser_grammar.specs.declared.terminal.Terminal.TheVariants as terminal
use Rattle.py_parser_grammar.specs.declared.place.Place.{Place}
use Rattle.py_parser_grammar.specs.Reader.{Outcome, ◌>>=◌, accept, sees}

-- one of a sign
abbrev pub reads_sign : List Token → Sign → CmpOp → Place → Outcome CmpOp
reads_sign ts sign op p = accept ts (terminal.Sign sign) p >>= λ x. Ok (op, x.1)

-- `in`, `not in`, `is` and `is not`
unfoldable pub reads_words : List Token → Place → Outcome CmpOp
reads_words ts p =
    if sees ts p (terminal.Key k.In ∷ []) then (accept ts (terminal.Key k.In) p >>= λ x. Ok (cmp.Member, x.1))
    else (if sees ts p (terminal.Key k.Not ∷ [])
    then (accept ts (terminal.Key k.Not) p >>= λ x. accept ts (terminal.Key k.In) x.1 >>= λ y. Ok (cmp.NotMember, y.1))
    else (accept ts (terminal.Key k.Is) p >>= λ x.
    if sees ts x.1 (terminal.Key k.Not ∷ [])
    then (accept ts (terminal.Key k.Not) x.1 >>= λ y. Ok (cmp.IsNot, y.1))
    else Ok (cmp.Is, x.1)))

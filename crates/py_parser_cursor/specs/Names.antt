-- Names, as they are read.
use Rattle.std.specs.Prelude.{ℕ, List, [], ◌∷◌, ◌++◌, Option, Some, None, Ok, if◌then◌else◌}
use Rattle.py_syntax.specs.declared.key.Key.TheVariants as k
use Rattle.py_syntax.specs.declared.sign.Sign.TheVariants as s
use Rattle.py_syntax.specs.declared.token.Token.{Token}
use Rattle.py_parser_grammar.specs.declared.terminal.Terminal.TheVariants as terminal
use Rattle.py_parser_grammar.specs.declared.place.Place.{Place}
use Rattle.py_parser_grammar.specs.Grammar as g
use Rattle.py_parser_grammar.specs.Grammar.{comma, tok, sign, ◌·◌, ALIAS}
use Rattle.py_parser_grammar.specs.Actions.{name_of, dotted_on, names_on, seconds}
use Rattle.py_parser_grammar.specs.Reader.{Outcome, ◌>>=◌, accept, sees}
use Rattle.py_parser_grammar.specs.Readings.{reads_sym, reads_many, reads_after}

-- the name behind `as`, if `as` comes next
unfoldable pub reads_as : List Token → Place → Outcome (Option (List ℕ))
reads_as ts p =
    if sees ts p (terminal.Key k.As ∷ [])
    then (accept ts (terminal.Key k.As) p >>= λ a. accept ts terminal.Name a.1 >>= λ n. Ok (Some (name_of n.0), n.1))
    else Ok (None, p)

-- names, each behind a comma, behind those in front
unfoldable pub reads_names : List Token → List (List ℕ) → Place → Outcome (List (List ℕ))
reads_names ts found p = reads_many ts (tok comma · tok terminal.Name) p >>= λ y. Ok (found ++ names_on y.0, y.1)

-- names, each behind a dot, behind what stands in front
unfoldable pub reads_dots : List Token → List ℕ → Place → Outcome (List ℕ)
reads_dots ts found p = reads_many ts (sign s.Dot · tok terminal.Name) p >>= λ y. Ok (found ++ dotted_on y.0, y.1)

-- names with new ones, each behind a comma, behind those in front
unfoldable pub reads_bare : List Token → List (List ℕ × Option (List ℕ)) → Place → Outcome (List (List ℕ × Option (List ℕ)))
reads_bare ts found p = reads_many ts (tok comma · g.sym ALIAS) p >>= λ y. Ok (found ++ seconds y.0, y.1)

-- the same, and a last comma
unfoldable pub reads_aliases : List Token → List (List ℕ × Option (List ℕ)) → Place → Outcome (List (List ℕ × Option (List ℕ)))
reads_aliases ts found p = reads_after ts comma (g.sym ALIAS) p >>= λ y. Ok (found ++ y.0.0, y.1)

-- the names that are imported, in brackets or without
unfoldable pub reads_imported : List Token → Place → Outcome (List (List ℕ × Option (List ℕ)))
reads_imported ts p =
    if sees ts p (terminal.Name ∷ [])
    then (reads_sym ts ALIAS p >>= λ n. reads_bare ts (n.0 ∷ []) n.1)
    else (accept ts (terminal.Sign s.LeftParen) p >>= λ b. reads_sym ts ALIAS b.1 >>= λ n. reads_aliases ts (n.0 ∷ []) n.1 >>= λ y.
    accept ts (terminal.Sign s.RightParen) y.1 >>= λ z. Ok (y.0, z.1))

-- Parts in a row, as they are read behind those that stand in front.
use Rattle.std.specs.Prelude.{List, [], ◌∷◌, ◌++◌, Ok, if◌then◌else◌}
use Rattle.py_syntax.specs.declared.token.Token.{Token}
use Rattle.py_syntax.specs.Expressions.{ExprTree}
use Rattle.py_parser_grammar.specs.declared.place.Place.{Place}
use Rattle.py_parser_grammar.specs.Grammar.{ExprSym, Sym, expr, sym, comma}
use Rattle.py_parser_grammar.specs.Actions.{Sem, trees_of}
use Rattle.py_parser_grammar.specs.Reader.{Outcome, ◌>>=◌, sees, starts}
use Rattle.py_parser_grammar.specs.Readings.{reads_sym, reads_after}

-- what was read, behind what stands in front of it
abbrev pub fronted : {A : Type 0} → List A → Outcome (List A) → Outcome (List A)
fronted xs o = o >>= λ y. Ok (xs ++ y.0, y.1)

-- one part more behind those that stand in front
abbrev pub one_more : {A : Type 0} → List A → Outcome A → Outcome (List A)
one_more xs o = o >>= λ x. Ok (xs ++ x.0 ∷ [], x.1)

-- between commas, or none, and a last comma
unfoldable pub reads_row : List Token → (x : Sym) → Place → Outcome (List (Sem x))
reads_row ts x p =
    if sees ts p (starts x)
    then (reads_sym ts x p >>= λ v. reads_after ts comma (sym x) v.1 >>= λ w. Ok (v.0 ∷ w.0.0, w.1))
    else Ok ([], p)

-- expressions so
unfoldable pub reads_trees : List Token → ExprSym → Place → Outcome (List ExprTree)
reads_trees ts e p = reads_row ts (expr e) p >>= λ x. Ok (trees_of x.0, x.1)

-- The words by which contracts speak of reading: each stands for a reading and is not opened by itself.
use Rattle.std.specs.Prelude.{Bool, List, [], ◌∷◌, ◌++◌, Ok}
use Rattle.py_syntax.specs.declared.token.Token.{Token}
use Rattle.py_syntax.specs.Expressions.{ExprTree}
use Rattle.py_parser_grammar.specs.declared.terminal.Terminal.{Terminal}
use Rattle.py_parser_grammar.specs.declared.place.Place.{Place}
use Rattle.py_parser_grammar.specs.Levels.{Piece}
use Rattle.py_parser_grammar.specs.Grammar.{ExprSym, More, Sym, expr, more, Part, sym, maybe, many, after, grown, list, comma, TEST, ATOM}
use Rattle.py_parser_grammar.specs.Actions.{Sem, Val, grow, items, trees_of}
use Rattle.py_parser_grammar.specs.Reader.{Outcome, ◌>>=◌, reads, close, keep_small}

-- what a symbol stands for
unfoldable pub reads_sym : List Token → (x : Sym) → Place → Outcome (Sem x)
reads_sym ts x p = reads ts (sym x) p

-- an expression
abbrev pub reads_expr : List Token → ExprSym → Place → Outcome Piece
reads_expr ts e p = reads_sym ts (expr e) p

-- all that goes on with an expression
unfoldable pub reads_grown : List Token → More → Piece → Place → Outcome Piece
reads_grown ts m v p = reads ts (grown m v) p

-- an expression that is finished in front of a place
abbrev pub finish : Piece → Place → Outcome Piece
finish v p = close keep_small (expr ATOM) v p

-- one more part behind an expression
unfoldable pub growth : List Token → More → Piece → Place → Outcome Piece
growth ts m v p = reads_sym ts (more m) p >>= λ x. finish (grow m v x.0) x.1

-- a part any number of times
unfoldable pub reads_many : List Token → (a : Part) → Place → Outcome (List (Val a))
reads_many ts a p = reads ts (many a) p

-- a part behind separators, and whether there is one at the end
unfoldable pub reads_after : List Token → Terminal → (a : Part) → Place → Outcome (List (Val a) × Bool)
reads_after ts c a p = reads ts (after c a) p

-- what stands in brackets: a symbol any number of times, between commas
unfoldable pub reads_items : List Token → (x : Sym) → Place → Outcome (List (Sem x))
reads_items ts x p = reads ts (maybe (list comma (sym x))) p >>= λ y. Ok (items y.0, y.1)

-- the trees of the expressions in brackets
unfoldable pub reads_trees : List Token → Place → Outcome (List ExprTree)
reads_trees ts p = reads_items ts (expr TEST) p >>= λ y. Ok (trees_of y.0, y.1)

-- ---- what loops read: what was found so far, and what is still to be read

-- of each value that is still to be read, what g makes of it
abbrev pub spread : {A B : Type 0} → (A → List B) → List A → List B
spread g [] = []
spread g (v ∷ vs) = g v ++ spread g vs

abbrev pub many_into : {A B : Type 0} → (A → List B) → List B → Outcome (List A) → Outcome (List B)
many_into g found o = o >>= λ y. Ok (found ++ spread g y.0, y.1)

-- the same between separators, and whether there is one at the end
abbrev pub after_into : {A B : Type 0} → (A → List B) → List B → Outcome (List A × Bool) → Outcome (List B × Bool)
after_into g found o = o >>= λ y. Ok ((found ++ spread g y.0.0, y.0.1), y.1)

-- each value as it is, all that a value has, and the tree of each expression
abbrev pub single : {A : Type 0} → A → List A
single v = v ∷ []

abbrev pub whole : {A : Type 0} → List A → List A
whole vs = vs

abbrev pub single_tree : Piece → List ExprTree
single_tree p = p.tree ∷ []

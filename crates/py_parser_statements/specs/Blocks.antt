-- Statements with blocks and their parts, as they are read.
use Rattle.std.specs.Prelude.{List, [], ◌∷◌, ◌++◌, Option, Some, None, Ok, if◌then◌else◌}
use Rattle.py_syntax.specs.declared.key.Key.TheVariants as k
use Rattle.py_syntax.specs.declared.token.Token.{Token}
use Rattle.py_syntax.specs.Expressions.{ExprTree}
use Rattle.py_syntax.specs.Statements.{StmtTree, Suite, HandlerTree, suite_of}
use Rattle.py_parser_grammar.specs.declared.terminal.Terminal.TheVariants as terminal
use Rattle.py_parser_grammar.specs.declared.place.Place.{Place}
use Rattle.py_parser_grammar.specs.Grammar as g
use Rattle.py_parser_grammar.specs.Grammar.{key, ◌·◌, STMT, IF, ARM, WHILE, FOR, TRY, EXCEPT, FINALLY}
use Rattle.py_parser_grammar.specs.Actions.{seconds, joined}
use Rattle.py_parser_grammar.specs.Reader.{Outcome, ◌>>=◌, accept, sees}
use Rattle.py_parser_grammar.specs.Readings.{reads_sym, reads_many}
use Rattle.py_parser_statements.specs.Suites.{reads_suite}

-- one statement with blocks
unfoldable pub reads_compound : List Token → Place → Outcome StmtTree
reads_compound ts p =
    if sees ts p (terminal.Key k.If ∷ []) then reads_sym ts IF p
    else (if sees ts p (terminal.Key k.While ∷ []) then reads_sym ts WHILE p
    else (if sees ts p (terminal.Key k.For ∷ []) then reads_sym ts FOR p else reads_sym ts TRY p))

-- any number of statements, arms or handlers, behind those in front
unfoldable pub reads_stmts : List Token → List StmtTree → Place → Outcome (List StmtTree)
reads_stmts ts found p = reads_many ts (g.sym STMT) p >>= λ y. Ok (found ++ joined y.0, y.1)

unfoldable pub reads_arms : List Token → List (ExprTree × Suite) → Place → Outcome (List (ExprTree × Suite))
reads_arms ts found p = reads_many ts (key k.Elif · g.sym ARM) p >>= λ y. Ok (found ++ seconds y.0, y.1)

unfoldable pub reads_handlers : List Token → List HandlerTree → Place → Outcome (List HandlerTree)
reads_handlers ts found p = reads_many ts (g.sym EXCEPT) p >>= λ y. Ok (found ++ y.0, y.1)

-- the block behind `else`, if `else` comes next
unfoldable pub reads_else : List Token → Place → Outcome (List StmtTree)
reads_else ts p =
    if sees ts p (terminal.Key k.Else ∷ [])
    then (accept ts (terminal.Key k.Else) p >>= λ w. reads_suite ts w.1)
    else Ok ([], p)

-- the handlers of a `try`, if there are any, and the block behind `finally`, which has to come where there are none
unfoldable pub reads_handled : List Token → Place → Outcome (List HandlerTree × Option Suite)
reads_handled ts p =
    if sees ts p (terminal.Key k.Except ∷ [])
    then (reads_sym ts EXCEPT p >>= λ h. reads_handlers ts (h.0 ∷ []) h.1 >>= λ y.
    if sees ts y.1 (terminal.Key k.Finally ∷ [])
    then (reads_sym ts FINALLY y.1 >>= λ f. Ok ((y.0, Some (suite_of f.0)), f.1))
    else Ok ((y.0, None), y.1))
    else (reads_sym ts FINALLY p >>= λ f. Ok (([], Some (suite_of f.0)), f.1))

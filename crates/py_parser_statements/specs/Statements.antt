-- Statements and their parts, as they were read, and the words by which the readers of rows of them speak.
use Rattle.std.specs.Global.{Box}
use Rattle.std.specs.Option.{option_map}
use Rattle.std.specs.Prelude.{ℕ, List, [], ◌∷◌, Option, Some, None, Ok, map, if◌then◌else◌}
use Rattle.py_syntax.specs.declared.expression.Expr.{Expr}
use Rattle.py_syntax.specs.declared.statement.Handler.{Handler}
use Rattle.py_syntax.specs.declared.statement.Stmt.{Stmt}
use Rattle.py_syntax.specs.declared.sign.Sign.TheVariants as s
use Rattle.py_syntax.specs.declared.key.Key.{Key}
use Rattle.py_syntax.specs.declared.key.Key.TheVariants as k
use Rattle.py_syntax.specs.declared.token.Token.{Token}
use Rattle.py_syntax.specs.Expressions.{ExprTree}
use Rattle.py_syntax.specs.Statements as st
use Rattle.py_syntax.specs.Statements.{StmtTree, StmtNode, Suite, HandlerTree, stmt_tree, handler_tree, arm_tree, body_tree}
use Rattle.py_parser_grammar.specs.declared.terminal.Terminal.TheVariants as terminal
use Rattle.py_parser_grammar.specs.declared.place.Place.{Place}
use Rattle.py_parser_grammar.specs.Levels.{Piece}
use Rattle.py_parser_grammar.specs.Grammar as g
use Rattle.py_parser_grammar.specs.Grammar.{TEST, SMALL}
use Rattle.py_parser_grammar.specs.Reader.{Outcome, ◌>>=◌, accept, sees, tests}
use Rattle.py_parser_grammar.specs.Readings.{reads_expr, reads_sym, reads_after, after_into, single}
use Rattle.py_parser_nodes.specs.Parts.{maybe_boxed, arm_boxed}
use Rattle.py_parser_expressions.specs.Behind.{reads_behind}
use Rattle.py_parser_cursor.specs.Names.{reads_as}

-- what was read, and the place behind it
abbrev pub stmt_seen : Box Stmt × Place → StmtTree × Place
stmt_seen x = (stmt_tree x.0.value, x.1)

abbrev pub stmts_seen : List Stmt × Place → List StmtTree × Place
stmts_seen x = (map stmt_tree x.0, x.1)

abbrev pub caught_seen : (Option (Box Expr) × Option (List ℕ)) × Place → (Option ExprTree × Option (List ℕ)) × Place
caught_seen x = ((maybe_boxed x.0.0, x.0.1), x.1)

abbrev pub arm_seen : (Box Expr × List Stmt) × Place → (ExprTree × Suite) × Place
arm_seen x = (arm_boxed x.0, x.1)

abbrev pub handler_seen : Box Handler × Place → HandlerTree × Place
handler_seen x = (handler_tree x.0.value, x.1)

abbrev pub handlers_seen : List Handler × Place → List HandlerTree × Place
handlers_seen x = (map handler_tree x.0, x.1)

abbrev pub handled_seen : (List Handler × Option (List Stmt)) × Place → (List HandlerTree × Option Suite) × Place
handled_seen x = ((map handler_tree x.0.0, option_map body_tree x.0.1), x.1)

abbrev pub arms_seen : List (Expr × List Stmt) × Place → List (ExprTree × Suite) × Place
arms_seen x = (map arm_tree x.0, x.1)

-- a statement of one keyword
abbrev pub lone_node : Key → StmtNode
lone_node k.Pass = st.Pass
lone_node k.Break = st.Break
lone_node _ = st.Continue

abbrev pub reads_lone : List Token → Key → Place → Outcome StmtTree
reads_lone ts word p = accept ts (terminal.Key word) p >>= λ x. Ok (st.at (lone_node word) x.0.span, x.1)

-- what a handler catches, and its name
unfoldable pub reads_caught : List Token → Place → Outcome (Option ExprTree × Option (List ℕ))
reads_caught ts p =
    if sees ts p tests
    then (reads_expr ts TEST p >>= λ y. reads_as ts y.1 >>= λ n. Ok ((Some y.0.tree, n.0), n.1))
    else Ok ((None, None), p)

-- more statements of a line, behind those in front
unfoldable pub reads_line : List Token → List StmtTree → Place → Outcome (List StmtTree)
reads_line ts found p = after_into single found (reads_after ts (terminal.Sign s.Semicolon) (g.sym SMALL) p) >>= λ y. Ok (y.0.0, y.1)

-- one statement of a line, where it is none of the shortest ones
unfoldable pub reads_worded : List Token → Place → Outcome StmtTree
reads_worded ts p =
    if sees ts p (terminal.Key k.Global ∷ []) then reads_sym ts g.GLOBAL p
    else (if sees ts p (terminal.Key k.Assert ∷ []) then reads_sym ts g.ASSERT p
    else (if sees ts p (terminal.Key k.Del ∷ []) then reads_sym ts g.DEL p
    else (if sees ts p (terminal.Key k.Import ∷ []) then reads_sym ts g.IMPORT p
    else (if sees ts p (terminal.Key k.From ∷ []) then reads_sym ts g.FROM p else reads_sym ts g.PLAIN p))))

-- an annotation behind a target, and what is assigned to it, if anything is
unfoldable pub reads_annotated : List Token → Piece → Place → Outcome StmtTree
reads_annotated ts x p =
    reads_behind ts (terminal.Sign s.Colon) TEST p >>= λ m.
    if sees ts m.1 (terminal.Sign s.Assign ∷ [])
    then (reads_behind ts (terminal.Sign s.Assign) g.TESTS m.1 >>= λ v. Ok (st.at (st.Annot x.tree m.0.tree (Some v.0.tree)) x.begins, v.1))
    else Ok (st.at (st.Annot x.tree m.0.tree None) x.begins, m.1)

-- a value that is assigned to a target
unfoldable pub reads_given : List Token → Piece → Place → Outcome StmtTree
reads_given ts x p = reads_behind ts (terminal.Sign s.Assign) g.TESTS p >>= λ v. Ok (st.at (st.Assign x.tree v.0.tree) x.begins, v.1)

-- an operator by which a target is changed, and its other operand
unfoldable pub reads_changed : List Token → Piece → Place → Outcome StmtTree
reads_changed ts x p = reads_sym ts g.AUG p >>= λ o. reads_expr ts g.TESTS o.1 >>= λ v. Ok (st.at (st.Aug x.tree o.0 v.0.tree) x.begins, v.1)

-- what is assigned to a target, or its annotation
unfoldable pub reads_assigned : List Token → Piece → Place → Outcome StmtTree
reads_assigned ts x p =
    if sees ts p (terminal.Sign s.Colon ∷ []) then reads_annotated ts x p
    else (if sees ts p (terminal.Sign s.Assign ∷ []) then reads_given ts x p else reads_changed ts x p)

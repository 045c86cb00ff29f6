-- Reading statements with blocks.
use Rattle.std.proofs.Common.{◌≡◌, Bool, true, false, ◌||◌, List, [], ◌∷◌, ◌++◌, Option, Some, None, Ok, Err, if◌then◌else◌, refl, sym, ◌∙◌, ap}
use Rattle.std.specs.Prelude.{slice_get}
use Rattle.py_syntax.specs.declared.key.Key.TheVariants as k
use Rattle.py_syntax.specs.declared.sign.Sign.TheVariants as s
use Rattle.py_syntax.specs.declared.token.Token.{Token}
use Rattle.py_syntax.specs.Expressions.{ExprTree}
use Rattle.py_syntax.specs.Statements as st
use Rattle.py_syntax.specs.Statements.{StmtTree, Suite, HandlerTree, suite_of, arms_of, handlers_of, maybe_suite}
use Rattle.py_parser_grammar.specs.declared.terminal.Terminal.{Terminal}
use Rattle.py_parser_grammar.specs.declared.terminal.Terminal.TheVariants as terminal
use Rattle.py_parser_grammar.specs.declared.place.Place.{Place}
use Rattle.py_parser_grammar.specs.Terminals.{terminal_of, same, next_in}
use Rattle.py_parser_grammar.specs.Grammar as g
use Rattle.py_parser_grammar.specs.Grammar.{key, ◌·◌, TEST, TESTS, TARGETS, SIMPLE, STMT, BLOCK, IF, ARM, WHILE, FOR, TRY, EXCEPT, FINALLY}
use Rattle.py_parser_grammar.specs.Actions.{seconds, joined}
use Rattle.py_parser_grammar.specs.Reader.{Outcome, ◌>>=◌, accept, sees, stmts}
use Rattle.py_parser_grammar.specs.Readings.{reads_expr, reads_sym, reads_many, many_into, spread, single, whole}
use Rattle.py_parser_grammar.proofs.Opening.{bind_assoc, if_bind, if_same, bind_same}
use Rattle.py_parser_grammar.proofs.Loops.{spread_single, spread_joined}
use Rattle.py_parser_grammar.proofs.StatementEquations.{second_part, spread_seconds}
use Rattle.py_parser_grammar.proofs.CompoundEquations.{stmt_eq, block_eq, stmts_round, arm_eq, if_eq, arms_round, while_eq, for_eq, finally_eq, except_eq, try_eq, handlers_round, handler}
use Rattle.py_parser_cursor.specs.declared.starts.TheConstants.{COMPOUND}
use Rattle.py_parser_expressions.specs.Behind.{reads_behind}
use Rattle.py_parser_statements.specs.Suites.{reads_suite}
use Rattle.py_parser_statements.specs.Blocks.{reads_compound, reads_stmts, reads_arms, reads_handlers, reads_handled, reads_else}
use Rattle.py_parser_cursor.specs.Names.{reads_as}
use Rattle.py_parser_statements.specs.Statements.{reads_caught}
use Rattle.py_parser_cursor.proofs.Binds.{regrouped}

four : {A : Type 0} (a b c d : Bool) (u v w x r : A)
    → (if a || false then u else (if b || false then v else (if c || false then w else (if d || false then x else r))))
    ≡ (if a || (b || (c || (d || false))) then (if a || false then u else (if b || false then v else (if c || false then w else x))) else r)
four true b c d u v w x r = refl
four false true c d u v w x r = refl
four false false true d u v w x r = refl
four false false false true u v w x r = refl
four false false false false u v w x r = refl

four_next : {A : Type 0} (o : Option Token) (u v w x r : A)
    → (if next_in o (terminal.Key k.If ∷ []) then u else (if next_in o (terminal.Key k.While ∷ []) then v else (if next_in o (terminal.Key k.For ∷ []) then w else (if next_in o (terminal.Key k.Try ∷ []) then x else r))))
    ≡ (if next_in o COMPOUND then (if next_in o (terminal.Key k.If ∷ []) then u else (if next_in o (terminal.Key k.While ∷ []) then v else (if next_in o (terminal.Key k.For ∷ []) then w else x))) else r)
four_next None u v w x r = refl
four_next (Some t) u v w x r =
    let c : Terminal = terminal_of t.kind in
    four (same c (terminal.Key k.If)) (same c (terminal.Key k.While)) (same c (terminal.Key k.For)) (same c (terminal.Key k.Try)) u v w x r

pub stmt_compound : (ts : List Token) (p : Place) → reads_sym ts STMT p ≡ (if sees ts p COMPOUND then (reads_compound ts p >>= λ x. Ok (x.0 ∷ [], x.1)) else reads_sym ts SIMPLE p)
unfolding reads_compound
stmt_compound ts p =
    stmt_eq ts p ∙ four_next (slice_get ts p.at) _ _ _ _ _
    ∙ if_same (sees ts p COMPOUND) (sym (if_bind (sees ts p (terminal.Key k.If ∷ [])) _ _ _ ∙ if_same (sees ts p (terminal.Key k.If ∷ [])) refl
    (if_bind (sees ts p (terminal.Key k.While ∷ [])) _ _ _ ∙ if_same (sees ts p (terminal.Key k.While ∷ [])) refl (if_bind (sees ts p (terminal.Key k.For ∷ [])) _ _ _)))) refl

-- ---- rows of statements, arms and handlers

stmts_into : (ts : List Token) (found : List StmtTree) (p : Place) → reads_stmts ts found p ≡ many_into whole found (reads_many ts (g.sym STMT) p)
unfolding reads_stmts
stmts_into ts found p = sym (regrouped (spread whole) joined found (reads_many ts (g.sym STMT) p) spread_joined)

pub stmts_eq : (ts : List Token) (found : List StmtTree) (p : Place) → reads_stmts ts found p ≡ (if sees ts p stmts then (reads_sym ts STMT p >>= λ x. reads_stmts ts (found ++ x.0) x.1) else Ok (found, p))
stmts_eq ts found p =
    stmts_into ts found p ∙ stmts_round ts p found
    ∙ if_same (sees ts p stmts) (bind_same (reads_sym ts STMT p) _ _ (λ x. sym (stmts_into ts (found ++ x.0) x.1))) refl

pub stmts_more : (ts : List Token) (found : List StmtTree) (p : Place) (x : List StmtTree × Place) → sees ts p stmts ≡ true → reads_sym ts STMT p ≡ Ok x → reads_stmts ts found p ≡ reads_stmts ts (found ++ x.0) x.1
stmts_more ts found p x a b = stmts_eq ts found p ∙ rw (a, b) refl

arms_into : (ts : List Token) (found : List (ExprTree × Suite)) (p : Place) → reads_arms ts found p ≡ many_into second_part found (reads_many ts (key k.Elif · g.sym ARM) p)
unfolding reads_arms
arms_into ts found p = sym (regrouped (spread second_part) seconds found (reads_many ts (key k.Elif · g.sym ARM) p) spread_seconds)

pub arms_eq : (ts : List Token) (found : List (ExprTree × Suite)) (p : Place) → reads_arms ts found p ≡
    (if sees ts p (terminal.Key k.Elif ∷ []) then (accept ts (terminal.Key k.Elif) p >>= λ w. reads_sym ts ARM w.1 >>= λ a. reads_arms ts (found ++ a.0 ∷ []) a.1) else Ok (found, p))
arms_eq ts found p =
    arms_into ts found p ∙ arms_round ts p found
    ∙ if_same (sees ts p (terminal.Key k.Elif ∷ []))
    (bind_same (accept ts (terminal.Key k.Elif) p) _ _ (λ w. bind_same (reads_sym ts ARM w.1) _ _ (λ a. sym (arms_into ts (found ++ a.0 ∷ []) a.1)))) refl

pub arms_more : (ts : List Token) (found : List (ExprTree × Suite)) (p : Place) (w : Token × Place) (a : (ExprTree × Suite) × Place)
    → sees ts p (terminal.Key k.Elif ∷ []) ≡ true → accept ts (terminal.Key k.Elif) p ≡ Ok w → reads_sym ts ARM w.1 ≡ Ok a → reads_arms ts found p ≡ reads_arms ts (found ++ a.0 ∷ []) a.1
arms_more ts found p w a x y z = arms_eq ts found p ∙ rw (x, y) (rw z refl)

handlers_into : (ts : List Token) (found : List HandlerTree) (p : Place) → reads_handlers ts found p ≡ many_into single found (reads_many ts (g.sym EXCEPT) p)
unfolding reads_handlers
handlers_into ts found p = sym (regrouped (spread single) (λ l. l) found (reads_many ts (g.sym EXCEPT) p) spread_single)

pub handlers_eq : (ts : List Token) (found : List HandlerTree) (p : Place) → reads_handlers ts found p ≡
    (if sees ts p (terminal.Key k.Except ∷ []) then (reads_sym ts EXCEPT p >>= λ h. reads_handlers ts (found ++ h.0 ∷ []) h.1) else Ok (found, p))
handlers_eq ts found p =
    handlers_into ts found p ∙ handlers_round ts p found
    ∙ if_same (sees ts p (terminal.Key k.Except ∷ [])) (bind_same (reads_sym ts EXCEPT p) _ _ (λ h. sym (handlers_into ts (found ++ h.0 ∷ []) h.1))) refl

pub handlers_more : (ts : List Token) (found : List HandlerTree) (p : Place) (h : HandlerTree × Place) → sees ts p (terminal.Key k.Except ∷ []) ≡ true → reads_sym ts EXCEPT p ≡ Ok h
    → reads_handlers ts found p ≡ reads_handlers ts (found ++ h.0 ∷ []) h.1
handlers_more ts found p h a b = handlers_eq ts found p ∙ rw (a, b) refl

-- ---- statements

pub block_stmts : (ts : List Token) (p : Place) → reads_sym ts BLOCK p ≡
    (if sees ts p (terminal.Newline ∷ [])
    then (accept ts terminal.Newline p >>= λ x. accept ts terminal.Indent x.1 >>= λ y. reads_sym ts STMT y.1 >>= λ z. reads_stmts ts z.0 z.1 >>= λ w. accept ts terminal.Dedent w.1 >>= λ d. Ok (w.0, d.1))
    else reads_sym ts SIMPLE p)
block_stmts ts p =
    block_eq ts p
    ∙ if_same (sees ts p (terminal.Newline ∷ []))
    (bind_same (accept ts terminal.Newline p) _ _ (λ x. bind_same (accept ts terminal.Indent x.1) _ _ (λ y. bind_same (reads_sym ts STMT y.1) _ _ (λ z.
    ap (λ o. o >>= λ w. accept ts terminal.Dedent w.1 >>= λ d. Ok (w.0, d.1)) (sym (stmts_into ts z.0 z.1)))))) refl

if_flat : (ts : List Token) (p : Place) → reads_sym ts IF p ≡
    (accept ts (terminal.Key k.If) p >>= λ x. reads_sym ts ARM x.1 >>= λ a. reads_arms ts (a.0 ∷ []) a.1 >>= λ y.
    if sees ts y.1 (terminal.Key k.Else ∷ [])
    then (accept ts (terminal.Key k.Else) y.1 >>= λ w. accept ts (terminal.Sign s.Colon) w.1 >>= λ c. reads_sym ts BLOCK c.1 >>= λ b. Ok (st.at (st.If (arms_of y.0) (suite_of b.0)) x.0.span, b.1))
    else Ok (st.at (st.If (arms_of y.0) st.no_stmts) x.0.span, y.1))
if_flat ts p =
    if_eq ts p
    ∙ bind_same (accept ts (terminal.Key k.If) p) _ _ (λ x. bind_same (reads_sym ts ARM x.1) _ _ (λ a.
    ap (λ o. o >>= λ y.
    if sees ts y.1 (terminal.Key k.Else ∷ [])
    then (accept ts (terminal.Key k.Else) y.1 >>= λ w. accept ts (terminal.Sign s.Colon) w.1 >>= λ c. reads_sym ts BLOCK c.1 >>= λ b. Ok (st.at (st.If (arms_of y.0) (suite_of b.0)) x.0.span, b.1))
    else Ok (st.at (st.If (arms_of y.0) st.no_stmts) x.0.span, y.1)) (sym (arms_into ts (a.0 ∷ []) a.1))))

pub if_arms : (ts : List Token) (p : Place) → reads_sym ts IF p ≡
    (accept ts (terminal.Key k.If) p >>= λ x. reads_sym ts ARM x.1 >>= λ a. reads_arms ts (a.0 ∷ []) a.1 >>= λ y. reads_else ts y.1 >>= λ o. Ok (st.at (st.If (arms_of y.0) (suite_of o.0)) x.0.span, o.1))
unfolding reads_else reads_suite
if_arms ts p = if_flat ts p ∙ simp (if_bind, bind_assoc)

pub arm_suite : (ts : List Token) (p : Place) → reads_sym ts ARM p ≡ (reads_expr ts TEST p >>= λ x. reads_suite ts x.1 >>= λ b. Ok ((x.0.tree, suite_of b.0), b.1))
unfolding reads_suite
arm_suite ts p = arm_eq ts p ∙ simp bind_assoc

pub while_suite : (ts : List Token) (p : Place) → reads_sym ts WHILE p ≡
    (accept ts (terminal.Key k.While) p >>= λ x. reads_expr ts TEST x.1 >>= λ y. reads_suite ts y.1 >>= λ b. Ok (st.at (st.While y.0.tree (suite_of b.0)) x.0.span, b.1))
unfolding reads_suite
while_suite ts p = while_eq ts p ∙ simp bind_assoc

pub for_suite : (ts : List Token) (p : Place) → reads_sym ts FOR p ≡
    (accept ts (terminal.Key k.For) p >>= λ x. reads_expr ts TARGETS x.1 >>= λ y. reads_behind ts (terminal.Key k.In) TESTS y.1 >>= λ z. reads_suite ts z.1 >>= λ b.
    Ok (st.at (st.For y.0.tree z.0.tree (suite_of b.0)) x.0.span, b.1))
unfolding reads_suite reads_behind
for_suite ts p = for_eq ts p ∙ simp bind_assoc

try_flat : (ts : List Token) (p : Place) → reads_sym ts TRY p ≡
    (accept ts (terminal.Key k.Try) p >>= λ x. accept ts (terminal.Sign s.Colon) x.1 >>= λ c. reads_sym ts BLOCK c.1 >>= λ b.
    if sees ts b.1 (terminal.Key k.Except ∷ [])
    then (reads_sym ts EXCEPT b.1 >>= λ h. reads_handlers ts (h.0 ∷ []) h.1 >>= λ y.
    if sees ts y.1 (terminal.Key k.Finally ∷ [])
    then (reads_sym ts FINALLY y.1 >>= λ f. Ok (st.at (st.Try (suite_of b.0) (handlers_of y.0) (st.some_suite (suite_of f.0))) x.0.span, f.1))
    else Ok (st.at (st.Try (suite_of b.0) (handlers_of y.0) st.no_suite) x.0.span, y.1))
    else (reads_sym ts FINALLY b.1 >>= λ f. Ok (st.at (st.Try (suite_of b.0) st.no_handlers (st.some_suite (suite_of f.0))) x.0.span, f.1)))
try_flat ts p =
    try_eq ts p
    ∙ bind_same (accept ts (terminal.Key k.Try) p) _ _ (λ x. bind_same (accept ts (terminal.Sign s.Colon) x.1) _ _ (λ c. bind_same (reads_sym ts BLOCK c.1) _ _ (λ b.
    if_same (sees ts b.1 (terminal.Key k.Except ∷ [])) (bind_same (reads_sym ts EXCEPT b.1) _ _ (λ h.
    ap (λ o. o >>= λ y.
    if sees ts y.1 (terminal.Key k.Finally ∷ [])
    then (reads_sym ts FINALLY y.1 >>= λ f. Ok (st.at (st.Try (suite_of b.0) (handlers_of y.0) (st.some_suite (suite_of f.0))) x.0.span, f.1))
    else Ok (st.at (st.Try (suite_of b.0) (handlers_of y.0) st.no_suite) x.0.span, y.1)) (sym (handlers_into ts (h.0 ∷ []) h.1)))) refl)))

try_handlers : (ts : List Token) (p : Place) → reads_sym ts TRY p ≡
    (accept ts (terminal.Key k.Try) p >>= λ x. reads_suite ts x.1 >>= λ b.
    if sees ts b.1 (terminal.Key k.Except ∷ [])
    then (reads_sym ts EXCEPT b.1 >>= λ h. reads_handlers ts (h.0 ∷ []) h.1 >>= λ y.
    if sees ts y.1 (terminal.Key k.Finally ∷ [])
    then (reads_sym ts FINALLY y.1 >>= λ f. Ok (st.at (st.Try (suite_of b.0) (handlers_of y.0) (st.some_suite (suite_of f.0))) x.0.span, f.1))
    else Ok (st.at (st.Try (suite_of b.0) (handlers_of y.0) st.no_suite) x.0.span, y.1))
    else (reads_sym ts FINALLY b.1 >>= λ f. Ok (st.at (st.Try (suite_of b.0) st.no_handlers (st.some_suite (suite_of f.0))) x.0.span, f.1)))
unfolding reads_suite
try_handlers ts p = try_flat ts p ∙ bind_same (accept ts (terminal.Key k.Try) p) _ _ (λ x. sym (bind_assoc (accept ts (terminal.Sign s.Colon) x.1) _ _))

pub try_handled : (ts : List Token) (p : Place) → reads_sym ts TRY p ≡
    (accept ts (terminal.Key k.Try) p >>= λ x. reads_suite ts x.1 >>= λ b. reads_handled ts b.1 >>= λ r. Ok (st.at (st.Try (suite_of b.0) (handlers_of r.0.0) (maybe_suite r.0.1)) x.0.span, r.1))
unfolding reads_handled
try_handled ts p = try_handlers ts p ∙ simp (if_bind, bind_assoc)

same_end : {A : Type 0} (o : Outcome A) → (o >>= λ x. Ok (x.0, x.1)) ≡ o
same_end (Ok x) = refl
same_end (Err e) = refl

pub finally_suite : (ts : List Token) (p : Place) → reads_sym ts FINALLY p ≡ (accept ts (terminal.Key k.Finally) p >>= λ x. reads_suite ts x.1)
unfolding reads_suite
finally_suite ts p =
    finally_eq ts p ∙ bind_same (accept ts (terminal.Key k.Finally) p) _ _ (λ x. bind_same (accept ts (terminal.Sign s.Colon) x.1) _ _ (λ c. same_end (reads_sym ts BLOCK c.1)))

pub except_caught : (ts : List Token) (p : Place) → reads_sym ts EXCEPT p ≡
    (accept ts (terminal.Key k.Except) p >>= λ x. reads_caught ts x.1 >>= λ n. reads_suite ts n.1 >>= λ b. Ok (handler n.0.0 n.0.1 (suite_of b.0) x.0.span, b.1))
unfolding reads_caught reads_as reads_suite
except_caught ts p = except_eq ts p ∙ simp (bind_assoc, if_bind)

pub ruleset statements = (stmt_compound)

pub ruleset blocks = (block_stmts)

pub ruleset stmt_rows = (stmts_eq)

pub ruleset arm = (arm_suite)

pub ruleset ifs = (if_arms)

pub ruleset arm_rows = (arms_eq)

pub ruleset whiles = (while_suite)

pub ruleset fors = (for_suite)

pub ruleset tries = (try_handled)

pub ruleset finals = (finally_suite)

pub ruleset handler_rows = (handlers_eq)

pub ruleset excepts = (except_caught)

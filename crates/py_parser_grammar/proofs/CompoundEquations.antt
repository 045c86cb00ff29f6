-- What reading a compound statement, a definition and a module is, by what reading its parts is.
use Rattle.std.proofs.Common.{◌≡◌, ℕ, List, [], ◌∷◌, ◌++◌, Option, Some, None, Ok, Err, if◌then◌else◌, refl, ◌∙◌, ap}
use Rattle.py_syntax.specs.declared.key.Key.TheVariants as k
use Rattle.py_syntax.specs.declared.sign.Sign.TheVariants as s
use Rattle.py_syntax.specs.declared.token.Span.{Span}
use Rattle.py_syntax.specs.declared.token.Token.{Token}
use Rattle.py_syntax.specs.Expressions.{ExprTree}
use Rattle.py_syntax.specs.Statements as st
use Rattle.py_syntax.specs.Statements.{StmtTree, Suite, HandlerTree, FuncTree, ClassTree, suite_of, arms_of, handlers_of}
use Rattle.py_parser_grammar.specs.declared.terminal.Terminal.TheVariants as terminal
use Rattle.py_parser_grammar.specs.declared.place.Place.{Place}
use Rattle.py_parser_grammar.specs.Grammar as g
use Rattle.py_parser_grammar.specs.Grammar.{expr, tok, ◌·◌, comma, sign, key, TESTS, TARGETS, TEST, PLAIN, AUG, RETURN, RAISE, GLOBAL, ASSERT, DEL, IMPORT, FROM, DOTTED, ALIAS, SMALL, SIMPLE, STMT, IF, ARM, WHILE, FOR, TRY, EXCEPT, FINALLY, BLOCK, FUNC, PARAM, CLASS, CBLOCK, MEMBER, MARK, DECORATED, TOP, MODULE}
use Rattle.py_parser_grammar.specs.Actions.{stmt, name_of, seconds, joined, marks_of, def_at, class_at}
use Rattle.py_parser_grammar.specs.Reader.{Outcome, ◌>>=◌, accept, sees, starts, starts_expr}
use Rattle.py_parser_grammar.specs.Readings.{reads_sym, reads_expr, reads_many, reads_items, reads_trees, many_into, spread, single, whole}
use Rattle.py_parser_grammar.proofs.Opening.{bind_same, if_same, sym_eq}
use Rattle.py_parser_grammar.proofs.Loops.{spread_single, spread_joined, many_round, many_made, items_opened, trees_opened}
use Rattle.py_parser_grammar.proofs.StatementEquations.{second_part, spread_seconds}

same_end : {A : Type 0} (o : Outcome A) → (o >>= λ x. Ok (x.0, x.1)) ≡ o
same_end (Ok x) = refl
same_end (Err e) = refl

-- ---- blocks

pub stmt_eq : (ts : List Token) (p : Place) → reads_sym ts STMT p ≡
    (if sees ts p (terminal.Key k.If ∷ []) then (reads_sym ts IF p >>= λ x. Ok (x.0 ∷ [], x.1))
    else (if sees ts p (terminal.Key k.While ∷ []) then (reads_sym ts WHILE p >>= λ x. Ok (x.0 ∷ [], x.1))
    else (if sees ts p (terminal.Key k.For ∷ []) then (reads_sym ts FOR p >>= λ x. Ok (x.0 ∷ [], x.1))
    else (if sees ts p (terminal.Key k.Try ∷ []) then (reads_sym ts TRY p >>= λ x. Ok (x.0 ∷ [], x.1))
    else reads_sym ts SIMPLE p))))
stmt_eq ts p =
    sym_eq ts STMT p
    ∙ if_same (sees ts p (terminal.Key k.If ∷ [])) refl
    (if_same (sees ts p (terminal.Key k.While ∷ [])) refl
    (if_same (sees ts p (terminal.Key k.For ∷ [])) refl
    (if_same (sees ts p (terminal.Key k.Try ∷ [])) refl (same_end (reads_sym ts SIMPLE p)))))

pub block_eq : (ts : List Token) (p : Place) → reads_sym ts BLOCK p ≡ (if sees ts p (terminal.Newline ∷ [])
    then (accept ts terminal.Newline p >>= λ x. accept ts terminal.Indent x.1 >>= λ y. reads_sym ts STMT y.1 >>= λ z. many_into whole z.0 (reads_many ts (g.sym STMT) z.1) >>= λ w. accept ts terminal.Dedent w.1 >>= λ d. Ok (w.0, d.1))
    else reads_sym ts SIMPLE p)
block_eq ts p =
    sym_eq ts BLOCK p
    ∙ if_same (sees ts p (terminal.Newline ∷ []))
    (bind_same (accept ts terminal.Newline p) _ _ (λ x. bind_same (accept ts terminal.Indent x.1) _ _ (λ y. bind_same (reads_sym ts STMT y.1) _ _ (λ z.
    many_made whole joined z.0 (λ w. accept ts terminal.Dedent w.1 >>= λ d. Ok (w.0, d.1)) (reads_many ts (g.sym STMT) z.1) spread_joined))))
    (same_end (reads_sym ts SIMPLE p))

pub stmts_round : (ts : List Token) (p : Place) (found : List StmtTree) → many_into whole found (reads_many ts (g.sym STMT) p) ≡ (if sees ts p (starts STMT)
    then (reads_sym ts STMT p >>= λ x. many_into whole (found ++ x.0) (reads_many ts (g.sym STMT) x.1))
    else Ok (found, p))
stmts_round ts p found = many_round ts (g.sym STMT) p whole found refl refl

pub member_eq : (ts : List Token) (p : Place) → reads_sym ts MEMBER p ≡ (if sees ts p (terminal.Key k.Def ∷ [])
    then (reads_sym ts FUNC p >>= λ x. Ok (def_at x.0.0 [] x.0.1 ∷ [], x.1))
    else reads_sym ts STMT p)
member_eq ts p = sym_eq ts MEMBER p ∙ if_same (sees ts p (terminal.Key k.Def ∷ [])) refl (same_end (reads_sym ts STMT p))

pub cblock_eq : (ts : List Token) (p : Place) → reads_sym ts CBLOCK p ≡ (if sees ts p (terminal.Newline ∷ [])
    then (accept ts terminal.Newline p >>= λ x. accept ts terminal.Indent x.1 >>= λ y. reads_sym ts MEMBER y.1 >>= λ z. many_into whole z.0 (reads_many ts (g.sym MEMBER) z.1) >>= λ w. accept ts terminal.Dedent w.1 >>= λ d. Ok (w.0, d.1))
    else reads_sym ts SIMPLE p)
cblock_eq ts p =
    sym_eq ts CBLOCK p
    ∙ if_same (sees ts p (terminal.Newline ∷ []))
    (bind_same (accept ts terminal.Newline p) _ _ (λ x. bind_same (accept ts terminal.Indent x.1) _ _ (λ y. bind_same (reads_sym ts MEMBER y.1) _ _ (λ z.
    many_made whole joined z.0 (λ w. accept ts terminal.Dedent w.1 >>= λ d. Ok (w.0, d.1)) (reads_many ts (g.sym MEMBER) z.1) spread_joined))))
    (same_end (reads_sym ts SIMPLE p))

pub members_round : (ts : List Token) (p : Place) (found : List StmtTree) → many_into whole found (reads_many ts (g.sym MEMBER) p) ≡ (if sees ts p (starts MEMBER)
    then (reads_sym ts MEMBER p >>= λ x. many_into whole (found ++ x.0) (reads_many ts (g.sym MEMBER) x.1))
    else Ok (found, p))
members_round ts p found = many_round ts (g.sym MEMBER) p whole found refl refl

-- ---- compound statements

pub arm_eq : (ts : List Token) (p : Place) → reads_sym ts ARM p ≡ (reads_expr ts TEST p >>= λ x. accept ts (terminal.Sign s.Colon) x.1 >>= λ c. reads_sym ts BLOCK c.1 >>= λ b. Ok ((x.0.tree, suite_of b.0), b.1))
arm_eq ts p = sym_eq ts ARM p

pub if_eq : (ts : List Token) (p : Place) → reads_sym ts IF p ≡ (accept ts (terminal.Key k.If) p >>= λ x. reads_sym ts ARM x.1 >>= λ a. many_into second_part (a.0 ∷ []) (reads_many ts (key k.Elif · g.sym ARM) a.1) >>= λ y.
    if sees ts y.1 (terminal.Key k.Else ∷ [])
    then (accept ts (terminal.Key k.Else) y.1 >>= λ w. accept ts (terminal.Sign s.Colon) w.1 >>= λ c. reads_sym ts BLOCK c.1 >>= λ b. Ok (stmt (st.If (arms_of y.0) (suite_of b.0)) x.0, b.1))
    else Ok (stmt (st.If (arms_of y.0) st.no_stmts) x.0, y.1))
if_eq ts p =
    sym_eq ts IF p
    ∙ bind_same (accept ts (terminal.Key k.If) p) _ _ (λ x. bind_same (reads_sym ts ARM x.1) _ _ (λ a.
    many_made second_part seconds (a.0 ∷ [])
    (λ y. if sees ts y.1 (terminal.Key k.Else ∷ [])
    then (accept ts (terminal.Key k.Else) y.1 >>= λ w. accept ts (terminal.Sign s.Colon) w.1 >>= λ c. reads_sym ts BLOCK c.1 >>= λ b. Ok (stmt (st.If (arms_of y.0) (suite_of b.0)) x.0, b.1))
    else Ok (stmt (st.If (arms_of y.0) st.no_stmts) x.0, y.1))
    (reads_many ts (key k.Elif · g.sym ARM) a.1) spread_seconds))

pub arms_round : (ts : List Token) (p : Place) (found : List (ExprTree × Suite)) → many_into second_part found (reads_many ts (key k.Elif · g.sym ARM) p) ≡ (if sees ts p (terminal.Key k.Elif ∷ [])
    then (accept ts (terminal.Key k.Elif) p >>= λ w. reads_sym ts ARM w.1 >>= λ a. many_into second_part (found ++ a.0 ∷ []) (reads_many ts (key k.Elif · g.sym ARM) a.1))
    else Ok (found, p))
arms_round ts p found = many_round ts (key k.Elif · g.sym ARM) p second_part found refl refl

pub while_eq : (ts : List Token) (p : Place) → reads_sym ts WHILE p ≡ (accept ts (terminal.Key k.While) p >>= λ x. reads_expr ts TEST x.1 >>= λ y. accept ts (terminal.Sign s.Colon) y.1 >>= λ c. reads_sym ts BLOCK c.1 >>= λ b. Ok (stmt (st.While y.0.tree (suite_of b.0)) x.0, b.1))
while_eq ts p = sym_eq ts WHILE p

pub for_eq : (ts : List Token) (p : Place) → reads_sym ts FOR p ≡ (accept ts (terminal.Key k.For) p >>= λ x. reads_expr ts TARGETS x.1 >>= λ y. accept ts (terminal.Key k.In) y.1 >>= λ i. reads_expr ts TESTS i.1 >>= λ z. accept ts (terminal.Sign s.Colon) z.1 >>= λ c. reads_sym ts BLOCK c.1 >>= λ b. Ok (stmt (st.For y.0.tree z.0.tree (suite_of b.0)) x.0, b.1))
for_eq ts p = sym_eq ts FOR p

pub finally_eq : (ts : List Token) (p : Place) → reads_sym ts FINALLY p ≡ (accept ts (terminal.Key k.Finally) p >>= λ x. accept ts (terminal.Sign s.Colon) x.1 >>= λ c. reads_sym ts BLOCK c.1 >>= λ b. Ok (b.0, b.1))
finally_eq ts p = sym_eq ts FINALLY p

-- a handler of these parts
abbrev pub handler : Option ExprTree → Option (List ℕ) → Suite → Span → HandlerTree
handler of_class name body span = record { class = of_class; name = name; body = body; span = span }

pub except_eq : (ts : List Token) (p : Place) → reads_sym ts EXCEPT p ≡ (accept ts (terminal.Key k.Except) p >>= λ x.
    if sees ts x.1 (starts_expr TEST)
    then (reads_expr ts TEST x.1 >>= λ y.
    if sees ts y.1 (terminal.Key k.As ∷ [])
    then (accept ts (terminal.Key k.As) y.1 >>= λ a. accept ts terminal.Name a.1 >>= λ n. accept ts (terminal.Sign s.Colon) n.1 >>= λ c. reads_sym ts BLOCK c.1 >>= λ b. Ok (handler (Some y.0.tree) (Some (name_of n.0)) (suite_of b.0) x.0.span, b.1))
    else (accept ts (terminal.Sign s.Colon) y.1 >>= λ c. reads_sym ts BLOCK c.1 >>= λ b. Ok (handler (Some y.0.tree) None (suite_of b.0) x.0.span, b.1)))
    else (accept ts (terminal.Sign s.Colon) x.1 >>= λ c. reads_sym ts BLOCK c.1 >>= λ b. Ok (handler None None (suite_of b.0) x.0.span, b.1)))
except_eq ts p = sym_eq ts EXCEPT p

pub try_eq : (ts : List Token) (p : Place) → reads_sym ts TRY p ≡ (accept ts (terminal.Key k.Try) p >>= λ x. accept ts (terminal.Sign s.Colon) x.1 >>= λ c. reads_sym ts BLOCK c.1 >>= λ b.
    if sees ts b.1 (terminal.Key k.Except ∷ [])
    then (reads_sym ts EXCEPT b.1 >>= λ h. many_into single (h.0 ∷ []) (reads_many ts (g.sym EXCEPT) h.1) >>= λ y.
    if sees ts y.1 (terminal.Key k.Finally ∷ [])
    then (reads_sym ts FINALLY y.1 >>= λ f. Ok (stmt (st.Try (suite_of b.0) (handlers_of y.0) (st.some_suite (suite_of f.0))) x.0, f.1))
    else Ok (stmt (st.Try (suite_of b.0) (handlers_of y.0) st.no_suite) x.0, y.1))
    else (reads_sym ts FINALLY b.1 >>= λ f. Ok (stmt (st.Try (suite_of b.0) st.no_handlers (st.some_suite (suite_of f.0))) x.0, f.1)))
try_eq ts p =
    sym_eq ts TRY p
    ∙ bind_same (accept ts (terminal.Key k.Try) p) _ _ (λ x. bind_same (accept ts (terminal.Sign s.Colon) x.1) _ _ (λ c. bind_same (reads_sym ts BLOCK c.1) _ _ (λ b.
    if_same (sees ts b.1 (terminal.Key k.Except ∷ []))
    (bind_same (reads_sym ts EXCEPT b.1) _ _ (λ h.
    many_made single (λ l. l) (h.0 ∷ [])
    (λ y. if sees ts y.1 (terminal.Key k.Finally ∷ [])
    then (reads_sym ts FINALLY y.1 >>= λ f. Ok (stmt (st.Try (suite_of b.0) (handlers_of y.0) (st.some_suite (suite_of f.0))) x.0, f.1))
    else Ok (stmt (st.Try (suite_of b.0) (handlers_of y.0) st.no_suite) x.0, y.1))
    (reads_many ts (g.sym EXCEPT) h.1) spread_single))
    refl)))

pub handlers_round : (ts : List Token) (p : Place) (found : List HandlerTree) → many_into single found (reads_many ts (g.sym EXCEPT) p) ≡ (if sees ts p (terminal.Key k.Except ∷ [])
    then (reads_sym ts EXCEPT p >>= λ h. many_into single (found ++ h.0 ∷ []) (reads_many ts (g.sym EXCEPT) h.1))
    else Ok (found, p))
handlers_round ts p found = many_round ts (g.sym EXCEPT) p single found refl refl

-- ---- definitions

pub param_eq : (ts : List Token) (p : Place) → reads_sym ts PARAM p ≡ (accept ts terminal.Name p >>= λ x.
    if sees ts x.1 (terminal.Sign s.Colon ∷ [])
    then (accept ts (terminal.Sign s.Colon) x.1 >>= λ c. reads_expr ts TEST c.1 >>= λ y. Ok ((name_of x.0, Some y.0.tree), y.1))
    else Ok ((name_of x.0, None), x.1))
param_eq ts p = sym_eq ts PARAM p

-- a function and a class of these parts, with no decorators yet
abbrev pub func_of : List ℕ → List (List ℕ × Option ExprTree) → Option ExprTree → Suite → FuncTree
func_of name params ret body = record { name = name; params = params; ret = ret; body = body; marks = [] }

abbrev pub class_of_parts : List ℕ → List ExprTree → Suite → ClassTree
class_of_parts name bases body = record { name = name; bases = bases; body = body; marks = [] }

pub func_eq : (ts : List Token) (p : Place) → reads_sym ts FUNC p ≡ (accept ts (terminal.Key k.Def) p >>= λ x. accept ts terminal.Name x.1 >>= λ n. accept ts (terminal.Sign s.LeftParen) n.1 >>= λ l. reads_items ts PARAM l.1 >>= λ ps. accept ts (terminal.Sign s.RightParen) ps.1 >>= λ r.
    if sees ts r.1 (terminal.Sign s.Arrow ∷ [])
    then (accept ts (terminal.Sign s.Arrow) r.1 >>= λ a. reads_expr ts TEST a.1 >>= λ t. accept ts (terminal.Sign s.Colon) t.1 >>= λ c. reads_sym ts BLOCK c.1 >>= λ b. Ok ((func_of (name_of n.0) ps.0 (Some t.0.tree) (suite_of b.0), x.0.span), b.1))
    else (accept ts (terminal.Sign s.Colon) r.1 >>= λ c. reads_sym ts BLOCK c.1 >>= λ b. Ok ((func_of (name_of n.0) ps.0 None (suite_of b.0), x.0.span), b.1)))
func_eq ts p =
    sym_eq ts FUNC p
    ∙ bind_same (accept ts (terminal.Key k.Def) p) _ _ (λ x. bind_same (accept ts terminal.Name x.1) _ _ (λ n. bind_same (accept ts (terminal.Sign s.LeftParen) n.1) _ _ (λ l.
    items_opened ts PARAM l.1 (λ ps. accept ts (terminal.Sign s.RightParen) ps.1 >>= λ r.
    if sees ts r.1 (terminal.Sign s.Arrow ∷ [])
    then (accept ts (terminal.Sign s.Arrow) r.1 >>= λ a. reads_expr ts TEST a.1 >>= λ t. accept ts (terminal.Sign s.Colon) t.1 >>= λ c. reads_sym ts BLOCK c.1 >>= λ b. Ok ((func_of (name_of n.0) ps.0 (Some t.0.tree) (suite_of b.0), x.0.span), b.1))
    else (accept ts (terminal.Sign s.Colon) r.1 >>= λ c. reads_sym ts BLOCK c.1 >>= λ b. Ok ((func_of (name_of n.0) ps.0 None (suite_of b.0), x.0.span), b.1))))))

pub class_eq : (ts : List Token) (p : Place) → reads_sym ts CLASS p ≡ (accept ts (terminal.Key k.Class) p >>= λ x. accept ts terminal.Name x.1 >>= λ n.
    if sees ts n.1 (terminal.Sign s.LeftParen ∷ [])
    then (accept ts (terminal.Sign s.LeftParen) n.1 >>= λ l. reads_trees ts l.1 >>= λ bs. accept ts (terminal.Sign s.RightParen) bs.1 >>= λ r. accept ts (terminal.Sign s.Colon) r.1 >>= λ c. reads_sym ts CBLOCK c.1 >>= λ b. Ok ((class_of_parts (name_of n.0) bs.0 (suite_of b.0), x.0.span), b.1))
    else (accept ts (terminal.Sign s.Colon) n.1 >>= λ c. reads_sym ts CBLOCK c.1 >>= λ b. Ok ((class_of_parts (name_of n.0) [] (suite_of b.0), x.0.span), b.1)))
class_eq ts p =
    sym_eq ts CLASS p
    ∙ bind_same (accept ts (terminal.Key k.Class) p) _ _ (λ x. bind_same (accept ts terminal.Name x.1) _ _ (λ n.
    if_same (sees ts n.1 (terminal.Sign s.LeftParen ∷ []))
    (bind_same (accept ts (terminal.Sign s.LeftParen) n.1) _ _ (λ l.
    trees_opened ts l.1 (λ bs. accept ts (terminal.Sign s.RightParen) bs.1 >>= λ r. accept ts (terminal.Sign s.Colon) r.1 >>= λ c. reads_sym ts CBLOCK c.1 >>= λ b. Ok ((class_of_parts (name_of n.0) bs.0 (suite_of b.0), x.0.span), b.1))))
    refl))

pub mark_eq : (ts : List Token) (p : Place) → reads_sym ts MARK p ≡ (accept ts (terminal.Sign s.At) p >>= λ x. reads_expr ts TEST x.1 >>= λ y. accept ts terminal.Newline y.1 >>= λ z. Ok ((y.0.tree, x.0.span), z.1))
mark_eq ts p = sym_eq ts MARK p

-- what a decorator is without its place
abbrev pub mark_part : ExprTree × Span → List ExprTree
mark_part m = m.0 ∷ []

spread_marks : (vs : List (ExprTree × Span)) → spread mark_part vs ≡ marks_of vs
spread_marks [] = refl
spread_marks (v ∷ vs) = ap (λ l. v.0 ∷ l) (spread_marks vs)

pub decorated_eq : (ts : List Token) (p : Place) → reads_sym ts DECORATED p ≡ (reads_sym ts MARK p >>= λ m. many_into mark_part (m.0.0 ∷ []) (reads_many ts (g.sym MARK) m.1) >>= λ y.
    if sees ts y.1 (terminal.Key k.Def ∷ [])
    then (reads_sym ts FUNC y.1 >>= λ f. Ok (def_at f.0.0 y.0 m.0.1, f.1))
    else (reads_sym ts CLASS y.1 >>= λ c. Ok (class_at c.0.0 y.0 m.0.1, c.1)))
decorated_eq ts p =
    sym_eq ts DECORATED p
    ∙ bind_same (reads_sym ts MARK p) _ _ (λ m.
    many_made mark_part marks_of (m.0.0 ∷ [])
    (λ y. if sees ts y.1 (terminal.Key k.Def ∷ [])
    then (reads_sym ts FUNC y.1 >>= λ f. Ok (def_at f.0.0 y.0 m.0.1, f.1))
    else (reads_sym ts CLASS y.1 >>= λ c. Ok (class_at c.0.0 y.0 m.0.1, c.1)))
    (reads_many ts (g.sym MARK) m.1) spread_marks)

pub marks_round : (ts : List Token) (p : Place) (found : List ExprTree) → many_into mark_part found (reads_many ts (g.sym MARK) p) ≡ (if sees ts p (terminal.Sign s.At ∷ [])
    then (reads_sym ts MARK p >>= λ m. many_into mark_part (found ++ m.0.0 ∷ []) (reads_many ts (g.sym MARK) m.1))
    else Ok (found, p))
marks_round ts p found = many_round ts (g.sym MARK) p mark_part found refl refl

-- ---- the module

pub top_eq : (ts : List Token) (p : Place) → reads_sym ts TOP p ≡
    (if sees ts p (terminal.Key k.Def ∷ []) then (reads_sym ts FUNC p >>= λ x. Ok (def_at x.0.0 [] x.0.1 ∷ [], x.1))
    else (if sees ts p (terminal.Key k.Class ∷ []) then (reads_sym ts CLASS p >>= λ x. Ok (class_at x.0.0 [] x.0.1 ∷ [], x.1))
    else (if sees ts p (terminal.Sign s.At ∷ []) then (reads_sym ts DECORATED p >>= λ x. Ok (x.0 ∷ [], x.1))
    else reads_sym ts STMT p)))
top_eq ts p =
    sym_eq ts TOP p
    ∙ if_same (sees ts p (terminal.Key k.Def ∷ [])) refl
    (if_same (sees ts p (terminal.Key k.Class ∷ [])) refl (if_same (sees ts p (terminal.Sign s.At ∷ [])) refl (same_end (reads_sym ts STMT p))))

pub module_eq : (ts : List Token) (p : Place) → reads_sym ts MODULE p ≡ (many_into whole [] (reads_many ts (g.sym TOP) p) >>= λ x. accept ts terminal.End x.1 >>= λ y. Ok (suite_of x.0, y.1))
module_eq ts p =
    sym_eq ts MODULE p
    ∙ many_made whole joined [] (λ x. accept ts terminal.End x.1 >>= λ y. Ok (suite_of x.0, y.1)) (reads_many ts (g.sym TOP) p) spread_joined

pub tops_round : (ts : List Token) (p : Place) (found : List StmtTree) → many_into whole found (reads_many ts (g.sym TOP) p) ≡ (if sees ts p (starts TOP)
    then (reads_sym ts TOP p >>= λ x. many_into whole (found ++ x.0) (reads_many ts (g.sym TOP) x.1))
    else Ok (found, p))
tops_round ts p found = many_round ts (g.sym TOP) p whole found refl refl

-- Reading functions, classes and modules.
use Rattle.std.proofs.Common.{◌≡◌, true, List, [], ◌∷◌, ◌++◌, Ok, if◌then◌else◌, refl, sym, ◌∙◌, ap}
use Rattle.py_syntax.specs.declared.key.Key.TheVariants as k
use Rattle.py_syntax.specs.declared.sign.Sign.TheVariants as s
use Rattle.py_syntax.specs.declared.token.Span.{Span}
use Rattle.py_syntax.specs.declared.token.Token.{Token}
use Rattle.py_syntax.specs.Expressions.{ExprTree}
use Rattle.py_syntax.specs.Statements.{StmtTree, suite_of}
use Rattle.py_parser_grammar.specs.declared.terminal.Terminal.TheVariants as terminal
use Rattle.py_parser_grammar.specs.declared.place.Place.{Place}
use Rattle.py_parser_grammar.specs.Grammar as g
use Rattle.py_parser_grammar.specs.Grammar.{SIMPLE, FUNC, PARAM, CLASS, CBLOCK, MEMBER, MARK, DECORATED, TOP, MODULE}
use Rattle.py_parser_grammar.specs.Actions.{name_of, joined, marks_of, def_at, class_at}
use Rattle.py_parser_grammar.specs.Reader.{◌>>=◌, accept, sees, starts}
use Rattle.py_parser_grammar.specs.Readings.{reads_sym, reads_many, many_into, spread, whole}
use Rattle.py_parser_grammar.proofs.Opening.{bind_assoc, if_bind, if_same, bind_same}
use Rattle.py_parser_grammar.proofs.Loops.{spread_joined}
use Rattle.py_parser_grammar.proofs.CompoundEquations.{func_eq, class_eq, param_eq, member_eq, cblock_eq, members_round, mark_eq, mark_part, decorated_eq, marks_round, top_eq, module_eq, tops_round, func_of, class_of_parts}
use Rattle.py_parser_statements.specs.Suites.{reads_suite}
use Rattle.py_parser.specs.Definitions.{reads_params, reads_class_body, reads_bases, reads_members, reads_marks, reads_tops, reads_maybe}
use Rattle.py_parser_cursor.proofs.Binds.{regrouped}
use Rattle.py_parser_expressions.proofs.RowReading.{items_row, trees_row}

-- ---- functions and classes

pub param_maybe : (ts : List Token) (p : Place) → reads_sym ts PARAM p ≡ (accept ts terminal.Name p >>= λ x. reads_maybe ts s.Colon x.1 >>= λ t. Ok ((name_of x.0, t.0), t.1))
unfolding reads_maybe
param_maybe ts p = param_eq ts p ∙ simp (bind_assoc, if_bind)

pub func_maybe : (ts : List Token) (p : Place) → reads_sym ts FUNC p ≡
    (accept ts (terminal.Key k.Def) p >>= λ x. accept ts terminal.Name x.1 >>= λ n. reads_params ts n.1 >>= λ ps. reads_maybe ts s.Arrow ps.1 >>= λ t. reads_suite ts t.1 >>= λ b. Ok ((func_of (name_of n.0) ps.0 t.0 (suite_of b.0), x.0.span), b.1))
unfolding reads_params reads_maybe reads_suite
func_maybe ts p = func_eq ts p ∙ simp (bind_assoc, if_bind, items_row)

pub class_bases : (ts : List Token) (p : Place) → reads_sym ts CLASS p ≡
    (accept ts (terminal.Key k.Class) p >>= λ x. accept ts terminal.Name x.1 >>= λ n. reads_bases ts n.1 >>= λ bs. reads_class_body ts bs.1 >>= λ b.
    Ok ((class_of_parts (name_of n.0) bs.0 (suite_of b.0), x.0.span), b.1))
unfolding reads_bases reads_class_body
class_bases ts p = class_eq ts p ∙ simp (bind_assoc, if_bind, trees_row)

-- ---- rows of members, decorators, and what stands in a module

members_into : (ts : List Token) (found : List StmtTree) (p : Place) → reads_members ts found p ≡ many_into whole found (reads_many ts (g.sym MEMBER) p)
unfolding reads_members
members_into ts found p = sym (regrouped (spread whole) joined found (reads_many ts (g.sym MEMBER) p) spread_joined)

pub members_eq : (ts : List Token) (found : List StmtTree) (p : Place) → reads_members ts found p ≡ (if sees ts p (starts MEMBER) then (reads_sym ts MEMBER p >>= λ x. reads_members ts (found ++ x.0) x.1) else Ok (found, p))
members_eq ts found p =
    members_into ts found p ∙ members_round ts p found
    ∙ if_same (sees ts p (starts MEMBER)) (bind_same (reads_sym ts MEMBER p) _ _ (λ x. sym (members_into ts (found ++ x.0) x.1))) refl

pub members_more : (ts : List Token) (found : List StmtTree) (p : Place) (x : List StmtTree × Place) → sees ts p (starts MEMBER) ≡ true → reads_sym ts MEMBER p ≡ Ok x → reads_members ts found p ≡ reads_members ts (found ++ x.0) x.1
members_more ts found p x a b = members_eq ts found p ∙ rw (a, b) refl

pub cblock_members : (ts : List Token) (p : Place) → reads_sym ts CBLOCK p ≡
    (if sees ts p (terminal.Newline ∷ [])
    then (accept ts terminal.Newline p >>= λ x. accept ts terminal.Indent x.1 >>= λ y. reads_sym ts MEMBER y.1 >>= λ z. reads_members ts z.0 z.1 >>= λ w. accept ts terminal.Dedent w.1 >>= λ d. Ok (w.0, d.1))
    else reads_sym ts SIMPLE p)
cblock_members ts p =
    cblock_eq ts p
    ∙ if_same (sees ts p (terminal.Newline ∷ []))
    (bind_same (accept ts terminal.Newline p) _ _ (λ x. bind_same (accept ts terminal.Indent x.1) _ _ (λ y. bind_same (reads_sym ts MEMBER y.1) _ _ (λ z.
    ap (λ o. o >>= λ w. accept ts terminal.Dedent w.1 >>= λ d. Ok (w.0, d.1)) (sym (members_into ts z.0 z.1)))))) refl

tops_into : (ts : List Token) (found : List StmtTree) (p : Place) → reads_tops ts found p ≡ many_into whole found (reads_many ts (g.sym TOP) p)
unfolding reads_tops
tops_into ts found p = sym (regrouped (spread whole) joined found (reads_many ts (g.sym TOP) p) spread_joined)

pub tops_eq : (ts : List Token) (found : List StmtTree) (p : Place) → reads_tops ts found p ≡ (if sees ts p (starts TOP) then (reads_sym ts TOP p >>= λ x. reads_tops ts (found ++ x.0) x.1) else Ok (found, p))
tops_eq ts found p =
    tops_into ts found p ∙ tops_round ts p found
    ∙ if_same (sees ts p (starts TOP)) (bind_same (reads_sym ts TOP p) _ _ (λ x. sym (tops_into ts (found ++ x.0) x.1))) refl

pub tops_more : (ts : List Token) (found : List StmtTree) (p : Place) (x : List StmtTree × Place) → sees ts p (starts TOP) ≡ true → reads_sym ts TOP p ≡ Ok x → reads_tops ts found p ≡ reads_tops ts (found ++ x.0) x.1
tops_more ts found p x a b = tops_eq ts found p ∙ rw (a, b) refl

pub module_tops : (ts : List Token) (p : Place) → reads_sym ts MODULE p ≡ (reads_tops ts [] p >>= λ x. accept ts terminal.End x.1 >>= λ y. Ok (suite_of x.0, y.1))
module_tops ts p = module_eq ts p ∙ ap (λ o. o >>= λ x. accept ts terminal.End x.1 >>= λ y. Ok (suite_of x.0, y.1)) (sym (tops_into ts [] p))

marks_spread : (vs : List (ExprTree × Span)) → spread mark_part vs ≡ marks_of vs
marks_spread [] = refl
marks_spread (v ∷ vs) = ap (λ l. v.0 ∷ l) (marks_spread vs)

marks_into : (ts : List Token) (found : List ExprTree) (p : Place) → reads_marks ts found p ≡ many_into mark_part found (reads_many ts (g.sym MARK) p)
unfolding reads_marks
marks_into ts found p = sym (regrouped (spread mark_part) marks_of found (reads_many ts (g.sym MARK) p) marks_spread)

pub marks_eq : (ts : List Token) (found : List ExprTree) (p : Place) → reads_marks ts found p ≡ (if sees ts p (terminal.Sign s.At ∷ []) then (reads_sym ts MARK p >>= λ m. reads_marks ts (found ++ m.0.0 ∷ []) m.1) else Ok (found, p))
marks_eq ts found p =
    marks_into ts found p ∙ marks_round ts p found
    ∙ if_same (sees ts p (terminal.Sign s.At ∷ [])) (bind_same (reads_sym ts MARK p) _ _ (λ m. sym (marks_into ts (found ++ m.0.0 ∷ []) m.1))) refl

pub marks_more : (ts : List Token) (found : List ExprTree) (p : Place) (m : (ExprTree × Span) × Place) → sees ts p (terminal.Sign s.At ∷ []) ≡ true → reads_sym ts MARK p ≡ Ok m → reads_marks ts found p ≡ reads_marks ts (found ++ m.0.0 ∷ []) m.1
marks_more ts found p m a b = marks_eq ts found p ∙ rw (a, b) refl

pub decorated_marks : (ts : List Token) (p : Place) → reads_sym ts DECORATED p ≡
    (reads_sym ts MARK p >>= λ m. reads_marks ts (m.0.0 ∷ []) m.1 >>= λ y.
    if sees ts y.1 (terminal.Key k.Def ∷ [])
    then (reads_sym ts FUNC y.1 >>= λ f. Ok (def_at f.0.0 y.0 m.0.1, f.1))
    else (reads_sym ts CLASS y.1 >>= λ c. Ok (class_at c.0.0 y.0 m.0.1, c.1)))
decorated_marks ts p =
    decorated_eq ts p
    ∙ bind_same (reads_sym ts MARK p) _ _ (λ m.
    ap (λ o. o >>= λ y.
    if sees ts y.1 (terminal.Key k.Def ∷ [])
    then (reads_sym ts FUNC y.1 >>= λ f. Ok (def_at f.0.0 y.0 m.0.1, f.1))
    else (reads_sym ts CLASS y.1 >>= λ c. Ok (class_at c.0.0 y.0 m.0.1, c.1))) (sym (marks_into ts (m.0.0 ∷ []) m.1)))

pub ruleset params = (param_maybe)

pub ruleset funcs = (func_maybe)

pub ruleset classes = (class_bases)

pub ruleset member_rows = (members_eq)

pub ruleset member = (member_eq)

pub ruleset class_blocks = (cblock_members)

pub ruleset marks = (mark_eq)

pub ruleset mark_rows = (marks_eq)

pub ruleset decorateds = (decorated_marks)

pub ruleset tops = (top_eq)

pub ruleset top_rows = (tops_eq)

pub ruleset modules = (module_tops)

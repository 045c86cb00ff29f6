-- Definitions and modules and their parts, as they are read.
use Rattle.std.specs.Global.{Box}
use Rattle.std.specs.Prelude.{ℕ, List, [], ◌∷◌, ◌++◌, Option, Some, None, Ok, map, if◌then◌else◌}
use Rattle.py_syntax.specs.declared.expression.Expr.{Expr}
use Rattle.py_syntax.specs.declared.statement.Func.{Func}
use Rattle.py_syntax.specs.declared.statement.Class.{Class}
use Rattle.py_syntax.specs.declared.sign.Sign.{Sign}
use Rattle.py_syntax.specs.declared.sign.Sign.TheVariants as s
use Rattle.py_syntax.specs.declared.token.Span.{Span}
use Rattle.py_syntax.specs.declared.token.Token.{Token}
use Rattle.py_syntax.specs.Expressions.{ExprTree, expr_tree}
use Rattle.py_syntax.specs.Statements.{StmtTree, FuncTree, ClassTree, func_tree, class_tree, param_tree}
use Rattle.py_parser_grammar.specs.declared.terminal.Terminal.TheVariants as terminal
use Rattle.py_parser_grammar.specs.declared.place.Place.{Place}
use Rattle.py_parser_grammar.specs.Grammar as g
use Rattle.py_parser_grammar.specs.Grammar.{TEST, FUNC, PARAM, CLASS, CBLOCK, MEMBER, MARK, TOP}
use Rattle.py_parser_grammar.specs.Actions.{joined, marks_of, def_at, class_at}
use Rattle.py_parser_grammar.specs.Reader.{Outcome, ◌>>=◌, accept, sees}
use Rattle.py_parser_grammar.specs.Readings.{reads_expr, reads_sym, reads_many}
use Rattle.py_parser_expressions.specs.Rows.{reads_row, reads_trees}
use Rattle.py_parser_nodes.specs.Parts.{maybe_boxed, param_boxed}

-- what was read, and the place behind it
abbrev pub maybe_seen : Option (Box Expr) × Place → Option ExprTree × Place
maybe_seen x = (maybe_boxed x.0, x.1)

abbrev pub exprs_listed : List Expr × Place → List ExprTree × Place
exprs_listed x = (map expr_tree x.0, x.1)

abbrev pub param_seen : (List ℕ × Option (Box Expr)) × Place → (List ℕ × Option ExprTree) × Place
param_seen x = (param_boxed x.0, x.1)

abbrev pub params_seen : List (List ℕ × Option Expr) × Place → List (List ℕ × Option ExprTree) × Place
params_seen x = (map param_tree x.0, x.1)

abbrev pub func_seen : (Box Func × Span) × Place → (FuncTree × Span) × Place
func_seen x = ((func_tree x.0.0.value, x.0.1), x.1)

abbrev pub class_seen : (Box Class × Span) × Place → (ClassTree × Span) × Place
class_seen x = ((class_tree x.0.0.value, x.0.1), x.1)

abbrev pub mark_seen : (Box Expr × Span) × Place → (ExprTree × Span) × Place
mark_seen x = ((expr_tree x.0.0.value, x.0.1), x.1)

-- an expression behind a sign, if the sign comes next
unfoldable pub reads_maybe : List Token → Sign → Place → Outcome (Option ExprTree)
reads_maybe ts text p =
    if sees ts p (terminal.Sign text ∷ [])
    then (accept ts (terminal.Sign text) p >>= λ a. reads_expr ts TEST a.1 >>= λ t. Ok (Some t.0.tree, t.1))
    else Ok (None, p)

-- parameters in brackets
unfoldable pub reads_params : List Token → Place → Outcome (List (List ℕ × Option ExprTree))
reads_params ts p =
    accept ts (terminal.Sign s.LeftParen) p >>= λ l. reads_row ts PARAM l.1 >>= λ ps. accept ts (terminal.Sign s.RightParen) ps.1 >>= λ r. Ok (ps.0, r.1)

-- the body of a class behind its colon
unfoldable pub reads_class_body : List Token → Place → Outcome (List StmtTree)
reads_class_body ts p = accept ts (terminal.Sign s.Colon) p >>= λ c. reads_sym ts CBLOCK c.1

-- a function and a class without decorators, as a row of one statement
abbrev pub reads_def : List Token → Place → Outcome (List StmtTree)
reads_def ts p = reads_sym ts FUNC p >>= λ f. Ok (def_at f.0.0 [] f.0.1 ∷ [], f.1)

abbrev pub reads_class : List Token → Place → Outcome (List StmtTree)
reads_class ts p = reads_sym ts CLASS p >>= λ c. Ok (class_at c.0.0 [] c.0.1 ∷ [], c.1)

-- the bases of a class, in brackets, or none
unfoldable pub reads_bases : List Token → Place → Outcome (List ExprTree)
reads_bases ts p =
    if sees ts p (terminal.Sign s.LeftParen ∷ [])
    then (accept ts (terminal.Sign s.LeftParen) p >>= λ l. reads_trees ts TEST l.1 >>= λ b. accept ts (terminal.Sign s.RightParen) b.1 >>= λ r. Ok (b.0, r.1))
    else Ok ([], p)

-- what may stand in a class, any number of times, and decorators, and what may stand in a module, behind those in front
unfoldable pub reads_members : List Token → List StmtTree → Place → Outcome (List StmtTree)
reads_members ts found p = reads_many ts (g.sym MEMBER) p >>= λ y. Ok (found ++ joined y.0, y.1)

unfoldable pub reads_marks : List Token → List ExprTree → Place → Outcome (List ExprTree)
reads_marks ts found p = reads_many ts (g.sym MARK) p >>= λ y. Ok (found ++ marks_of y.0, y.1)

unfoldable pub reads_tops : List Token → List StmtTree → Place → Outcome (List StmtTree)
reads_tops ts found p = reads_many ts (g.sym TOP) p >>= λ y. Ok (found ++ joined y.0, y.1)

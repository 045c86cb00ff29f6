-- Small modules and all that is wrong with them.
use Rattle.std.proofs.Common.{◌≡◌, refl, ℕ, List, [], ◌∷◌, Option, Some, None, codes, pos}
use Rattle.py_syntax.specs.declared.token.Span.{Span}
use Rattle.py_syntax.specs.declared.expression.CmpOp.TheVariants as op
use Rattle.py_syntax.specs.Expressions as e
use Rattle.py_syntax.specs.Expressions.{ExprTree}
use Rattle.py_syntax.specs.Statements as s
use Rattle.py_syntax.specs.Statements.{StmtTree, suite_of}
use Rattle.py_typed.specs.Sorts as sort
use Rattle.py_check_messages.specs.Seen.{diag}
use Rattle.py_check_messages.specs.Messages.{not_defined, unsupported_operands, outside_profile, no_type_yet}
use Rattle.py_check.specs.Module.{diagnostics}

abbrev on : ℕ → Span
on n = record { line = n; col = 1 }

abbrev name : ℕ → List ℕ → ExprTree
name n x = e.at (e.Name x) (on n)

abbrev printing : ℕ → ExprTree → StmtTree
printing n a = s.at (s.Do (e.at (e.Call (name n (codes "print")) (e.argument_then a e.no_arguments)) (on n))) (on n)

nothing_there : diagnostics s.no_stmts ≡ []
nothing_there = refl

-- x = 1 and print(x)
right : diagnostics (suite_of (s.at (s.Assign (name 1 (codes "x")) (e.at (e.Int (pos 1)) (on 1))) (on 1) ∷ printing 2 (name 2 (codes "x")) ∷ [])) ≡ []
right = refl

-- print(y)
unknown_name : diagnostics (suite_of (printing 1 (name 1 (codes "y")) ∷ [])) ≡ diag (on 1) (not_defined (codes "y")) ∷ []
unfolding not_defined
unknown_name = refl

-- print(y < 1 < "a"): a pair that breaks its rule stands at the chain, in front of the name at the same place
pair_and_name : diagnostics (suite_of (printing 1 (e.at (e.Compare (name 1 (codes "y")) (e.comparison_then op.Lt (e.at (e.Int (pos 1)) (on 2)) (e.comparison_then op.Lt (e.at (e.Str (codes "a")) (on 2)) e.no_comparisons))) (on 1)) ∷ []))
    ≡ diag (on 1) (unsupported_operands [] (codes "<") sort.Int sort.Str) ∷ diag (on 1) (not_defined (codes "y")) ∷ []
unfolding not_defined
pair_and_name = refl

-- global y, where y is no variable
no_variable : diagnostics (suite_of (s.at (s.Global (codes "y" ∷ [])) (on 1) ∷ [])) ≡ diag (on 1) (not_defined (codes "y")) ∷ []
unfolding not_defined
no_variable = refl

-- ---- definitions where they stand

-- def f() -> None: pass, under decorators
abbrev under : ℕ → List ℕ → List (List ℕ × Option ExprTree) → List ExprTree → StmtTree
under n f params marks = s.at (s.Def f params (Some (e.at e.Nothing (on n))) (suite_of (s.at s.Pass (on n) ∷ [])) marks) (on n)

abbrev negative : ℕ → ExprTree
negative n = e.at (e.Neg (name n (codes "x"))) (on n)

abbrev one : ℕ → StmtTree
one n = s.at (s.Assign (name n (codes "x")) (e.at (e.Int (pos 1)) (on n))) (on n)

-- a decorator that is a function
decorated : diagnostics (suite_of (under 1 (codes "g") [] [] ∷ under 3 (codes "f") [] (name 2 (codes "g") ∷ []) ∷ [])) ≡ diag (on 3) (outside_profile (codes "f")) ∷ []
decorated = refl

-- one that is not known silences its definition
unknown_decorator : diagnostics (suite_of (under 2 (codes "f") [] (name 1 (codes "y") ∷ []) ∷ [])) ≡ diag (on 1) (not_defined (codes "y")) ∷ []
unfolding not_defined
unknown_decorator = refl

-- x = 1, and -x as a decorator
behind_assignment : diagnostics (suite_of (one 1 ∷ under 3 (codes "f") [] (negative 2 ∷ []) ∷ [])) ≡ diag (on 3) (outside_profile (codes "f")) ∷ []
behind_assignment = refl

-- the other way round
before_assignment : diagnostics (suite_of (under 2 (codes "f") [] (negative 1 ∷ []) ∷ one 3 ∷ [])) ≡ diag (on 1) (no_type_yet (codes "x")) ∷ []
before_assignment = refl

-- f() over def f(x), which hang on one another
circular : diagnostics (suite_of (under 2 (codes "f") ((codes "x", None) ∷ []) (e.at (e.Call (name 1 (codes "f")) e.no_arguments) (on 1) ∷ []) ∷ [])) ≡ diag (on 2) (outside_profile (codes "f")) ∷ []
circular = refl

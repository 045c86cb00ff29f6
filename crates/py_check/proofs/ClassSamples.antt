-- Small modules with classes, and what is wrong with the headers of these.
use Rattle.std.proofs.Common.{◌≡◌, refl, ℕ, List, [], ◌∷◌, codes, pos}
use Rattle.py_syntax.specs.declared.token.Span.{Span}
use Rattle.py_syntax.specs.Expressions as e
use Rattle.py_syntax.specs.Expressions.{ExprTree}
use Rattle.py_syntax.specs.Statements as s
use Rattle.py_syntax.specs.Statements.{StmtTree, suite_of}
use Rattle.py_check_messages.specs.Seen.{diag}
use Rattle.py_check_messages.specs.Messages.{not_defined, outside_profile, no_type_yet, invalid_base, already_defined}
use Rattle.py_check.specs.Module.{diagnostics}

abbrev on : ℕ → Span
on n = record { line = n; col = 1 }

abbrev name : ℕ → List ℕ → ExprTree
name n x = e.at (e.Name x) (on n)

abbrev negative : ℕ → List ℕ → ExprTree
negative n x = e.at (e.Neg (name n x)) (on n)

abbrev one : ℕ → List ℕ → StmtTree
one n x = s.at (s.Assign (name n x) (e.at (e.Int (pos 1)) (on n))) (on n)

-- class x(bases): pass, under decorators
abbrev class : ℕ → List ℕ → List ExprTree → List ExprTree → StmtTree
class n x bases marks = s.at (s.ClassDef x bases (suite_of (s.at s.Pass (on n) ∷ [])) marks) (on n)

abbrev A : List ℕ
A = codes "A"

abbrev B : List ℕ
B = codes "B"

right : diagnostics (suite_of (class 1 A [] [] ∷ class 2 B (name 2 A ∷ []) [] ∷ [])) ≡ []
right = refl

twice_one_name : diagnostics (suite_of (class 1 A [] [] ∷ class 2 A (name 2 A ∷ []) [] ∷ [])) ≡ diag (on 2) (already_defined A) ∷ []
twice_one_name = refl

twice_one_base : diagnostics (suite_of (class 1 A [] [] ∷ class 2 B (name 2 A ∷ name 2 A ∷ []) [] ∷ [])) ≡ diag (on 2) invalid_base ∷ []
twice_one_base = refl

-- a class is silent under an earlier one that is refused
under_a_refused_one : diagnostics (suite_of (class 1 A (name 1 A ∷ []) [] ∷ class 2 B (name 2 A ∷ name 2 A ∷ []) [] ∷ [])) ≡ diag (on 1) invalid_base ∷ []
under_a_refused_one = refl

-- a base further down is no base, whatever comes of it
base_further_down : diagnostics (suite_of (class 1 A (name 1 B ∷ []) [] ∷ class 2 B (name 2 B ∷ []) [] ∷ [])) ≡ diag (on 1) invalid_base ∷ diag (on 2) invalid_base ∷ []
base_further_down = refl

-- a base that is not known silences its class
unknown_base : diagnostics (suite_of (class 1 A (name 1 B ∷ name 1 A ∷ []) [] ∷ [])) ≡ diag (on 1) (not_defined B) ∷ []
unfolding not_defined
unknown_base = refl

-- a variable is no base, and it is not read
variable_as_base : diagnostics (suite_of (class 1 A (name 1 B ∷ []) [] ∷ one 2 B ∷ [])) ≡ diag (on 1) invalid_base ∷ []
variable_as_base = refl

-- any other expression is typed
negative_as_base : diagnostics (suite_of (one 1 B ∷ class 2 A (negative 2 B ∷ []) [] ∷ [])) ≡ diag (on 2) invalid_base ∷ []
negative_as_base = refl

negative_before_assignment : diagnostics (suite_of (class 1 A (negative 1 B ∷ []) [] ∷ one 2 B ∷ [])) ≡ diag (on 1) (no_type_yet B) ∷ []
negative_before_assignment = refl

-- a class as a decorator: one that has a type is known, and one that is refused silences what stands under it
typed_class_as_mark : diagnostics (suite_of (class 1 A [] [] ∷ class 3 B [] (name 2 A ∷ []) ∷ [])) ≡ diag (on 3) (outside_profile B) ∷ []
typed_class_as_mark = refl

refused_class_as_mark : diagnostics (suite_of (class 1 A (name 1 A ∷ []) [] ∷ class 3 B [] (name 2 A ∷ []) ∷ [])) ≡ diag (on 1) invalid_base ∷ []
refused_class_as_mark = refl

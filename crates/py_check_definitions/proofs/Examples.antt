-- Names with what they mean.
use Rattle.std.proofs.Common.{◌≡◌, ℕ, List, [], ◌∷◌, Option, None, refl, codes}
use Rattle.py_syntax.specs.declared.token.Span.{Span}
use Rattle.py_syntax.specs.Expressions as e
use Rattle.py_syntax.specs.Expressions.{ExprTree}
use Rattle.py_syntax.specs.Statements.{StmtNode, StmtTree, FuncTree, Suite, at, Assign, From, Pass, Def, ClassDef, suite_of}
use Rattle.py_check_context.specs.declared.scope.Meaning.TheVariants as meaning
use Rattle.py_check_context.specs.declared.scope.Imported.TheVariants as imported
use Rattle.py_check_definitions.specs.Names.{module_meaning, function_meaning}

abbrev place : Span
place = record { line = 1; col = 1 }

abbrev on : StmtNode → StmtTree
on node = at node place

abbrev set : List ℕ → StmtTree
set x = on (Assign (e.at (e.Name x) place) (e.at e.True place))

abbrev def : List ℕ → List (List ℕ × Option ExprTree) → Suite → StmtTree
def name params body = on (Def name params None body [])

abbrev method_body : Suite
method_body = suite_of (on Pass ∷ [])

-- a = 1; class C: def m(): pass; def f(p): b = 1; b = 1; class D(a): pass; from typing import List
abbrev sample : Suite
sample = suite_of (
    set (codes "a")
    ∷ on (ClassDef (codes "C") [] (suite_of (def (codes "m") [] method_body ∷ [])) [])
    ∷ def (codes "f") ((codes "p", None) ∷ []) (suite_of (set (codes "b") ∷ set (codes "c") ∷ []))
    ∷ set (codes "b")
    ∷ on (ClassDef (codes "D") (e.at (e.Name (codes "a")) place ∷ []) method_body [])
    ∷ on (From (codes "typing") ((codes "List", None) ∷ []))
    ∷ on (From (codes "typing") ((codes "Dict", None) ∷ (codes "Any", None) ∷ []))
    ∷ []
    )

abbrev inside : FuncTree
inside = record { name = codes "f"; params = (codes "p", None) ∷ []; ret = None; body = suite_of (set (codes "b") ∷ set (codes "c") ∷ []); marks = [] }

first_variable : module_meaning sample (codes "a") ≡ meaning.Global 0
first_variable = refl

second_variable : module_meaning sample (codes "b") ≡ meaning.Global 1
second_variable = refl

-- behind the method of the class
function : module_meaning sample (codes "f") ≡ meaning.Function 1
function = refl

class : module_meaning sample (codes "C") ≡ meaning.Class 0
class = refl

-- a base that is no class
untyped : module_meaning sample (codes "D") ≡ meaning.UntypedClass
untyped = refl

form : module_meaning sample (codes "List") ≡ meaning.Import imported.List
form = refl

-- refused with the name beside it
refused : module_meaning sample (codes "Dict") ≡ meaning.Untyped
refused = refl

parameter : function_meaning sample inside (codes "p") ≡ meaning.Local 0
parameter = refl

local : function_meaning sample inside (codes "c") ≡ meaning.Local 2
local = refl

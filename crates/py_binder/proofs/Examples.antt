-- The definitions at small modules.
use Rattle.std.proofs.Common.{◌≡◌, ℕ, List, [], ◌∷◌, codes, map, None, refl, pos}
use Rattle.py_syntax.specs.declared.token.Span.{Span}
use Rattle.py_syntax.specs.Expressions as e
use Rattle.py_syntax.specs.Expressions.{ExprTree}
use Rattle.py_syntax.specs.Statements as s
use Rattle.py_syntax.specs.Statements.{StmtTree, StmtNode, Suite, suite_of}
use Rattle.py_binder.specs.declared.scope.Role.{Role}
use Rattle.py_binder.specs.declared.scope.Role.TheVariants.{Param, Local, GlobalVar, Function, Builtin, Unknown}
use Rattle.py_binder.specs.declared.scope.Scope.{Scope}
use Rattle.py_binder.specs.Scope.{module_scope, module_role, function_scope, functions}
use Rattle.py_binder.specs.Faults.{faults, not_defined, invalid_global}

abbrev place : ℕ → ℕ → Span
place line col = record { line = line; col = col }

abbrev name : List ℕ → ℕ → ℕ → ExprTree
name text line col = e.at (e.Name text) (place line col)

abbrev line : StmtNode → ℕ → StmtTree
line node n = s.at node (place n 3)

-- x = 1, and a function with this body and one parameter p
abbrev with_body : List StmtTree → Suite
with_body body =
    suite_of (s.at (s.Assign (name (codes "x") 1 1) (e.at (e.Int (pos 1)) (place 1 5))) (place 1 1)
    ∷ s.at (s.Def (codes "f") ((codes "p", None) ∷ []) None (suite_of body) []) (place 2 1)
    ∷ [])

abbrev assigned : List ℕ → ℕ → StmtTree
assigned text n = line (s.Assign (name text n 3) (name (codes "p") n 7)) n

abbrev scopes : Suite → List Scope
scopes m = module_scope m ∷ map (function_scope (module_role m)) (functions m)

abbrev scope : List (List ℕ × Role) → Scope
scope names = record { names = names }

abbrev top : Scope
top = scope ((codes "x", GlobalVar) ∷ (codes "f", Function) ∷ [])

-- what a function binds is local, also where the module has it
assigned_is_local : (scopes (with_body (assigned (codes "x") 3 ∷ [])) ≡ top ∷ scope ((codes "p", Param) ∷ (codes "x", Local) ∷ []) ∷ [])
    × (faults (with_body (assigned (codes "x") 3 ∷ [])) ≡ [])
assigned_is_local = (refl, refl)

-- a `global` behind the binding still counts, and is a fault
global_behind : (scopes (with_body (assigned (codes "x") 3 ∷ line (s.Global (codes "x" ∷ [])) 4 ∷ [])) ≡ top ∷ scope ((codes "p", Param) ∷ (codes "x", GlobalVar) ∷ []) ∷ [])
    × (faults (with_body (assigned (codes "x") 3 ∷ line (s.Global (codes "x" ∷ [])) 4 ∷ [])) ≡ invalid_global (codes "x") (place 4 3) ∷ [])
global_behind = (refl, refl)

-- a builtin that is bound stays one, and an unknown name has one fault each time that it is looked up
unknown_and_builtin : (scopes (with_body (assigned (codes "len") 3 ∷ line (s.Do (name (codes "y") 4 3)) 4 ∷ [])) ≡ top ∷ scope ((codes "p", Param) ∷ (codes "len", Builtin) ∷ (codes "y", Unknown) ∷ []) ∷ [])
    × (faults (with_body (assigned (codes "len") 3 ∷ line (s.Do (name (codes "y") 4 3)) 4 ∷ [])) ≡ not_defined (codes "y") (place 4 3) ∷ [])
unknown_and_builtin = (refl, refl)

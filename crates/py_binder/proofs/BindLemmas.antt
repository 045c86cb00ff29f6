-- The scopes and the faults of a function and of a module, from what was collected.
use Rattle.std.proofs.Common.{◌≡◌, ℕ, Result, Ok, Err, IfOk, OnOk, List, ◌++◌, map, Option, ap, sym, ◌∙◌}
use Rattle.value_core.specs.declared.memory.Memory.{Memory}
use Rattle.py_syntax.specs.declared.expression.Expr.{Expr}
use Rattle.py_syntax.specs.declared.statement.Stmt.{Stmt}
use Rattle.py_syntax.specs.declared.statement.Func.{Func, out-Func}
use Rattle.py_syntax.specs.Statements.{func_tree, body_tree, param_tree}
use Rattle.py_binder.specs.declared.sight.Home.TheVariants.{InModule, InFunction}
use Rattle.py_binder.specs.Sights.{Sight, suite_sights}
use Rattle.py_binder.specs.Scope.{Roles, contains, first_sights, inner_role, role_among, module_role, scope_of, module_scope, function_scope, functions, all_there, seen_there, bound_there, listed_there, held_there}
use Rattle.py_binder.specs.Faults.{body_faults, function_faults, faults_among, faults}
use Rattle.py_binder.proofs.DefinitionLemmas.{func_tree_at}
use Rattle.py_binder.proofs.TableLemmas.{same_refused, contains_first}

pub if_ok : {A : Type 0} (P Q : A → Type 0) (r : Result A Memory) → ((a : A) → P a → Q a) → IfOk r P → IfOk r Q
if_ok P Q (Ok a) f h = f a h
if_ok P Q (Err e) f h = tt

pub on_ok_always : {A : Type 0} {P : Type 0} (r : Result A Memory) → P → OnOk r P
on_ok_always (Ok a) h = h
on_ok_always (Err e) h = tt

abbrev pub first_names : List (List ℕ × Option Expr) → List (List ℕ)
first_names params = map (λ p. p.0) (map param_tree params)

abbrev pub in_body : List Stmt → List Sight
in_body body = suite_sights InFunction (body_tree body)

abbrev pub inner : Roles → List (List ℕ) → List Sight → Roles
inner outer p s = inner_role outer p (all_there listed_there s) (all_there bound_there s)

module _ (outer : Roles) (f : Func) (params : List (List ℕ × Option Expr)) (body : List Stmt) (s : List Sight) (p : List (List ℕ)) (r : Roles) (same_params : params ≡ (out-Func f).params) (same_body : body ≡ (out-Func f).body) (seen : s ≡ in_body body) (named : p ≡ first_names params) (is : (name : List ℕ) → r name ≡ inner outer p s name) where
  pub function_scoped : (names : List (List ℕ)) → names ≡ p ++ all_there seen_there s → scope_of r names ≡ function_scope outer (func_tree f)
  function_scoped names all =
      ap (λ q. scope_of q names) (λ i name. is name i)
      ∙ ap (scope_of (inner outer p s)) all
      ∙ ap (λ x. scope_of (inner outer p x) (p ++ all_there seen_there x)) (seen ∙ ap in_body same_body)
      ∙ ap (λ x. scope_of (inner outer x (in_body (out-Func f).body)) (x ++ all_there seen_there (in_body (out-Func f).body))) (named ∙ ap first_names same_params)
      ∙ ap (function_scope outer) (sym (func_tree_at f))

  pub function_faulted : (refused : List (List ℕ)) → refused ≡ first_sights p → body_faults outer r refused s ≡ function_faults outer (func_tree f)
  function_faulted refused all =
      same_refused outer r refused p (λ q. ap (λ l. contains l q) all ∙ contains_first p q) s
      ∙ ap (λ q. body_faults outer q p s) (λ i name. is name i)
      ∙ ap (λ x. body_faults outer (inner outer p x) p x) (seen ∙ ap in_body same_body)
      ∙ ap (λ x. body_faults outer (inner outer x (in_body (out-Func f).body)) x (in_body (out-Func f).body)) (named ∙ ap first_names same_params)
      ∙ ap (function_faults outer) (sym (func_tree_at f))

module _ (body body2 : List Stmt) (s : List Sight) (r t : Roles) (same_body : body2 ≡ body) (seen : s ≡ suite_sights InModule (body_tree body2)) (inside : (name : List ℕ) → r name ≡ t name) (told : (name : List ℕ) → t name ≡ role_among s name) where
  abbrev of_module : s ≡ suite_sights InModule (body_tree body)
  of_module = seen ∙ ap (λ l. suite_sights InModule (body_tree l)) same_body

  is_role : t ≡ module_role (body_tree body)
  is_role = (λ i name. told name i) ∙ ap role_among of_module

  pub module_scoped : (names : List (List ℕ)) → names ≡ all_there seen_there s → scope_of r names ≡ module_scope (body_tree body)
  module_scoped names all =
      ap (λ q. scope_of q names) (λ i name. inside name i)
      ∙ ap (λ q. scope_of q names) is_role
      ∙ ap (scope_of (module_role (body_tree body))) (all ∙ ap (all_there seen_there) of_module)

  pub functions_scoped : map (function_scope t) (all_there held_there s) ≡ map (function_scope (module_role (body_tree body))) (functions (body_tree body))
  functions_scoped =
      ap (λ q. map (function_scope q) (all_there held_there s)) is_role
      ∙ ap (λ x. map (function_scope (module_role (body_tree body))) (all_there held_there x)) of_module

  pub module_faulted : faults_among t r s ≡ faults (body_tree body)
  module_faulted =
      ap (λ q. faults_among t q s) (λ i name. inside name i)
      ∙ ap (λ q. faults_among q q s) is_role
      ∙ ap (faults_among (module_role (body_tree body)) (module_role (body_tree body))) of_module

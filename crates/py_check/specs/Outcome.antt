-- What typing a module answers: its typed tree where nothing is wrong with it, else all that is.
use Rattle.std.specs.Prelude.{◌≡◌, List, [], map, Result, Ok, Err}
use Rattle.py_syntax.specs.Statements.{Suite}
use Rattle.py_binder.specs.declared.scope.Scopes.{Scopes}
use Rattle.py_binder.specs.Scope.{module_scope, module_role, function_scope, functions}
use Rattle.py_binder.specs.Faults.{faults}
use Rattle.py_typed.specs.declared.checked.Checked.{Checked}
use Rattle.py_syntax_diagnostics.specs.declared.diagnostic.Diag.{Diag}
use Rattle.py_typed.specs.Statements.{TypedModule, typed_module}
use Rattle.py_check.specs.declared.checking.CheckError.{CheckError}
use Rattle.py_check.specs.declared.checking.CheckError.TheVariants.{Diags, Memory}
use Rattle.py_check.specs.Module.{diagnostics, typed}

-- these are the scopes of a module, and its faults of names
pub record IsBound (m : Suite) (s : Scopes) : Type 0 where
  pub top : s.top ≡ module_scope m
  pub funcs : s.funcs ≡ map (function_scope (module_role m)) (functions m)
  pub faults : s.faults ≡ faults m

abbrev pub Outcome : Suite → Result Checked CheckError → Type 0
Outcome m (Ok c) = (diagnostics m ≡ []) × (typed_module c ≡ typed m)
Outcome m (Err (Diags ds)) = (ds ≡ diagnostics m) × ¬ (diagnostics m ≡ [])
Outcome m (Err Memory) = Unit {0}

-- the same by a list of what is wrong and a tree
abbrev pub Decided : List Diag → TypedModule → Result Checked CheckError → Type 0
Decided said tree (Ok c) = (said ≡ []) × (typed_module c ≡ tree)
Decided said tree (Err (Diags ds)) = (ds ≡ said) × ¬ (said ≡ [])
Decided said tree (Err Memory) = Unit {0}

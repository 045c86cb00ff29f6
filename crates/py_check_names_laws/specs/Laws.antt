-- The names that are collected of a module whose tree passes tests pass them too.
use Rattle.std.specs.Prelude.{◌≡◌, true}
use Rattle.std.specs.List.{list_all, AllByRecursion}
use Rattle.py_syntax.specs.Statements.{Suite, FuncTree}
use Rattle.py_binder.specs.Scope.{Roles, module_role, module_scope, function_scope, functions}
use Rattle.py_check_names.specs.Meanings.{variables, own_names}
use Rattle.py_parser_laws.specs.Trees.{Tests, SuitePasses, FunctionPasses}

-- the variables of a module
abbrev pub VariablesPassAsTrees : Type 0
VariablesPassAsTrees = (tests : Tests) (m : Suite) → SuitePasses tests m → list_all tests.name (variables (module_scope m)) ≡ true

-- a function, and the names of its own
abbrev pub OwnNamesPass : Tests → Roles → FuncTree → Type 0
OwnNamesPass tests roles f = FunctionPasses tests f × (list_all tests.name (own_names (function_scope roles f)) ≡ true)

-- the functions of a module, methods too
abbrev pub FunctionsPassAsTrees : Type 0
FunctionsPassAsTrees = (tests : Tests) (m : Suite) → SuitePasses tests m → AllByRecursion (OwnNamesPass tests (module_role m)) (functions m)

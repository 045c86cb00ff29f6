-- What holds of the typing of every module.
use Rattle.std.specs.Prelude.{◌≡◌, ℕ, suc, Bool, true, false, ◌&&◌, List, [], ◌∷◌, ◌++◌, map, Option, Some, None, is_some}
use Rattle.std.specs.List.{list_all, flat_map}
use Rattle.py_syntax.specs.Statements.{Suite}
use Rattle.py_binder.specs.Scope.{module_scope, functions}
use Rattle.py_typed.specs.Classes.{ClassEntry}
use Rattle.py_typed.specs.Statements.{TypedFunc, TypedModule}
use Rattle.py_typed.specs.WellTyped.{suite_typed, all_differ}
use Rattle.py_typed.specs.WellTypedModule.{names_of, is_well_typed}
use Rattle.py_typed.specs.WellTypedExpr.{init_class}
use Rattle.class_layout.specs.Laws.{HaveLayout}
use Rattle.py_check_context.specs.Context.{VarSort, has, var_at}
use Rattle.py_check_names.specs.Meanings.{variables, own_names}
use Rattle.py_check_signatures.specs.Headers.{signature_of}
use Rattle.py_check_definitions.specs.Definitions.{Headed, headed_functions}
use Rattle.py_check.specs.Module.{ModuleContext, context_in, function_context, own_statements, body, body_after, global_sorts, module_context, diagnostics, typed}
use Rattle.py_check_laws.specs.WellTyped.{is_suite_written, is_filled}

-- the signature of each function and method, what it returns and its body have a typed form
abbrev pub are_typed : ModuleContext → List VarSort → List Headed → Bool
are_typed e sorts [] = true
are_typed e sorts (f ∷ more) =
    is_some (signature_of f.header) && is_some f.header.ret && is_some (body (function_context e f) e.variables sorts f).got
    && are_typed e sorts more

-- and so have the module's own statements
abbrev pub is_typed_whole : Suite → Bool
is_typed_whole m =
    is_some (own_statements (context_in (module_context m) (module_scope m)) (module_context m).variables m).got
    && are_typed (module_context m) (global_sorts (module_context m) (module_scope m) (headed_functions m) m) (headed_functions m)

-- where nothing is said of a module, no part of its typed tree stands for what has no typed form
abbrev pub QuietModuleIsTyped : Type 0
QuietModuleIsTyped = (m : Suite) → diagnostics m ≡ [] → is_typed_whole m ≡ true

-- ---- variables

abbrev pub has_type : VarSort → Bool
has_type (has t) = true
has_type v = false

-- each of the variables from this number on
abbrev pub all_have_types : List VarSort → ℕ → List (List ℕ) → Bool
all_have_types types i [] = true
all_have_types types i (name ∷ more) = has_type (var_at types i) && all_have_types types (suc i) more

-- the variables of functions, behind their bodies
abbrev pub are_own_typed : ModuleContext → List VarSort → List Headed → Bool
are_own_typed e sorts [] = true
are_own_typed e sorts (f ∷ more) =
    all_have_types (body_after (function_context e f) e.variables sorts f).types.locals 0 (own_names f.inside) && are_own_typed e sorts more

-- and those of the module, behind its own statements
abbrev pub are_variables_typed : Suite → Bool
are_variables_typed m =
    all_have_types (global_sorts (module_context m) (module_scope m) (headed_functions m) m) 0 (module_context m).variables
    && are_own_typed (module_context m) (global_sorts (module_context m) (module_scope m) (headed_functions m) m) (headed_functions m)

-- where nothing is said of a module, each of its variables has a type, and each variable of its functions has one
abbrev pub QuietModuleTypesVariables : Type 0
QuietModuleTypesVariables = (m : Suite) → diagnostics m ≡ [] → are_variables_typed m ≡ true

-- ---- what is typed is well typed

-- statements that a text can write, in the module and in its functions
abbrev pub is_module_written : Suite → Bool
is_module_written m = is_suite_written m && list_all (λ f. is_suite_written f.body) (functions m)

abbrev pub body_stands : TypedModule → TypedFunc → Bool
body_stands m f = suite_typed m f.locals (init_class f) (Some f.ret) [] false false f.body

abbrev pub statements_stand : TypedModule → Bool
statements_stand m = suite_typed m [] None None [] false false m.top && list_all (body_stands m) m.funcs

-- where nothing is said of a module, its own statements and the bodies of its functions are well typed in its typed tree
abbrev pub QuietModuleStands : Type 0
QuietModuleStands = (m : Suite) → diagnostics m ≡ [] → is_module_written m ≡ true → statements_stand (typed m) ≡ true

-- ---- names

-- the name of a function that is no method
abbrev pub name_if : Option ℕ → List ℕ → List (List ℕ)
name_if None name = name ∷ []
name_if (Some c) name = []

abbrev pub function_name : TypedFunc → List (List ℕ)
function_name f = name_if f.class f.name

-- the names of a module: those of its variables, of its functions but for methods, and of its classes
abbrev pub all_names : Suite → List (List ℕ)
all_names m = variables (module_scope m) ++ (flat_map function_name (typed m).funcs ++ map (λ c. c.name) (typed m).classes.classes)

-- where nothing is said of a module, its names differ
abbrev pub QuietModuleNamesDiffer : Type 0
QuietModuleNamesDiffer = (m : Suite) → diagnostics m ≡ [] → all_differ (all_names m) ≡ true

-- ---- the whole

-- a class whose name, and those of whose members, a text can write
abbrev pub is_entry_named : (List ℕ → Bool) → ClassEntry → Bool
is_entry_named is_identifier c = is_identifier c.name && list_all is_identifier (names_of c.attributes ++ names_of c.methods)

-- names that a text can write, and bodies that are not empty
abbrev pub are_names_written : (List ℕ → Bool) → Suite → Bool
are_names_written is_identifier m =
    list_all is_identifier (variables (module_scope m))
    && list_all (λ f. is_identifier f.tree.name && list_all is_identifier (own_names f.inside) && is_filled f.tree.body) (headed_functions m)
    && list_all (is_entry_named is_identifier) (module_context m).classes

-- where nothing is said of a module that a text can write, its typed tree is a well typed module
abbrev pub QuietModuleIsWellTyped : Type 0
QuietModuleIsWellTyped = (is_identifier : List ℕ → Bool) (m : Suite) → diagnostics m ≡ [] → is_module_written m ≡ true → are_names_written is_identifier m ≡ true → is_well_typed is_identifier (typed m) ≡ true

-- and its classes have a layout: each has an order, and along it all definitions of a member agree
abbrev pub QuietModuleHasLayout : Type 0
QuietModuleHasLayout = (is_identifier : List ℕ → Bool) (m : Suite) → diagnostics m ≡ [] → is_module_written m ≡ true → are_names_written is_identifier m ≡ true → HaveLayout (typed m).classes

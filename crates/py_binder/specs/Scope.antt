-- What a name is (Python Language Reference, "Resolution of names").
--
-- Some names are builtins, and nothing binds them. In the module a name is what the first def, class or import of it in the
-- text says; else a variable, where a statement of the module's own binds it. In a function a name is a parameter; or a
-- variable of the module that a `global` statement of the function lists, wherever that stands; or local, where a statement
-- of the function binds it; or else what it is in the module.
use Rattle.std.specs.Prelude.{ℕ, Bool, true, false, if◌then◌else◌, not, ◌&&◌, ◌||◌, List, [], ◌∷◌, ◌++◌, map, filter, codes, Option, Some, None, is_some}
use Rattle.std.specs.List.{list_any, flat_map}
use Rattle.std.specs.Map.{lookup}
use Rattle.std.specs.Str.{bytes_eq}
use Rattle.value_core.specs.Exceptions.{class_named}
use Rattle.py_syntax.specs.Statements.{Suite, FuncTree}
use Rattle.py_binder.specs.declared.scope.Role.{Role}
use Rattle.py_binder.specs.declared.scope.Role.TheVariants.{Param, Local, GlobalVar, Builtin, Unknown}
use Rattle.py_binder.specs.declared.scope.Scope.{Scope}
use Rattle.py_binder.specs.Sights.{Use, Reads, Binds, Defines, Declares, Holds, Sight, module_sights, body_sights}

abbrev pub contains : List (List ℕ) → List ℕ → Bool
contains names name = list_any (bytes_eq name) names

-- the builtin names: these, and those of the exception classes
abbrev pub plain_builtins : List (List ℕ)
plain_builtins =
    codes "print" ∷ codes "input" ∷ codes "len" ∷ codes "range" ∷ codes "str" ∷ codes "int" ∷ codes "bool" ∷ codes "list" ∷ codes "dict" ∷ codes "tuple"
    ∷ codes "super" ∷ codes "__name__" ∷ []

abbrev pub is_builtin : List ℕ → Bool
is_builtin name = contains plain_builtins name || is_some (class_named name)

-- ---- what sights say of names

-- the name that is bound there, the names that are listed as global, the name that is seen, and the function that is held
abbrev pub bound_there : Use → List (List ℕ)
bound_there (Binds name) = name ∷ []
bound_there _ = []

abbrev pub listed_there : Use → List (List ℕ)
listed_there (Declares names) = names
listed_there _ = []

abbrev pub seen_there : Use → List (List ℕ)
seen_there (Reads name) = name ∷ []
seen_there (Binds name) = name ∷ []
seen_there (Defines role name) = name ∷ []
seen_there (Declares names) = []
seen_there (Holds f) = []

abbrev pub held_there : Use → List FuncTree
held_there (Holds f) = f ∷ []
held_there _ = []

-- what a def, a class or an import says that a name is
abbrev pub said_there : Use → List (List ℕ × Role)
said_there (Defines role name) = (name, role) ∷ []
said_there _ = []

abbrev pub all_there : {A : Type 0} → (Use → List A) → List Sight → List A
all_there there sights = flat_map (λ x. there x.does) sights

-- ---- roles

-- what each name is
abbrev pub Roles : Type 0
Roles = List ℕ → Role

-- what is said of a name, or else whether it is a variable
abbrev pub said_or_variable : Option Role → Bool → Role
said_or_variable (Some role) bound = role
said_or_variable None true = GlobalVar
said_or_variable None false = Unknown

-- what these sights of a module make of each name
abbrev pub role_among : List Sight → Roles
role_among sights name =
    if is_builtin name then Builtin
    else said_or_variable (lookup (bytes_eq name) (all_there said_there sights)) (contains (all_there bound_there sights) name)

abbrev pub module_role : Suite → Roles
module_role m = role_among (module_sights m)

abbrev pub is_variable : Role → Bool
is_variable GlobalVar = true
is_variable _ = false

-- in a function with these parameters, these names listed as global and these bound, from what names are in the module
abbrev pub inner_role : Roles → List (List ℕ) → List (List ℕ) → List (List ℕ) → Roles
inner_role outer params listed bound name =
    if is_builtin name then Builtin
    else (if contains params name then Param
    else (if contains listed name && is_variable (outer name) then GlobalVar
    else (if contains bound name then Local
    else outer name)))

abbrev pub param_names : FuncTree → List (List ℕ)
param_names f = map (λ p. p.0) f.params

abbrev pub function_role : Roles → FuncTree → Roles
function_role outer f =
    inner_role outer (param_names f) (all_there listed_there (body_sights f)) (all_there bound_there (body_sights f))

-- ---- scopes

-- each name once, in the order of first sight
abbrev pub first_sights : List (List ℕ) → List (List ℕ)
first_sights [] = []
first_sights (name ∷ more) = name ∷ filter (λ other. not (bytes_eq other name)) (first_sights more)

-- the names that are seen, each with what it is
abbrev pub scope_of : Roles → List (List ℕ) → Scope
scope_of role seen = record { names = map (λ name. (name, role name)) (first_sights seen) }

abbrev pub module_scope : Suite → Scope
module_scope m = scope_of (module_role m) (all_there seen_there (module_sights m))

-- a function sees its parameters first
abbrev pub function_scope : Roles → FuncTree → Scope
function_scope outer f = scope_of (function_role outer f) (param_names f ++ all_there seen_there (body_sights f))

-- the functions of a module in the order of the text, methods at their class's place
abbrev pub functions : Suite → List FuncTree
functions m = all_there held_there (module_sights m)

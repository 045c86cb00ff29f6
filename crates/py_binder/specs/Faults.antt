-- What is wrong with names alone, whatever their types, in the order of the text.
--
-- A name that is looked up has to be known. The names that a `global` statement lists have to be variables of the module, and
-- in a function none of them may be a parameter, or be seen in the body before the statement: the first that breaks the
-- first rule, or else the first that breaks the second, is the statement's one fault.
use Rattle.std.specs.Prelude.{ℕ, Bool, true, false, if◌then◌else◌, not, List, [], ◌∷◌, ◌++◌, find, codes, Option, Some, None}
use Rattle.std.specs.List.{flat_map}
use Rattle.py_syntax.specs.declared.token.Span.{Span}
use Rattle.py_syntax.specs.Statements.{Suite, FuncTree}
use Rattle.py_syntax_diagnostics.specs.declared.diagnostic.Diag.{Diag}
use Rattle.py_binder.specs.declared.scope.Role.{Role}
use Rattle.py_binder.specs.declared.scope.Role.TheVariants.{Unknown}
use Rattle.py_binder.specs.Sights.{Use, Reads, Declares, Holds, Sight, module_sights, body_sights}
use Rattle.py_binder.specs.Scope.{contains, seen_there, Roles, module_role, function_role, is_variable, param_names}

-- a fault: its place, its text, and the code of its rule
abbrev pub not_defined : List ℕ → Span → Diag
not_defined name span = record { span = span; text = codes "Name \"" ++ name ++ codes "\" is not defined"; code = codes "name-defined" }

abbrev pub invalid_global : List ℕ → Span → Diag
invalid_global name span = record { span = span; text = codes "Invalid global declaration of \"" ++ name ++ codes "\""; code = codes "misc" }

abbrev pub is_unknown : Role → Bool
is_unknown Unknown = true
is_unknown _ = false

-- of a name that is looked up, by its role
abbrev pub read_fault : Role → List ℕ → Span → List Diag
read_fault role name span = if is_unknown role then not_defined name span ∷ [] else []

-- of a `global` statement: the first name that is no variable of the module, or else the first that is refused
abbrev pub global_fault : Option (List ℕ) → Option (List ℕ) → Span → List Diag
global_fault (Some name) refused span = not_defined name span ∷ []
global_fault None (Some name) span = invalid_global name span ∷ []
global_fault None None span = []

abbrev pub no_variable : Roles → List (List ℕ) → Option (List ℕ)
no_variable outer names = find (λ name. not (is_variable (outer name))) names

-- at one place, by what names are in the module and there, and by the names that `global` may not list there
abbrev pub place_faults : Roles → Roles → (List ℕ → Bool) → Use → Span → List Diag
place_faults outer role refused (Reads name) span = read_fault (role name) name span
place_faults outer role refused (Declares names) span = global_fault (no_variable outer names) (find refused names) span
place_faults outer role refused _ span = []

-- ---- functions

-- what is wrong in a body, where `global` may not list these names: the parameters, and each name behind where it is seen
abbrev pub body_faults : Roles → Roles → List (List ℕ) → List Sight → List Diag
body_faults outer role refused [] = []
body_faults outer role refused (x ∷ more) =
    place_faults outer role (contains refused) x.does x.span ++ body_faults outer role (refused ++ seen_there x.does) more

abbrev pub function_faults : Roles → FuncTree → List Diag
function_faults outer f = body_faults outer (function_role outer f) (param_names f) (body_sights f)

-- ---- the module

-- a function's faults stand where it stands
abbrev pub held_faults : Roles → Use → List Diag
held_faults outer (Holds f) = function_faults outer f
held_faults outer _ = []

-- at these sights of a module, in which each name may be listed
abbrev pub faults_among : Roles → Roles → List Sight → List Diag
faults_among outer role sights =
    flat_map (λ x. place_faults outer role (λ name. false) x.does x.span ++ held_faults outer x.does) sights

abbrev pub faults : Suite → List Diag
faults m = faults_among (module_role m) (module_role m) (module_sights m)

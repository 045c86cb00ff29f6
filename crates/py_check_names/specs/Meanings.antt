-- What a name means in a module or in a function, by its role there.
--
-- A variable is known by its number. A module's are numbered as they first come up in its own statements; a function's are its
-- parameters, and then the others as they first come up in its body.
use Rattle.std.specs.Prelude.{ℕ, Bool, true, false, List, map, filter, Option, unwrap_or}
use Rattle.std.specs.List.{position_or_len}
use Rattle.std.specs.Map.{lookup}
use Rattle.std.specs.Str.{bytes_eq}
use Rattle.py_binder.specs.declared.scope.Role.{Role}
use Rattle.py_binder.specs.declared.scope.Role.TheVariants as role
use Rattle.py_binder.specs.declared.scope.Scope.{Scope}
use Rattle.py_binder.specs.Scope.{first_sights, is_variable}
use Rattle.py_check_context.specs.declared.scope.Meaning.{Meaning}
use Rattle.py_check_context.specs.declared.scope.Meaning.TheVariants.{Local, Global, Untyped, Unknown}
use Rattle.py_check_names.specs.Builtins.{builtin_meaning}

-- a name of a function's own
abbrev pub is_own : Role → Bool
is_own role.Param = true
is_own role.Local = true
is_own _ = false

-- the names of a scope whose role is of a kind, each once
abbrev pub names_of : (Role → Bool) → List (List ℕ × Role) → List (List ℕ)
names_of kind names = first_sights (map (λ p. p.0) (filter (λ p. kind p.1) names))

-- the variables of a module, and those of a function, by their numbers
abbrev pub variables : Scope → List (List ℕ)
variables top = names_of is_variable top.names

abbrev pub own_names : Scope → List (List ℕ)
own_names inside = names_of is_own inside.names

abbrev pub number : List (List ℕ) → List ℕ → ℕ
number names name = position_or_len (bytes_eq name) names

-- what a module's definitions say, its variables, and those of a function
module _ (said : List ℕ → Option Meaning) (outer inner : List (List ℕ)) where
  abbrev pub by_role : List ℕ → Role → Meaning
  by_role name role.Param = Local (number inner name)
  by_role name role.Local = Local (number inner name)
  by_role name role.GlobalVar = Global (number outer name)
  by_role name role.Function = unwrap_or (said name) Untyped
  by_role name role.Class = unwrap_or (said name) Untyped
  by_role name role.Import = unwrap_or (said name) Untyped
  by_role name role.Builtin = unwrap_or (builtin_meaning name) Unknown
  by_role name role.Unknown = Unknown

-- of a name that is seen in a scope; any other is unknown there
abbrev pub meaning_in : (List ℕ → Option Meaning) → List (List ℕ) → Scope → List ℕ → Meaning
meaning_in said outer inside name =
    unwrap_or (lookup (bytes_eq name) (map (λ p. (p.0, by_role said outer (own_names inside) p.0 p.1)) inside.names)) Unknown

-- What a name means in a module or in a function (Python Language Reference, "Resolution of names").
--
-- Defs, classes and imports give names a meaning; where several give one to the same name, the earliest counts. A class is known by its
-- number, in the order of the text, where its header is right; else it is a class without a type.
use Rattle.std.specs.Prelude.{ℕ, List, Option}
use Rattle.std.specs.Option.{option_map}
use Rattle.py_syntax.specs.Statements.{Suite, FuncTree}
use Rattle.py_binder.specs.Scope.{module_scope, module_role, function_scope}
use Rattle.py_check_context.specs.declared.scope.Meaning.{Meaning}
use Rattle.py_check_names.specs.Outline.{suite_definitions}
use Rattle.py_check_names.specs.Meanings.{variables, meaning_in}
use Rattle.py_check_classes.specs.Names.{said_of_names}
use Rattle.py_check_classes.specs.Headers.{module_headers, typed_meaning}

-- what definitions and imports say of a name
abbrev pub known_in : Suite → List ℕ → Option Meaning
known_in m name = option_map (typed_meaning (module_headers m)) (said_of_names (suite_definitions m) name)

-- WHAT A NAME MEANS in a module, and in a function of it
abbrev pub module_meaning : Suite → List ℕ → Meaning
module_meaning m = meaning_in (known_in m) (variables (module_scope m)) (module_scope m)

abbrev pub function_meaning : Suite → FuncTree → List ℕ → Meaning
function_meaning m f = meaning_in (known_in m) (variables (module_scope m)) (function_scope (module_role m) f)

-- What builtin names and the names of imports mean (Python Library Reference, "Built-in Functions", "Built-in Exceptions" and
-- "typing").
use Rattle.std.specs.Prelude.{ℕ, List, [], ◌∷◌, codes, if◌then◌else◌, Option, Some, None}
use Rattle.std.specs.List.{zip}
use Rattle.std.specs.Map.{lookup}
use Rattle.std.specs.Option.{option_or}
use Rattle.std.specs.Str.{bytes_eq}
use Rattle.value_core.specs.declared.exception.ExcClass.{ExcClass}
use Rattle.value_core.specs.Exceptions.{class_named}
use Rattle.py_binder.specs.Scope.{plain_builtins}
use Rattle.py_check_context.specs.declared.scope.Meaning.{Meaning}
use Rattle.py_check_context.specs.declared.scope.Meaning.TheVariants as meaning
use Rattle.py_check_context.specs.declared.scope.Imported.TheVariants as imported
use Rattle.py_check_context.specs.declared.scope.Builtin.TheVariants as builtin
use denote.Ref.{Bor}

-- a pair of the program
abbrev pub with_text : Bor (List ℕ) × Meaning → List ℕ × Meaning
with_text p = (p.0.now, p.1)

-- what the builtin names mean that are no exception classes, in the order in which they are listed
abbrev pub plain_meanings : List Meaning
plain_meanings =
    meaning.Builtin builtin.Print ∷ meaning.Builtin builtin.Input ∷ meaning.Builtin builtin.Len ∷ meaning.Builtin builtin.Range
    ∷ meaning.Builtin builtin.Str ∷ meaning.Builtin builtin.Int ∷ meaning.Builtin builtin.Bool ∷ meaning.Builtin builtin.List
    ∷ meaning.Builtin builtin.Dict ∷ meaning.Builtin builtin.Tuple ∷ meaning.Builtin builtin.Super ∷ meaning.ModuleName ∷ []

abbrev pub named_builtins : List (List ℕ × Meaning)
named_builtins = zip plain_builtins plain_meanings

abbrev pub exception_meaning : Option ExcClass → Option Meaning
exception_meaning None = None
exception_meaning (Some c) = Some (meaning.Exception c)

-- the builtins, and the exception classes
abbrev pub builtin_meaning : List ℕ → Option Meaning
builtin_meaning name = option_or (lookup (bytes_eq name) named_builtins) (exception_meaning (class_named name))

-- what may be imported from a module
abbrev pub of_typing : List (List ℕ × Meaning)
of_typing =
    (codes "Optional", meaning.Import imported.Optional) ∷ (codes "List", meaning.Import imported.List)
    ∷ (codes "Dict", meaning.Import imported.Dict) ∷ (codes "Tuple", meaning.Import imported.Tuple) ∷ []

abbrev pub of_extensions : List (List ℕ × Meaning)
of_extensions = (codes "i64", meaning.Import imported.I64) ∷ (codes "trait", meaning.Import imported.Trait) ∷ []

abbrev pub of_future : List (List ℕ × Meaning)
of_future = (codes "annotations", meaning.Import imported.Annotations) ∷ []

abbrev pub import_meaning : List ℕ → List ℕ → Option Meaning
import_meaning from name =
    if bytes_eq from (codes "typing") then lookup (bytes_eq name) of_typing else
    if bytes_eq from (codes "mypy_extensions") then lookup (bytes_eq name) of_extensions else
    if bytes_eq from (codes "__future__") then lookup (bytes_eq name) of_future
    else None

-- What the names of an annotation stand for (PEP 484).
--
-- A name stands for a type, for a form of types that takes others in brackets, or for neither. A class that is refused, and a
-- name of an import that is refused, have no type, and nothing is said of them; nor of a name that is not known, of which
-- binding says so.
use Rattle.std.specs.Prelude.{ℕ, Bool, true, false, ◌&&◌, ◌||◌, if◌then◌else◌, nat_lt, List, [], ◌∷◌, length, Option, Some, None}
use Rattle.std.specs.List.{list_any}
use Rattle.std.specs.Option.{option_map}
use Rattle.py_syntax.specs.declared.token.Span.{Span}
use Rattle.py_syntax.specs.Expressions.{ExprTree}
use Rattle.py_syntax_diagnostics.specs.declared.diagnostic.Diag.{Diag}
use Rattle.py_binder.specs.declared.sight.Manner.TheVariants.{Annotation}
use Rattle.py_binder.specs.Sights.{Use, Reads, Binds, Sight, reads}
use Rattle.py_typed.specs.Sorts as sort
use Rattle.py_typed.specs.Sorts.{Sort, sorts_of}
use Rattle.py_typed.specs.Fits.{optional}
use Rattle.py_typed.specs.WellTypedExpr.{is_key_type}
use Rattle.py_check_context.specs.declared.scope.Meaning.{Meaning}
use Rattle.py_check_context.specs.declared.scope.Meaning.TheVariants as meaning
use Rattle.py_check_context.specs.declared.scope.Imported.TheVariants as imported
use Rattle.py_check_context.specs.declared.scope.Builtin.TheVariants as builtin
use Rattle.py_check_messages.specs.Seen.{Seen, diag, is, silent, fails}
use Rattle.py_check_messages.specs.Messages as message
use Rattle.py_check_annotations.specs.declared.names.Former.{Former}
use Rattle.py_check_annotations.specs.declared.names.Former.TheVariants as former

-- ---- single names

-- the type that a name stands for by itself
abbrev pub plain_type : Meaning → Option Sort
plain_type (meaning.Builtin builtin.Int) = Some sort.Int
plain_type (meaning.Builtin builtin.Bool) = Some sort.Bool
plain_type (meaning.Builtin builtin.Str) = Some sort.Str
plain_type (meaning.Import imported.I64) = Some sort.I64
plain_type (meaning.Class c) = Some (sort.Instance c)
plain_type (meaning.Exception c) = Some (sort.Exc c)
plain_type _ = None

-- the form of types that it stands for; the names of `typing` are those of the builtins
abbrev pub former_of : Meaning → Option Former
former_of (meaning.Builtin builtin.List) = Some former.List
former_of (meaning.Builtin builtin.Dict) = Some former.Dict
former_of (meaning.Builtin builtin.Tuple) = Some former.Tuple
former_of (meaning.Import imported.List) = Some former.List
former_of (meaning.Import imported.Dict) = Some former.Dict
former_of (meaning.Import imported.Tuple) = Some former.Tuple
former_of (meaning.Import imported.Optional) = Some former.Optional
former_of _ = None

abbrev pub is_unknown : Meaning → Bool
is_unknown meaning.Unknown = true
is_unknown _ = false

abbrev pub is_untyped : Meaning → Bool
is_untyped meaning.UntypedClass = true
is_untyped meaning.Untyped = true
is_untyped _ = false

-- a type, or what is no type
abbrev pub valid : Span → Option Sort → Seen Sort
valid span None = fails span message.invalid_type
valid span (Some t) = is t

-- a name, by what it means
abbrev pub named : Meaning → Span → Seen Sort
named m span = if is_unknown m || is_untyped m then silent else valid span (plain_type m)

-- ---- forms of types

-- the one part, and the two parts, where there are as many
abbrev pub only : {A : Type 0} → List A → Option A
only (t ∷ []) = Some t
only _ = None

abbrev pub both_of : {A : Type 0} → List A → Option (A × A)
both_of (k ∷ t ∷ []) = Some (k, t)
both_of _ = None

-- keys are texts or numbers
abbrev pub dict_of : Sort → Sort → Option Sort
dict_of k t = if is_key_type k then Some (sort.DictOf k t) else None

abbrev pub some_dict : Option (Sort × Sort) → Option Sort
some_dict None = None
some_dict (Some p) = dict_of p.0 p.1

-- a tuple has 1 to 16 items
abbrev pub tuple_of : List Sort → Option Sort
tuple_of ts = if nat_lt 0 (length ts) && nat_lt (length ts) 17 then Some (sort.TupleOf (sorts_of ts)) else None

-- the type of a form with the types in its brackets, if it takes them
abbrev pub applied : Former → List Sort → Option Sort
applied former.List ts = option_map sort.ListOf (only ts)
applied former.Optional ts = option_map optional (only ts)
applied former.Dict ts = some_dict (both_of ts)
applied former.Tuple ts = tuple_of ts

-- ---- what is no type

-- a name that is looked up or bound there is not known
abbrev pub unknown_there : (List ℕ → Meaning) → Use → Bool
unknown_there meanings (Reads x) = is_unknown (meanings x)
unknown_there meanings (Binds x) = is_unknown (meanings x)
unknown_there meanings _ = false

abbrev pub any_unknown : (List ℕ → Meaning) → List Sight → Bool
any_unknown meanings sights = list_any (λ x. unknown_there meanings x.does) sights

-- among the names in an annotation is one that is not known
abbrev pub has_unknown : (List ℕ → Meaning) → ExprTree → Bool
has_unknown meanings e = any_unknown meanings (reads Annotation e)

-- what is said of what can be no type, by whether a name in it is not known
abbrev pub invalid_unless : Bool → Span → List Diag
invalid_unless unknown span = if unknown then [] else diag span message.invalid_type ∷ []

-- A name that is read (Python Language Reference, "Identifiers (Names)").
--
-- It has to be a variable; of a name that is not known binding says so, and nothing is said here. A variable has the type of its annotation or of its first assignment, so it is
-- not read before that one stands; where that type hangs on what has none, the name has none either, and nothing is said. A
-- local of a type that may be None reads as one that is not, where that is known.
use Rattle.std.specs.Prelude.{ℕ, Bool, false, List, codes}
use Rattle.py_syntax.specs.declared.token.Span.{Span}
use Rattle.py_typed.specs.Sorts as sort
use Rattle.py_typed.specs.Expressions as node
use Rattle.py_typed.specs.Expressions.{TypedExpr, TypedNode, typed}
use Rattle.py_typed.specs.Narrowing.{is_in}
use Rattle.py_typed.specs.WellTypedExpr.{reads_as}
use Rattle.py_check_context.specs.declared.scope.Meaning.{Meaning}
use Rattle.py_check_context.specs.declared.scope.Meaning.TheVariants as meaning
use Rattle.py_check_context.specs.Context.{VarSort, unset, untyped, has, VarSorts, var_at}
use Rattle.py_check_messages.specs.Seen.{Seen, is, silent, fails}
use Rattle.py_check_messages.specs.Messages.{not_a_value, no_type_yet}

-- a variable of this name, which may be known not to be None
abbrev pub variable : Span → List ℕ → TypedNode → Bool → VarSort → Seen TypedExpr
variable span x e known (has t) = is (typed e (reads_as known t) span)
variable span x e known untyped = silent
variable span x e known unset = fails span (no_type_yet x)

-- by what the name means; `__name__` is the text of the module's name
abbrev pub named : VarSorts → List ℕ → Span → List ℕ → Meaning → Seen TypedExpr
named vars known span x (meaning.Local i) = variable span x (node.Local i) (is_in known i) (var_at vars.locals i)
named vars known span x (meaning.Global i) = variable span x (node.Global i) false (var_at vars.globals i)
named vars known span x meaning.ModuleName = is (typed (node.Str (codes "__main__")) sort.Str span)
named vars known span x meaning.Untyped = silent
named vars known span x meaning.Unknown = silent
named vars known span x m = fails span (not_a_value x)

-- Calls of builtins (Python Library Reference, "Built-in Functions"; mypyc's guide, "Native integer types").
--
-- `print` takes any number of printable values and gives none; `input` takes nothing. The others take one value: `len` one
-- that has a length, `str` a printable one, and `int` and `i64` a number, which they change.
use Rattle.std.specs.Prelude.{ℕ, suc, Bool, not, ◌||◌, true, false, List, [], ◌∷◌, codes, Option, Some, None, Result, Ok, Err, if◌then◌else◌}
use Rattle.py_syntax.specs.declared.token.Span.{Span}
use Rattle.py_typed.specs.Sorts.{Sort}
use Rattle.py_typed.specs.Sorts as sort
use Rattle.py_typed.specs.Classes.{ClassEntry}
use Rattle.py_typed.specs.Fits.{is_number, is_nothing}
use Rattle.py_typed.specs.Expressions as node
use Rattle.py_typed.specs.Expressions.{TypedExpr, typed, type_of, exprs_of}
use Rattle.py_typed.specs.WellTypedExpr.{is_printable, is_sized}
use Rattle.py_check_context.specs.Context.{Wanted, dropped}
use Rattle.py_check_messages.specs.Seen.{Message}
use Rattle.py_check_messages.specs.Messages.{wrong_number, wrong_argument, gives_nothing}
use Rattle.py_check_coercions.specs.Values.{coerced}
use Rattle.py_check_calls.specs.declared.callees.Single.{Single}
use Rattle.py_check_calls.specs.declared.callees.Single.TheVariants.{Len, Str, Int, I64}

-- ---- calls as values

abbrev pub is_dropped : Wanted → Bool
is_dropped dropped = true
is_dropped w = false

abbrev pub gives_value : Wanted → Sort → Bool
gives_value w t = is_dropped w || not (is_nothing t)

-- a call of f, where it may stand
abbrev pub as_value : Wanted → List ℕ → TypedExpr → Result TypedExpr Message
as_value w f e = if gives_value w (type_of e) then Ok e else Err (gives_nothing f)

-- ---- `print` and `input`

-- the first value that is not printable, where the first of all has the number i
abbrev pub unprintable : ℕ → List TypedExpr → Option (ℕ × Sort)
unprintable i [] = None
unprintable i (e ∷ es) = if is_printable (type_of e) then unprintable (suc i) es else Some (i, type_of e)

abbrev pub printed : List ClassEntry → Wanted → Span → List TypedExpr → Option (ℕ × Sort) → Result TypedExpr Message
printed classes w span es (Some p) = Err (wrong_argument classes p.0 (codes "print") p.1 (codes "printable"))
printed classes w span es None = as_value w (codes "print") (typed (node.Print (exprs_of es)) sort.Nothing span)

abbrev pub print_call : List ClassEntry → Wanted → Span → List TypedExpr → Result TypedExpr Message
print_call classes w span es = printed classes w span es (unprintable 1 es)

abbrev pub input_call : Span → List TypedExpr → Result TypedExpr Message
input_call span [] = Ok (typed node.Input sort.Str span)
input_call span (e ∷ es) = Err (wrong_number (codes "input") (codes "0"))

-- ---- those that take one value

abbrev pub the_only : List TypedExpr → Option TypedExpr
the_only (e ∷ []) = Some e
the_only es = None

abbrev pub single_name : Single → List ℕ
single_name Len = codes "len"
single_name Str = codes "str"
single_name Int = codes "int"
single_name I64 = codes "i64"

abbrev pub single_takes : Single → Sort → Bool
single_takes Len t = is_sized t
single_takes Str t = is_printable t
single_takes Int t = is_number t
single_takes I64 t = is_number t

abbrev pub single_asks : Single → List ℕ
single_asks Len = codes "sized"
single_asks Str = codes "printable"
single_asks Int = codes "number"
single_asks I64 = codes "number"

abbrev pub single_made : Single → Span → TypedExpr → TypedExpr
single_made Len span e = typed (node.Len e) sort.Int span
single_made Str span e = typed (node.ToStr e) sort.Str span
single_made Int span e = coerced sort.Int e
single_made I64 span e = coerced sort.I64 e

abbrev pub single_given : List ClassEntry → Single → Span → Option TypedExpr → Result TypedExpr Message
single_given classes f span None = Err (wrong_number (single_name f) (codes "1"))
single_given classes f span (Some e) =
    if single_takes f (type_of e) then Ok (single_made f span e) else Err (wrong_argument classes 1 (single_name f) (type_of e) (single_asks f))

abbrev pub single_call : List ClassEntry → Single → Span → List TypedExpr → Result TypedExpr Message
single_call classes f span es = single_given classes f span (the_only es)

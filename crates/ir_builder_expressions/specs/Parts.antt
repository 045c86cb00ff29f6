-- The types of values that are built, and of the registers for the parts of an operation.
use Rattle.std.specs.Prelude.{ℤ, Bool, true, false, ◌&&◌, ◌||◌, Option, Some, None, if◌then◌else◌}
use Rattle.value_core.specs.Arithmetic.{lies_within}
use Rattle.py_typed.specs.Fits.{is_number}
use Rattle.py_typed.specs.Sorts as sort
use Rattle.py_typed.specs.Sorts.{Sort}
use Rattle.py_typed.specs.Expressions.{TypedExpr, typed, Int, type_of}

abbrev pub is_i64 : Sort → Bool
is_i64 sort.I64 = true
is_i64 _ = false

abbrev pub is_bool : Sort → Bool
is_bool sort.Bool = true
is_bool _ = false

abbrev pub is_int : Sort → Bool
is_int sort.Int = true
is_int _ = false

abbrev pub is_text : Sort → Bool
is_text sort.Str = true
is_text _ = false

-- numbers, bools and texts
abbrev pub is_scalar : Sort → Bool
is_scalar sort.Int = true
is_scalar sort.I64 = true
is_scalar sort.Bool = true
is_scalar sort.Str = true
is_scalar _ = false

-- an `int` as it stands in the text
abbrev pub literal_in : TypedExpr → Option ℤ
literal_in (typed (Int n) t place) = Some n
literal_in e = None

-- two numbers or bools are compared, or two texts
abbrev pub is_pair : Sort → Sort → Bool
is_pair s t = (is_number s && is_number t) || (is_text s && is_text t)

-- a number that is a native integer
abbrev pub fitting_in : Option ℤ → Option ℤ
fitting_in None = None
fitting_in (Some n) = if lies_within 63 n then Some n else None

-- where one is asked for
abbrev pub native_in : Sort → Option ℤ → Option ℤ
native_in sort.I64 o = fitting_in o
native_in t o = None

-- the register of such a number is one of native integers, and that of any other part has the part's type
abbrev pub sort_by : Option ℤ → Sort → Sort
sort_by (Some n) t = sort.I64
sort_by None t = t

abbrev pub part_sort : Sort → TypedExpr → Sort
part_sort t e = sort_by (native_in t (literal_in e)) (type_of e)

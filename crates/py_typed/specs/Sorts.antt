-- Types as plain data, and what a declared type stands for.
use Rattle.std.specs.Prelude.{ℕ, List, [], ◌∷◌}
use Rattle.value_core.specs.declared.exception.ExcClass.{ExcClass}
use Rattle.py_typed.specs.declared.types.Ty.{Ty, fold-Ty}
use Rattle.py_typed.specs.declared.types.Ty.TheOpen.{Ty-F}

-- a type; a class is known by its number
mutual
  pub data Sort : Type 0 where
    Int : Sort
    I64 : Sort
    Bool : Sort
    Str : Sort
    Nothing : Sort
    ListOf : Sort → Sort
    DictOf : Sort → Sort → Sort
    TupleOf : Sorts → Sort
    Optional : Sort → Sort
    Instance : ℕ → Sort
    Exc : ExcClass → Sort

  -- types in a row
  pub data Sorts : Type 0 where
    no_sorts : Sorts
    sort_then : Sort → Sorts → Sorts

-- a row made of a list, and back
abbrev pub sorts_of : List Sort → Sorts
sorts_of [] = no_sorts
sorts_of (t ∷ ts) = sort_then t (sorts_of ts)

abbrev pub listed_sorts : Sorts → List Sort
listed_sorts no_sorts = []
listed_sorts (sort_then t ts) = t ∷ listed_sorts ts

-- one level of a declared type, whose parts are seen already
abbrev pub sort_step : Ty-F Sort → Sort
sort_step Ty-F.Int = Int
sort_step Ty-F.I64 = I64
sort_step Ty-F.Bool = Bool
sort_step Ty-F.Str = Str
sort_step Ty-F.Nothing = Nothing
sort_step (Ty-F.List t) = ListOf t.value
sort_step (Ty-F.Dict k v) = DictOf k.value v.value
sort_step (Ty-F.Tuple ts) = TupleOf (sorts_of ts)
sort_step (Ty-F.Optional t) = Optional t.value
sort_step (Ty-F.Class c) = Instance c
sort_step (Ty-F.Exc c) = Exc c

-- what a declared type stands for
abbrev pub sort : Ty → Sort
sort = fold-Ty Sort sort_step

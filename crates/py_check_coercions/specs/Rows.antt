-- Values in a row, where values of types are asked for.
use Rattle.std.specs.Prelude.{ℕ, suc, List, [], ◌∷◌, Option, Some, None, if◌then◌else◌}
use Rattle.py_typed.specs.Sorts.{Sort}
use Rattle.py_typed.specs.Classes.{ClassEntry}
use Rattle.py_typed.specs.Fits.{fits}
use Rattle.py_typed.specs.Expressions.{TypedExpr, type_of}
use Rattle.py_check_context.specs.Context.{Wanted, wants, WantedRow, wanted_in}
use Rattle.py_check_coercions.specs.Values.{changed}

-- a value that does not fit what is asked for: its place, its type, and the other one
pub record Misfit : Type 0 where
  pub place : ℕ
  pub found : Sort
  pub asked : Sort

-- the first of two, where it is there, else the second
abbrev pub first_of : {A : Type 0} → Option A → Option A → Option A
first_of None other = other
first_of (Some a) other = Some a

abbrev pub unfit_at : List ClassEntry → ℕ → Wanted → TypedExpr → Option Misfit
unfit_at classes i (wants t) e = if fits classes (type_of e) t then None else Some (record { place = i; found = type_of e; asked = t })
unfit_at classes i w e = None

-- the first of those from the place i on that does not fit
abbrev pub unfit : List ClassEntry → WantedRow → ℕ → List TypedExpr → Option Misfit
unfit classes row i [] = None
unfit classes row i (e ∷ es) = first_of (unfit_at classes i (wanted_in row i) e) (unfit classes row (suc i) es)

-- each as what is asked for
abbrev pub changed_row : WantedRow → ℕ → List TypedExpr → List TypedExpr
changed_row row i [] = []
changed_row row i (e ∷ es) = changed (wanted_in row i) e ∷ changed_row row (suc i) es

-- Variables with their names and types, by their numbers.
use Rattle.std.specs.Prelude.{ℕ, suc, List, [], ◌∷◌}
use Rattle.py_typed.specs.Sorts as sort
use Rattle.py_typed.specs.Sorts.{Sort}
use Rattle.py_typed.specs.Statements.{Variable}
use Rattle.py_check_context.specs.Context.{VarSort, has, var_at}

-- the numbers of names
abbrev pub numbers_from : ℕ → List (List ℕ) → List ℕ
numbers_from i [] = []
numbers_from i (name ∷ more) = i ∷ numbers_from (suc i) more

abbrev pub sort_or_none : VarSort → Sort
sort_or_none (has t) = t
sort_or_none v = sort.Nothing

-- names by their numbers, with their types
abbrev pub variables_from : ℕ → List VarSort → List (List ℕ) → List Variable
variables_from i types [] = []
variables_from i types (name ∷ more) = (name, sort_or_none (var_at types i)) ∷ variables_from (suc i) types more

abbrev pub typed_variables : List VarSort → List (List ℕ) → List Variable
typed_variables types names = variables_from 0 types names

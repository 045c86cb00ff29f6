-- Variables by their numbers, one after the other.
use Rattle.std.proofs.Common.{◌≡◌, ◌∙◌, ℕ, suc, ◌+◌, ◌<◌, List, [], ◌∷◌, ◌++◌, length, map, drop, get_or, slice_get, drop-cons, add-one, Option, refl, ap, sym}
use Rattle.std.proofs.lemmas.List.{append_assoc}
use Rattle.std.proofs.lemmas.Option.{slice_get-map}
use Rattle.std.specs.Option.{option_map}
use Rattle.py_typed.specs.declared.checked.Var.{Var}
use Rattle.py_typed.specs.Sorts.{Sort}
use Rattle.py_typed.specs.Statements.{Variable, variable}
use Rattle.py_check_context.specs.declared.variables.VarType.{VarType}
use Rattle.py_check_context.specs.Context.{var_sort, var_of, var_at}
use Rattle.py_check_definitions.specs.Variables.{numbers_from, sort_or_none, variables_from}

-- ---- numbers

pub numbers_on : (names : List (List ℕ)) (i : ℕ) → i < length names → (ns ns2 whole : List ℕ) → ns2 ≡ ns ++ i ∷ [] → ns ++ numbers_from i (drop i names) ≡ whole → ns2 ++ numbers_from (i + 1) (drop (i + 1) names) ≡ whole
numbers_on names i h ns ns2 whole put before =
    ap (λ l. l ++ numbers_from (i + 1) (drop (i + 1) names)) put
    ∙ append_assoc ns (i ∷ []) (numbers_from (i + 1) (drop (i + 1) names))
    ∙ ap (λ n. ns ++ i ∷ numbers_from n (drop n names)) (add-one i)
    ∙ ap (λ l. ns ++ numbers_from i l) (sym (drop-cons names i [] h))
    ∙ before

abbrev named : List ℕ → Sort → Variable
named x s = (x, s)

map_one : (old : List Var) (v : Var) → map variable (old ++ v ∷ []) ≡ map variable old ++ variable v ∷ []
map_one [] v = refl
map_one (w ∷ old) v = ap (λ l. variable w ∷ l) (map_one old v)

at_place : (types : List VarType) (i : ℕ) (o : Option VarType) → o ≡ slice_get types i → var_of (option_map var_sort o) ≡ var_at (map var_sort types) i
at_place types i o is = ap (λ x. var_of (option_map var_sort x)) is ∙ sym (ap var_of (slice_get-map var_sort types i))

pub variables_on : (names : List (List ℕ)) (i : ℕ) (x : List ℕ) → i < length names → x ≡ get_or names i x → (types : List VarType) (o : Option VarType) → o ≡ slice_get types i → (old new : List Var) (v : Var) (whole : List Variable) → new ≡ old ++ v ∷ [] → variable v ≡ named x (sort_or_none (var_of (option_map var_sort o))) → map variable old ++ variables_from i (map var_sort types) (drop i names) ≡ whole → map variable new ++ variables_from (i + 1) (map var_sort types) (drop (i + 1) names) ≡ whole
variables_on names i x h at types o is old new v whole put made before =
    let sorts = map var_sort types in
    let rest = variables_from (i + 1) sorts (drop (i + 1) names) in
    ap (λ l. map variable l ++ rest) put
    ∙ ap (λ l. l ++ rest) (map_one old v)
    ∙ append_assoc (map variable old) (variable v ∷ []) rest
    ∙ ap (λ (w : Variable). map variable old ++ w ∷ rest) (made ∙ ap (λ s. named x (sort_or_none s)) (at_place types i o is))
    ∙ ap (λ n. map variable old ++ named x (sort_or_none (var_at sorts i)) ∷ variables_from n sorts (drop n names)) (add-one i)
    ∙ ap (λ y. map variable old ++ named y (sort_or_none (var_at sorts i)) ∷ variables_from (suc i) sorts (drop (suc i) names)) at
    ∙ ap (λ l. map variable old ++ variables_from i sorts l) (sym (drop-cons names i x h))
    ∙ before

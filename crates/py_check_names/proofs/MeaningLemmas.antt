-- What a table of meanings says of the names of a scope.
use Rattle.std.proofs.Common.{◌≡◌, ◌∙◌, ℕ, List, map, Option, ap}
use Rattle.std.specs.Prelude.{unwrap_or}
use Rattle.std.specs.Str.{bytes_eq}
use Rattle.std.specs.Map.{lookup}
use Rattle.py_binder.specs.declared.scope.Scope.{Scope}
use Rattle.py_check_context.specs.declared.scope.Meaning.{Meaning}
use Rattle.py_check_context.specs.declared.scope.Meaning.TheVariants.{Unknown}
use Rattle.py_check_names.specs.Meanings.{own_names, by_role, meaning_in}

pub table_says : (said : List ℕ → Option Meaning) (outer : List (List ℕ)) (inside : Scope) (own : List (List ℕ)) (pairs : List (List ℕ × Meaning)) (got : List ℕ → Option Meaning) → own ≡ own_names inside → pairs ≡ map (λ p. (p.0, by_role said outer own p.0 p.1)) inside.names → ((name : List ℕ) → got name ≡ lookup (bytes_eq name) pairs) → (name : List ℕ) → unwrap_or (got name) Unknown ≡ meaning_in said outer inside name
table_says said outer inside own pairs got is_own made is name =
    ap (λ o. unwrap_or o Unknown)
    (is name ∙ ap (lookup (bytes_eq name)) (made ∙ ap (λ (k : List (List ℕ)). map (λ p. (p.0, by_role said outer k p.0 p.1)) inside.names) is_own))

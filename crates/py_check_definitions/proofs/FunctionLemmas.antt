-- Functions with their scopes, one to one.
use Rattle.std.proofs.Common.{◌≡◌, List, [], ◌∷◌, map, refl, ap, ℕ}
use Rattle.std.specs.List.{zip}
use Rattle.py_syntax.specs.Statements.{FuncTree}
use Rattle.py_binder.specs.declared.scope.Scope.{Scope}
use Rattle.py_binder.specs.Scope.{Roles, function_scope}
use Rattle.py_check_context.specs.declared.scope.Meaning.{Meaning}
use Rattle.py_binder.proofs.DefinitionLemmas.{func_tree_at}
use Rattle.py_check_signatures.specs.declared.headers.Owner.{Owner}
use Rattle.py_check_signatures.specs.Headers.{HeaderSorts}
use Rattle.py_check_signatures.specs.Views.{header_sorts}
use Rattle.py_check_definitions.specs.declared.functions.Function.{Function}
use Rattle.py_check_definitions.specs.Definitions.{Headed, headed}
use Rattle.py_check_definitions.specs.Views.{headed_of, headed_parts, headed_all}

module _ (meanings : List ℕ → Meaning) where
  pub all_headed : (roles : Roles) (fs : List FuncTree) (owners : List Owner) → headed_all meanings fs owners (map (function_scope roles) fs) ≡ map (headed roles meanings) (zip fs owners)
  all_headed roles [] owners = refl
  all_headed roles (f ∷ more) [] = refl
  all_headed roles (f ∷ more) (o ∷ owners) = ap (λ l. headed roles meanings (f, o) ∷ l) (all_headed roles more owners)

-- a function by the parts of its tree
abbrev headed_tree : FuncTree → Scope → HeaderSorts → Headed
headed_tree f inside header = record { tree = f; inside = inside; header = header }

pub headed_same : (f : Function) → headed_of f ≡ headed_parts f
headed_same f = ap (λ t. headed_tree t f.inside.now (header_sorts f.header)) (func_tree_at f.tree.now)

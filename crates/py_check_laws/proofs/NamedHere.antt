-- Where nothing is said of a module, its variables, its functions that are no methods and its classes have names that differ.
use Rattle.std.proofs.Common.{◌≡◌, ◌∙◌, ℕ, Bool, true, List, [], ◌∷◌, ◌++◌, map, Option, Some, None, refl, ap, ap₂, sym}
use Rattle.std.specs.List.{flat_map}
use Rattle.std.specs.Map.{lookup}
use Rattle.std.specs.Str.{bytes_eq}
use Rattle.py_syntax.specs.Statements.{Suite}
use Rattle.py_binder.specs.Scope.{module_scope}
use Rattle.py_typed.specs.Classes.{ClassEntry}
use Rattle.py_typed.specs.Statements.{TypedFunc, TypedModule}
use Rattle.py_typed.specs.WellTyped.{all_differ}
use Rattle.py_typed.specs.WellTypedModule.{own_name}
use Rattle.py_check_context.specs.Context.{VarSort}
use Rattle.py_check_names.specs.Meanings.{variables}
use Rattle.py_check_definitions.specs.Definitions.{headed_functions}
use Rattle.py_check.specs.Module.{module_owns, module_context, global_sorts, typed_functions, said, diagnostics, typed}
use Rattle.py_check_laws.specs.Modules.{name_if, function_name, all_names}
use Rattle.py_check_laws.proofs.Bodied.{nothing_placed}
use Rattle.py_check.proofs.Sights.{suite_gives}
use Rattle.py_check_laws.proofs.Meant.{given_no_variable}
use Rattle.py_check_laws.proofs.Differ.{variables_differ, other_name}
use Rattle.py_check_laws.proofs.AllNames.{names_differ}
use Rattle.py_check_laws.proofs.NewHere.{all_new_here}
use Rattle.py_check_laws.proofs.Quieted as quiet

pub names_differ_here : (is_identifier : List ℕ → Bool) (tree : TypedModule) (sorts : List VarSort) (m : Suite) → said m ≡ []
    → all_differ (variables (module_scope m) ++ (flat_map (own_name is_identifier tree) (typed_functions (module_context m) sorts (headed_functions m)) ++ map (λ (c : ClassEntry). c.name) (module_context m).classes)) ≡ true
names_differ_here is_identifier tree sorts m nothing =
    names_differ is_identifier tree (module_context m) sorts m (module_owns m) (variables (module_scope m)) (variables_differ m) (all_new_here m nothing) (quiet.typed_classes m nothing)
    (other_name m (λ x r q. given_no_variable m (quiet.n m nothing) (quiet.right m nothing) (quiet.count m nothing) (quiet.typed_classes m nothing) x r (ap (lookup (bytes_eq x)) (suite_gives m) ∙ q)))

same_name : (is_identifier : List ℕ → Bool) (tree : TypedModule) (f : TypedFunc) → own_name is_identifier tree f ≡ function_name f
same_name is_identifier tree f = by f.class
  where
    none : Option ℕ → List (List ℕ)
    none None = f.name ∷ []
    none (Some c) = []

    by : (o : Option ℕ) → none o ≡ name_if o f.name
    by None = refl
    by (Some c) = refl

same_names : (is_identifier : List ℕ → Bool) (tree : TypedModule) (fs : List TypedFunc) → flat_map function_name fs ≡ flat_map (own_name is_identifier tree) fs
same_names is_identifier tree [] = refl
same_names is_identifier tree (f ∷ fs) = ap₂ (λ x y. x ++ y) (sym (same_name is_identifier tree f)) (same_names is_identifier tree fs)

-- THE NAMES of a module of which nothing is said differ
pub quiet_names : (m : Suite) → diagnostics m ≡ [] → all_differ (all_names m) ≡ true
quiet_names m h =
    let test : List ℕ → Bool = λ x. true in
    ap (λ l. all_differ (variables (module_scope m) ++ (l ++ map (λ (c : ClassEntry). c.name) (module_context m).classes))) (same_names test (typed m) (typed m).funcs)
    ∙ names_differ_here test (typed m) (global_sorts (module_context m) (module_scope m) (headed_functions m) m) m (nothing_placed (said m) h)

-- All names of a module of which nothing is said differ: those of its variables, of its functions that are no methods, and of its classes.
use Rattle.std.proofs.Common.{◌≡◌, ℕ, Bool, true, false, List, [], ◌∷◌, ◌++◌, map, Some, None, refl, ap, ap₂, ◌∙◌}
use Rattle.std.specs.List.{flat_map, zip}
use Rattle.py_syntax.specs.Statements.{FuncTree, Suite}
use Rattle.py_binder.specs.Scope.{contains, Roles, module_role, functions}
use Rattle.py_typed.specs.Classes.{ClassEntry}
use Rattle.py_typed.specs.Statements.{TypedModule}
use Rattle.py_typed.specs.WellTyped.{all_differ}
use Rattle.py_typed.specs.WellTypedModule.{own_name}
use Rattle.py_check_context.specs.declared.scope.Meaning.{Meaning}
use Rattle.py_check_context.specs.Context.{VarSort}
use Rattle.py_check_names.specs.Outline.{suite_definitions}
use Rattle.py_check_classes.specs.Names.{said_of_names}
use Rattle.py_check_classes.specs.Headers.{module_headers}
use Rattle.py_check_members.specs.Members.{Owns, class_entries}
use Rattle.py_check_signatures.specs.declared.headers.Owner.{Owner}
use Rattle.py_check_signatures.specs.declared.headers.Owner.TheVariants as owner
use Rattle.py_check_definitions.specs.Names.{module_meaning}
use Rattle.py_check_definitions.specs.Owners.{owners}
use Rattle.py_check_definitions.specs.Definitions.{headed, headed_functions}
use Rattle.py_check_definitions.proofs.HeldLemmas.{functions_defined}
use Rattle.py_check.specs.Module.{ModuleContext, function_context, typed_function, typed_functions}
use Rattle.py_check_laws.proofs.NewNames.{def_name, class_name, own_of, owned, AllNew, AllTyped, new_names_differ, owned_names, entries_named, differ_two}

module _ (is_identifier : List ℕ → Bool) (tree : TypedModule) (e : ModuleContext) (sorts : List VarSort) (roles : Roles) (meanings : List ℕ → Meaning) where
  own_is : (f : FuncTree) (whose : Owner) → own_name is_identifier tree (typed_function (function_context e (headed roles meanings (f, whose))) e.variables sorts (headed roles meanings (f, whose))) ≡ own_of whose f.name
  own_is f owner.Module = refl
  own_is f (owner.Class None) = refl
  own_is f (owner.Class (Some c)) = refl
  own_is f owner.UntypedTrait = refl

  owns_are : (ps : List (FuncTree × Owner)) → flat_map (own_name is_identifier tree) (typed_functions e sorts (map (headed roles meanings) ps)) ≡ flat_map owned ps
  owns_are [] = refl
  owns_are (p ∷ ps) = ap₂ (λ (a b : List (List ℕ)). a ++ b) (own_is p.0 p.1) (owns_are ps)

-- the names of the functions that are no methods
pub functions_named : (is_identifier : List ℕ → Bool) (tree : TypedModule) (e : ModuleContext) (sorts : List VarSort) (m : Suite) → AllTyped (module_headers m) 0 (suite_definitions m) → flat_map (own_name is_identifier tree) (typed_functions e sorts (headed_functions m)) ≡ flat_map def_name (suite_definitions m)
functions_named is_identifier tree e sorts m typed =
    owns_are is_identifier tree e sorts (module_role m) (module_meaning m) (zip (functions m) (owners m))
    ∙ ap (λ fs. flat_map owned (zip fs (owners m))) (functions_defined m) ∙ owned_names (module_headers m) 0 (suite_definitions m) typed

-- ALL NAMES, where those of variables differ, and none of them is a function's or a class's
pub names_differ : (is_identifier : List ℕ → Bool) (tree : TypedModule) (e : ModuleContext) (sorts : List VarSort) (m : Suite) (owns : Owns) (outer : List (List ℕ)) → all_differ outer ≡ true → AllNew (said_of_names (suite_definitions m)) [] 0 (suite_definitions m) → AllTyped (module_headers m) 0 (suite_definitions m)
    → ((x : List ℕ) → contains outer x ≡ true → contains (flat_map def_name (suite_definitions m) ++ flat_map class_name (suite_definitions m)) x ≡ false)
    → all_differ (outer ++ (flat_map (own_name is_identifier tree) (typed_functions e sorts (headed_functions m)) ++ map (λ (c : ClassEntry). c.name) (class_entries (module_headers m) (suite_definitions m) owns))) ≡ true
names_differ is_identifier tree e sorts m owns outer d new typed apart =
    ap (λ l. all_differ (outer ++ l)) (ap₂ (λ (a b : List (List ℕ)). a ++ b) (functions_named is_identifier tree e sorts m typed) (entries_named (module_headers m) (suite_definitions m) owns))
    ∙ differ_two outer (flat_map def_name (suite_definitions m) ++ flat_map class_name (suite_definitions m)) d (new_names_differ (suite_definitions m) new) apart

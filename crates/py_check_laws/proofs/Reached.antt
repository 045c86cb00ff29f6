-- In a module of which nothing is said no name in reach and no member of a class is without a type.
use Rattle.std.proofs.Common.{◌≡◌, ℕ, true, false, List, [], ◌∷◌, map, Option, Some, None, refl}
use Rattle.std.specs.Prelude.{is_some}
use Rattle.std.specs.List.{list_all}
use Rattle.py_syntax.specs.Expressions.{ExprTree}
use Rattle.py_syntax.specs.Statements.{Suite, FuncTree}
use Rattle.py_binder.specs.Scope.{module_role}
use Rattle.py_typed.specs.Sorts.{Sort}
use Rattle.py_check_signatures.specs.declared.headers.Owner.{Owner}
use Rattle.py_check_signatures.specs.declared.headers.Owner.TheVariants as owner
use Rattle.py_check_signatures.specs.Definitions.{lacks_own}
use Rattle.py_check_signatures.specs.Headers.{types_at, marked}
use Rattle.py_check.specs.Module.{said, diagnostics}
use Rattle.py_check_laws.specs.Modules.{is_typed_whole, are_variables_typed}
use Rattle.py_check_laws.proofs.Bodied.{nothing_placed}
use Rattle.py_check_laws.proofs.Modules.{typed_whole}
use Rattle.py_check_laws.proofs.Varied.{variables_typed}
use Rattle.py_check_laws.proofs.Whole.{InReach}
use Rattle.py_check_laws.proofs.Signed.{is_owned, IsSigned}
use Rattle.py_check_laws.proofs.Quieted as quiet
use Rattle.py_check_laws.proofs.Classes.{member_voiced, init_voiced, inside_voiced}

-- the class of a method has a type, since its first parameter has one
owned_by : (whose : Owner) (ps : List (List ℕ × Option ExprTree)) (types : (List ℕ × Option ExprTree) → Option Sort) → lacks_own whose ps ≡ false → list_all (λ o. is_some o) (types_at whose (map types ps)) ≡ true → is_owned whose ≡ true
owned_by owner.Module ps types l h = refl
owned_by (owner.Class c) [] types l h = absurd (cc)
owned_by (owner.Class None) (p ∷ ps) types l h = absurd (cc)
owned_by owner.UntypedTrait [] types l h = absurd (cc)
owned_by owner.UntypedTrait (p ∷ ps) types l h = absurd (cc)
owned_by (owner.Class (Some n)) (p ∷ ps) types l h = refl

module _ (m : Suite) (nothing : said m ≡ []) where
  pub class_owned : (p : FuncTree × Owner) → IsSigned (quiet.meant m nothing) (quiet.typed_names m nothing) (module_role m) p → is_owned p.1 ≡ true
  class_owned p s = owned_by p.1 p.0.params (λ x. (marked (quiet.meant m nothing) x.1).got) s.sound.1.has_own s.types.params

  pub reach : InReach (quiet.top m nothing)
  reach = record { names = quiet.top_voiced m nothing; members = member_voiced m nothing; inits = init_voiced m nothing; inside = refl }

  pub inner_reach : (p : FuncTree × Owner) → IsSigned (quiet.meant m nothing) (quiet.typed_names m nothing) (module_role m) p → InReach (quiet.inside m nothing p)
  inner_reach p s = record { names = quiet.inner_voiced m nothing p; members = member_voiced m nothing; inits = init_voiced m nothing; inside = inside_voiced m nothing p (class_owned p s) }

-- each part of the module is typed, and each variable has a type
pub quiet_module : (m : Suite) → diagnostics m ≡ [] → is_typed_whole m ≡ true
quiet_module m h = let nothing = nothing_placed (said m) h in typed_whole m nothing (reach m nothing) (inner_reach m nothing)

pub quiet_variables : (m : Suite) → diagnostics m ≡ [] → are_variables_typed m ≡ true
quiet_variables m h = let nothing = nothing_placed (said m) h in variables_typed m nothing (reach m nothing) (inner_reach m nothing)

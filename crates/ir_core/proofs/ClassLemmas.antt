-- Whether classes fit a code depends on them and on the names of its functions alone.
use Rattle.std.proofs.Common.{◌≡◌, refl, sym, ◌∙◌, ap, ℕ, Bool, List, [], ◌∷◌, map}
use Rattle.std.specs.Prelude.{◌&&◌}
use Rattle.std.specs.List.{list_all, list_any}
use Rattle.std.specs.Str.{bytes_eq}
use Rattle.c_core.specs.declared.code.Kind.{Kind}
use Rattle.c_core.specs.declared.code.CClass.{CClass}
use Rattle.c_core.specs.declared.code.CFunc.{CFunc}
use Rattle.c_core.specs.declared.code.Code.{Code}
use Rattle.c_core.specs.WellFormed.{names_differ, has_class, has_function, trait_fits, class_fits, classes_fit}
use Rattle.c_core.proofs.WellFormedLemmas.{any_name}

same_all : {A : Type 0} (f g : A → Bool) (xs : List A) → ((x : A) → f x ≡ g x) → list_all f xs ≡ list_all g xs
same_all f g [] same = refl
same_all f g (x ∷ xs) same = ap (λ b. b && list_all f xs) (same x) ∙ ap (λ b. g x && b) (same_all f g xs same)

module _ (code new : Code) (classes : new.classes ≡ code.classes) (names : map (λ (g : CFunc). g.name) new.funcs ≡ map (λ (g : CFunc). g.name) code.funcs) where
  function_there : (name : List ℕ) → has_function new name ≡ has_function code name
  function_there name =
      sym (any_name (λ (g : CFunc). g.name) name new.funcs)
      ∙ (ap (list_any (bytes_eq name)) names ∙ any_name (λ (g : CFunc). g.name) name code.funcs)

  class_there : (name : List ℕ) → has_class new name ≡ has_class code name
  class_there name = ap (list_any (λ (k : CClass). bytes_eq name k.name)) classes

  functions_there : (ns : List (List ℕ)) → list_all (has_function new) ns ≡ list_all (has_function code) ns
  functions_there ns = same_all (has_function new) (has_function code) ns function_there

  trait_same : (t : List ℕ × List (List ℕ)) → trait_fits new t ≡ trait_fits code t
  trait_same t =
      ap (λ b. b && list_all (has_function new) t.1) (class_there t.0) ∙ ap (λ b. has_class code t.0 && b) (functions_there t.1)

  class_same : (k : CClass) → class_fits new k ≡ class_fits code k
  class_same k =
      ap (λ b. names_differ (map (λ (a : List ℕ × Kind). a.0) k.attrs) && (b && list_all (trait_fits new) k.traits)) (functions_there k.methods)
      ∙ ap (λ b. names_differ (map (λ (a : List ℕ × Kind). a.0) k.attrs) && (list_all (has_function code) k.methods && b)) (same_all (trait_fits new) (trait_fits code) k.traits trait_same)

  pub classes_same : classes_fit new ≡ classes_fit code
  classes_same =
      ap (λ ks. names_differ (map (λ (k : CClass). k.name) ks) && list_all (class_fits new) ks) classes
      ∙ ap (λ b. names_differ (map (λ (k : CClass). k.name) code.classes) && b) (same_all (class_fits new) (class_fits code) code.classes class_same)

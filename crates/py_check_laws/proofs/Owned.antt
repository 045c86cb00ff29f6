-- The variables of a scope: what they mean, and that each of them is a parameter or is bound.
use Rattle.std.proofs.Common.{◌≡◌, ℕ, suc, ◌<◌, Bool, true, false, ◌&&◌, ◌||◌, cond, List, [], ◌∷◌, length, filter, slice_get, Option, Some, refl, ap, sym, ◌∙◌, subst, if◌then◌else◌, lt-ltb, ◌⊎◌, inl, inr}
use Rattle.std.proofs.lemmas.Option.{same_Some, slice_get_within}
use Rattle.std.specs.List.{zip}
use Rattle.std.specs.Map.{lookup}
use Rattle.std.specs.Str.{bytes_eq}
use Rattle.py_syntax.specs.Statements.{FuncTree}
use Rattle.py_binder.specs.declared.scope.Role.{Role}
use Rattle.py_binder.specs.declared.scope.Role.TheVariants as role
use Rattle.py_binder.specs.Sights.{body_sights}
use Rattle.py_binder.specs.Scope.{contains, is_builtin, bound_there, listed_there, all_there, Roles, is_variable, param_names, function_role, first_sights, scope_of}
use Rattle.py_typed.specs.WellTyped.{all_differ}
use Rattle.py_check_context.specs.declared.scope.Meaning.{Meaning}
use Rattle.py_check_context.specs.declared.scope.Meaning.TheVariants as meaning
use Rattle.py_check_context.specs.Context.{Context, VarSorts}
use Rattle.py_check_calls.specs.Callees as callee
use Rattle.py_check_names.specs.Meanings.{is_own, own_names, number, by_role, meaning_in}
use Rattle.py_check_expressions_laws.proofs.Types.{clash}
use Rattle.py_check_laws.specs.WellTyped.{IsScope}
use Rattle.py_check.proofs.NameRows.{filtered, sights_differ, differ_filter, scope_names, number_at, at_place}
use Rattle.py_check_laws.proofs.Meant.{Fine, seen_means, local_place, global_place}

-- ---- names of a function's own

own_by : (outer own : List (List ℕ)) (said : List ℕ → Option Meaning) (x : List ℕ) (r : Role) → is_own r ≡ true → by_role said outer own x r ≡ meaning.Local (number own x)
own_by outer own said x role.Param h = refl
own_by outer own said x role.Local h = refl
own_by outer own said x _ h = absurd (cc)

pub param_or_bound : (f : FuncTree) (roles : Roles) → ((x : List ℕ) → is_own (roles x) ≡ false) → (x : List ℕ) → is_own (function_role roles f x) ≡ true → (contains (param_names f) x ≡ true) ⊎ (contains (all_there bound_there (body_sights f)) x ≡ true)
param_or_bound f roles other x h = by (is_builtin x) (contains (param_names f) x) (contains (all_there listed_there (body_sights f)) x && is_variable (roles x)) (contains (all_there bound_there (body_sights f)) x) refl refl h
  where
    by : (a b c d : Bool) → contains (param_names f) x ≡ b → contains (all_there bound_there (body_sights f)) x ≡ d → is_own (if a then role.Builtin else (if b then role.Param else (if c then role.GlobalVar else (if d then role.Local else roles x)))) ≡ true → (contains (param_names f) x ≡ true) ⊎ (contains (all_there bound_there (body_sights f)) x ≡ true)
    by true b c d p q g = absurd (cc)
    by false true c d p q g = inl p
    by false false true d p q g = absurd (cc)
    by false false false true p q g = inr q
    by false false false false p q g = clash (is_own (roles x)) g (other x)

-- the type of a parameter
pub param_found : {A : Type 0} (names : List (List ℕ)) (types : List A) (x : List ℕ) → length types ≡ length names → contains names x ≡ true → (t : A) × (lookup (bytes_eq x) (zip names types) ≡ Some t)
param_found [] types x n h = absurd (cc)
param_found (y ∷ names) [] x n h = absurd (cc)
param_found {A = A} (y ∷ names) (t ∷ types) x n h = by (bytes_eq x y) h (param_found names types x (one_less (length types) (length names) n))
  where
    one_less : (a b : ℕ) → suc a ≡ suc b → a ≡ b
    one_less a b e = cc

    by : (b : Bool) → (b || contains names x) ≡ true → (contains names x ≡ true → (u : A) × (lookup (bytes_eq x) (zip names types) ≡ Some u)) → (u : A) × (cond b (Some t) (lookup (bytes_eq x) (zip names types)) ≡ Some u)
    by true q next = (t, refl)
    by false q next = next q

pub filter_none : (p : List ℕ → Bool) → ((x : List ℕ) → p x ≡ false) → (ys : List (List ℕ)) → filter p ys ≡ []
filter_none p h [] = refl
filter_none p h (y ∷ ys) = ap (λ b. cond b (y ∷ filter p ys) (filter p ys)) (h y) ∙ filter_none p h ys

module _ (said : List ℕ → Option Meaning) (outer : List (List ℕ)) (n : ℕ) (roles : Roles) (fine : Fine said outer n roles) (seen : List (List ℕ)) where
  abbrev own : List (List ℕ)
  own = own_names (scope_of roles seen)

  abbrev means : List ℕ → Meaning
  means = meaning_in said outer (scope_of roles seen)

  own_role : (x : List ℕ) → contains own x ≡ true → (is_own (roles x) ≡ true) × (contains (first_sights seen) x ≡ true)
  own_role x h = filtered (λ y. is_own (roles y)) (first_sights seen) x (sym (ap (λ l. contains l x) (scope_names is_own roles seen)) ∙ h)

  own_differ : all_differ own ≡ true
  own_differ = ap all_differ (scope_names is_own roles seen) ∙ differ_filter (λ y. is_own (roles y)) (first_sights seen) (sights_differ seen)

  -- what stands at a number means that variable
  pub own_means : (i : ℕ) (x : List ℕ) → slice_get own i ≡ Some x → (means x ≡ meaning.Local i) × (is_own (roles x) ≡ true)
  own_means i x h =
      let r = own_role x (at_place own i x h) in
      (seen_means said outer n roles fine seen x r.1 ∙ own_by outer own said x (roles x) r.0 ∙ ap meaning.Local (number_at own i x own_differ h), r.0)

  -- in any context in which names mean that
  pub scope_is : (D : Context) (V : VarSorts) → length V.locals ≡ length own → length V.globals ≡ length outer → IsScope (record { meaning = means; signatures = D.signatures; classes = D.classes; member = D.member; init = D.init; inside = D.inside }) V
  scope_is D V p q = record {
    locals_there = λ x i e. lt-ltb i (length V.locals) (subst (λ z. i < z) (sym p) (slice_get_within own i x (local_place said outer n roles fine seen x i e)));
    globals_there = λ x i e. lt-ltb i (length V.globals) (subst (λ z. i < z) (sym q) (slice_get_within outer i x (global_place said outer n roles fine seen x i e)));
    differ = λ x y v e. by x y v e (means x) refl;
  }
    where
      by : (x y : List ℕ) → callee.is_variable (means x) ≡ true → means x ≡ means y → (o : Meaning) → means x ≡ o → x ≡ y
      by x y v e (meaning.Local i) o = same_Some x y (sym (local_place said outer n roles fine seen x i o) ∙ local_place said outer n roles fine seen y i (sym e ∙ o))
      by x y v e (meaning.Global i) o = same_Some x y (sym (global_place said outer n roles fine seen x i o) ∙ global_place said outer n roles fine seen y i (sym e ∙ o))
      by x y v e _ o = let bad : false ≡ true = ap callee.is_variable (sym o) ∙ v in absurd (cc)

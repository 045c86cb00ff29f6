-- A well typed module all of which is compiled is one that is built.
use Rattle.ir_builder_supported.proofs.Common.{◌≡◌, refl, sym, ◌∙◌, ap, subst, arith, ℕ, zero, suc, ◌+◌, Bool, true, false, List, [], ◌∷◌, ◌++◌, length, map, Option, Some, None, leb-true, same_Some, not, ◌&&◌, nat_le, slice_get, list_any, flat_map, suite_definitions, ClassEntry, Signature, is_same_type, Variable, TypedFunc, TypedModule, init_class, is_called_in, all_differ, suite_typed, and_left, and_right, one_type, parameter_sorts, is_none, suite_forms, is_function, functions_forms, class_form}
use Rattle.std.proofs.lemmas.List.Folds.{list_any-append}
use Rattle.std.specs.Str.{bytes_eq}
use Rattle.c_core.specs.WellFormed.{is_identifier, names_differ}
use Rattle.py_typed.specs.WellTypedModule.{names_of, same_row, all_at, parameter_types, signature_fits, variables_typed, func_typed, own_name, is_well_typed}
use Rattle.ir_builder_statements.specs.Modules.{FunctionSuits, ModuleSuits}
use Rattle.ir_builder_supported.specs.Laws.{CompiledSuits}
use Rattle.ir_builder_supported.proofs.FormLemmas.{no_form, none_left, none_right, compiled}
use Rattle.ir_builder_supported.proofs.SuitLemmas.{AllSigned, same_sorts}
use Rattle.ir_builder_supported.proofs.SuiteLemmas.{suite_suits}

-- ---- names

one_test : (xs : List (List ℕ)) → all_differ xs ≡ names_differ xs
one_test [] = refl
one_test (x ∷ xs) = ap (λ b. not (list_any (bytes_eq x) xs) && b) (one_test xs)

differ_left : (xs ys : List (List ℕ)) → all_differ (xs ++ ys) ≡ true → all_differ xs ≡ true
differ_left [] ys e = refl
differ_left (x ∷ xs) ys e = grind (arith, differ_left xs ys, list_any-append (bytes_eq x) xs ys)

differ_right : (xs ys : List (List ℕ)) → all_differ (xs ++ ys) ≡ true → all_differ ys ≡ true
differ_right [] ys e = e
differ_right (x ∷ xs) ys e = differ_right xs ys (and_right (not (is_called_in (xs ++ ys) x)) (all_differ (xs ++ ys)) e)

-- ---- functions

at_place : {A : Type 0} (test : ℕ → A → Bool) (i : ℕ) (xs : List A) (k n : ℕ) (x : A) → n ≡ i + k → all_at i test xs ≡ true → slice_get xs k ≡ Some x → test n x ≡ true
at_place test i [] k n x is h e = absurd (cc)
at_place test i (y ∷ ys) zero n x is h e =
    subst (λ j. test j x ≡ true) (sym (omega arith)) (subst (λ z. test i z ≡ true) (same_Some y x e) (and_left (test i y) (all_at (suc i) test ys) h))
at_place test i (y ∷ ys) (suc k) n x is h e = at_place test (suc i) ys k n x (omega arith) (and_right (test i y) (all_at (suc i) test ys) h) e

is_form_of : (lines : List ℕ) (n : ℕ) (fs : List TypedFunc) (k : ℕ) (f : TypedFunc) → functions_forms lines n fs ≡ [] → slice_get fs k ≡ Some f → (is_function f ≡ true) × (suite_forms f.body ≡ [])
is_form_of lines n [] k f p e = absurd (cc)
is_form_of lines n (g ∷ more) zero f p e =
    subst (λ h. (is_function h ≡ true) × (suite_forms h.body ≡ [])) (same_Some g f e) (compiled (is_function g) _ _ (none_left _ _ p))
is_form_of lines n (g ∷ more) (suc k) f p e = is_form_of lines (suc n) more k f (none_right _ _ p) e

none_is : {A : Type 0} (o : Option A) → is_none o ≡ true → o ≡ None
none_is None h = refl
none_is (Some a) h = absurd (cc)

module _ (m : TypedModule) where
  all_named : (fs : List TypedFunc) → ((k : ℕ) (f : TypedFunc) → slice_get fs k ≡ Some f → f.class ≡ None) → flat_map (own_name is_identifier m) fs ≡ map (λ (f : TypedFunc). f.name) fs
  all_named [] h = refl
  all_named (f ∷ more) h = rw (h 0 f refl) (ap (λ l. f.name ∷ l) (all_named more (λ k. h (suc k))))

  -- what a well typed function has
  record Parts (n : ℕ) (f : TypedFunc) : Type 0 where
    pub name : is_identifier f.name ≡ true
    pub variables : variables_typed is_identifier m f.locals ≡ true
    pub signature : signature_fits (slice_get m.classes.signatures n) f ≡ true
    pub body : suite_typed m f.locals (init_class f) (Some f.ret) [] false false f.body ≡ true

  -- ---- signatures

  signed_as : (f : TypedFunc) (s : Signature) → f.class ≡ None → signature_fits (Some s) f ≡ true → (s.params ≡ parameter_sorts f) × (s.ret ≡ f.ret)
  signed_as f s own h = (
    sym (same_sorts (parameter_types f) s.params (and_left (same_row (parameter_types f) s.params) (is_same_type f.ret s.ret) h)) ∙ rw own refl,
    sym (one_type f.ret s.ret (and_right (same_row (parameter_types f) s.params) (is_same_type f.ret s.ret) h)),
  )

  module _ (lines : List ℕ) (typed : is_well_typed is_identifier m ≡ true) (forms : functions_forms lines 0 m.funcs ≡ []) where
    function_parts : (n : ℕ) (f : TypedFunc) → slice_get m.funcs n ≡ Some f → Parts n f
    function_parts n f is =
        let h = at_place (func_typed is_identifier m) 0 m.funcs n n f (omega arith) (and_right _ _ (and_left _ _ typed)) is in
        let eight = and_left _ _ (and_left _ _ (and_left _ _ (and_left _ _ (and_left _ _ h)))) in
        let five = and_left _ _ (and_left _ _ (and_left _ _ eight)) in
        record {
          name = and_left _ _ (and_left _ _ (and_left _ _ (and_left _ _ five)));
          variables = and_right _ _ five;
          signature = and_right _ _ eight;
          body = and_right _ _ h;
        }

    formed : (n : ℕ) (f : TypedFunc) → slice_get m.funcs n ≡ Some f → (is_function f ≡ true) × (suite_forms f.body ≡ [])
    formed n f is = is_form_of lines 0 m.funcs n f forms is

    no_method : (n : ℕ) (f : TypedFunc) → slice_get m.funcs n ≡ Some f → f.class ≡ None
    no_method n f is = none_is f.class (and_left (is_none f.class) _ (formed n f is).0)

    globals_typed : variables_typed is_identifier m m.globals ≡ true
    globals_typed = and_left _ _ (and_left _ _ (and_left _ _ (and_left _ _ (and_left _ _ (and_left _ _ typed)))))

    all_signed : (vs : List Variable) (init : Option ℕ) → AllSigned m vs init
    all_signed vs init n f s is function found =
        signed_as f s (no_method n f is) (subst (λ o. signature_fits o f ≡ true) found (function_parts n f is).signature)

    function_suits : (n : ℕ) (f : TypedFunc) → slice_get m.funcs n ≡ Some f → FunctionSuits m f
    function_suits n f is =
        let p = function_parts n f is in
        let form = formed n f is in
        record {
          name = p.name;
          parameters = leb-true f.params (length f.locals) (and_left (nat_le f.params (length f.locals)) _ (and_right (is_none f.class) _ form.0));
          identifiers = and_left _ _ (and_left _ _ p.variables);
          differ = sym (one_test (names_of f.locals)) ∙ and_right _ _ (and_left _ _ p.variables);
          body = suite_suits m f.locals (init_class f) (all_signed f.locals (init_class f)) (and_right _ _ p.variables) (and_right _ _ globals_typed) (Some f.ret) [] false false f.body p.body form.1;
        }

    module_suits : suite_forms m.top ≡ [] → ModuleSuits m
    module_suits top =
        let six = and_left _ _ typed in
        let two = and_left _ _ (and_left _ _ (and_left _ _ (and_left _ _ six))) in
        let others = names_of m.globals in
        let functions = flat_map (own_name is_identifier m) m.funcs in
        let classes = map (λ (c : ClassEntry). c.name) m.classes.classes in
        record {
          well_typed = typed;
          functions = function_suits;
          differ =
              sym (one_test (map (λ (f : TypedFunc). f.name) m.funcs))
              ∙ subst (λ l. all_differ l ≡ true) (all_named m.funcs no_method) (differ_left functions classes (differ_right others (functions ++ classes) (and_right _ _ two)));
          identifiers = and_left _ _ (and_left _ _ globals_typed);
          globals_differ = sym (one_test others) ∙ and_right _ _ (and_left _ _ globals_typed);
          top = suite_suits m [] None (all_signed [] None) refl (and_right _ _ globals_typed) None [] false false m.top (and_right _ _ typed) top;
        }

pub compiled_suits : CompiledSuits
compiled_suits tree m typed none =
    let behind = none_right (flat_map class_form (suite_definitions tree)) _ (no_form _ none) in
    module_suits m _ typed (none_right (suite_forms m.top) _ behind) (none_left (suite_forms m.top) _ behind)

-- The names of variables and of functions of a tree that passes.
use Rattle.std.proofs.Common.{◌≡◌, ℕ, Bool, true, false, ◌&&◌, cond, List, [], ◌∷◌, ◌++◌, map, filter, Option, Some, None, refl, sym, subst, if◌then◌else◌, ◌⊎◌, inl, inr, not, bytes_eq}
use Rattle.std.proofs.lemmas.Bool.{and_from, or_cases}
use Rattle.std.proofs.lemmas.Slice.Eq.{bytes_eq-Decides}
use Rattle.std.specs.List.{list_all, AllByRecursion}
use Rattle.std.specs.Map.{lookup}
use Rattle.py_syntax.specs.Expressions.{ExprTree}
use Rattle.py_syntax.specs.Statements.{Suite, FuncTree}
use Rattle.py_binder.specs.declared.sight.Home.TheVariants.{InModule, InFunction}
use Rattle.py_binder.specs.declared.scope.Role.{Role}
use Rattle.py_binder.specs.declared.scope.Role.TheVariants as role
use Rattle.py_binder.specs.Sights.{Use, Binds, Defines, Holds, Sight, module_sights, body_sights}
use Rattle.py_binder.specs.Scope.{contains, is_builtin, bound_there, listed_there, held_there, said_there, seen_there, all_there, Roles, said_or_variable, module_role, is_variable, param_names, function_role, first_sights, scope_of, module_scope, function_scope, functions}
use Rattle.py_check_names.specs.Meanings.{is_own, names_of, variables, own_names}
use Rattle.py_parser_laws.specs.Trees.{Tests, ParamsPass, SuitePasses, FunctionPasses}
use Rattle.py_check_names_laws.specs.Laws.{VariablesPassAsTrees, FunctionsPassAsTrees, OwnNamesPass}
use Rattle.py_check_names_laws.proofs.Seen.{UsePasses, SightsPass, suite_pass}

clash : (b : Bool) {A : Type 0} → b ≡ true → b ≡ false → A
clash b h k = absurd (cc)

-- ---- rows

append_all : {A : Type 0} (P : A → Type 0) (xs ys : List A) → AllByRecursion P xs → AllByRecursion P ys → AllByRecursion P (xs ++ ys)
append_all P [] ys h k = k
append_all P (x ∷ xs) ys h k = (h.0, append_all P xs ys h.1 k)

filter_all : {A : Type 0} (P : A → Type 0) (p : A → Bool) (xs : List A) → AllByRecursion P xs → AllByRecursion P (filter p xs)
filter_all P p [] h = tt
filter_all P p (x ∷ xs) h = by (p x) (filter_all P p xs h.1)
  where
    by : (b : Bool) → AllByRecursion P (filter p xs) → AllByRecursion P (cond b (x ∷ filter p xs) (filter p xs))
    by true k = (h.0, k)
    by false k = k

firsts_all : (P : List ℕ → Type 0) (xs : List (List ℕ)) → AllByRecursion P xs → AllByRecursion P (first_sights xs)
firsts_all P [] h = tt
firsts_all P (x ∷ xs) h = (h.0, filter_all P (λ other. not (bytes_eq other x)) (first_sights xs) (firsts_all P xs h.1))

member_all : (P : List ℕ → Type 0) (names : List (List ℕ)) (x : List ℕ) → AllByRecursion P names → contains names x ≡ true → P x
member_all P [] x h k = absurd (cc)
member_all P (n ∷ names) x h k = by (or_cases (bytes_eq x n) (contains names x) k) (member_all P names x h.1)
  where
    by : (bytes_eq x n ≡ true) ⊎ (contains names x ≡ true) → (contains names x ≡ true → P x) → P x
    by (inl q) next = subst P (sym ((bytes_eq-Decides x n).0 q)) h.0
    by (inr q) next = next q

found_all : {A : Type 0} (P : A → Type 0) (test : List ℕ → Bool) (l : List (List ℕ × A)) (a : A) → AllByRecursion (λ x. P x.1) l → lookup test l ≡ Some a → P a
found_all P test [] a h k = absurd (cc)
found_all {A = A} P test (x ∷ l) a h k = by (test x.0) k (found_all P test l a h.1)
  where
    by : (b : Bool) → cond b (Some x.1) (lookup test l) ≡ Some a → (lookup test l ≡ Some a → P a) → P a
    by true q next = let same : x.1 ≡ a = cc in subst P same h.0
    by false q next = next q

-- the names of a kind are of that kind
kind_all : (kind : Role → Bool) (roles : Roles) (ns : List (List ℕ)) → AllByRecursion (λ x. kind (roles x) ≡ true) (map (λ (p : List ℕ × Role). p.0) (filter (λ (p : List ℕ × Role). kind p.1) (map (λ n. (n, roles n)) ns)))
kind_all kind roles [] = tt
kind_all kind roles (n ∷ ns) = by (kind (roles n)) refl (kind_all kind roles ns)
  where
    left : List (List ℕ × Role)
    left = filter (λ (p : List ℕ × Role). kind p.1) (map (λ n. (n, roles n)) ns)

    by : (b : Bool) → kind (roles n) ≡ b → AllByRecursion (λ x. kind (roles x) ≡ true) (map (λ (p : List ℕ × Role). p.0) left) → AllByRecursion (λ x. kind (roles x) ≡ true) (map (λ (p : List ℕ × Role). p.0) (cond b ((n, roles n) ∷ left) left))
    by true q k = (q, k)
    by false q k = k

names_all : (kind : Role → Bool) (roles : Roles) (seen : List (List ℕ)) → AllByRecursion (λ x. kind (roles x) ≡ true) (names_of kind (scope_of roles seen).names)
names_all kind roles seen =
    firsts_all (λ x. kind (roles x) ≡ true) (map (λ (p : List ℕ × Role). p.0) (filter (λ (p : List ℕ × Role). kind p.1) (map (λ n. (n, roles n)) (first_sights seen)))) (kind_all kind roles (first_sights seen))

tested : (p : List ℕ → Bool) (P : List ℕ → Type 0) → ((x : List ℕ) → P x → p x ≡ true) → (xs : List (List ℕ)) → AllByRecursion P xs → list_all p xs ≡ true
tested p P to [] h = refl
tested p P to (x ∷ xs) h = and_from (p x) (list_all p xs) (to x h.0) (tested p P to xs h.1)

module _ (tests : Tests) where
  abbrev NamePasses : List ℕ → Type 0
  NamePasses name = tests.name name ≡ true

  abbrev SaidPasses : List ℕ × Role → Type 0
  SaidPasses p = (is_variable p.1 ≡ false) × (is_own p.1 ≡ false)

  -- ---- what is collected of sights

  use_bound : (u : Use) → UsePasses tests u → AllByRecursion NamePasses (bound_there u)
  use_bound (Binds name) h = (h, tt)
  use_bound _ h = tt

  use_held : (u : Use) → UsePasses tests u → AllByRecursion (FunctionPasses tests) (held_there u)
  use_held (Holds f) h = (h, tt)
  use_held _ h = tt

  use_said : (u : Use) → UsePasses tests u → AllByRecursion SaidPasses (said_there u)
  use_said (Defines r name) h = (h, tt)
  use_said _ h = tt

  all_pass : {A : Type 0} (there : Use → List A) (P : A → Type 0) → ((u : Use) → UsePasses tests u → AllByRecursion P (there u)) → (sights : List Sight) → SightsPass tests sights → AllByRecursion P (all_there there sights)
  all_pass there P one [] h = tt
  all_pass there P one (x ∷ sights) h = append_all P (there x.does) (all_there there sights) (one x.does h.0) (all_pass there P one sights h.1)

  -- ---- the module

  module _ (m : Suite) (passes : SuitePasses tests m) where
    seen : SightsPass tests (module_sights m)
    seen = suite_pass tests InModule m passes

    abbrev said : List (List ℕ × Role)
    said = all_there said_there (module_sights m)

    abbrev bound : List (List ℕ)
    bound = all_there bound_there (module_sights m)

    said_passes : (x : List ℕ) (r : Role) → lookup (bytes_eq x) said ≡ Some r → (is_variable r ≡ false) × (is_own r ≡ false)
    said_passes x r e = found_all (λ (z : Role). (is_variable z ≡ false) × (is_own z ≡ false)) (bytes_eq x) said r (all_pass said_there SaidPasses use_said (module_sights m) seen) e

    variable_passes : (x : List ℕ) → is_variable (module_role m x) ≡ true → tests.name x ≡ true
    variable_passes x h = by (is_builtin x) (lookup (bytes_eq x) said) refl (contains bound x) refl h
      where
        by : (a : Bool) (o : Option Role) → lookup (bytes_eq x) said ≡ o → (c : Bool) → contains bound x ≡ c → is_variable (if a then role.Builtin else said_or_variable o c) ≡ true → tests.name x ≡ true
        by true o p c q k = absurd (cc)
        by false (Some r) p c q k = clash (is_variable r) k (said_passes x r p).0
        by false None p true q k = member_all NamePasses bound x (all_pass bound_there NamePasses use_bound (module_sights m) seen) q
        by false None p false q k = absurd (cc)

    no_own : (x : List ℕ) → is_own (module_role m x) ≡ false
    no_own x = by (is_builtin x) (lookup (bytes_eq x) said) refl (contains bound x)
      where
        by : (a : Bool) (o : Option Role) → lookup (bytes_eq x) said ≡ o → (c : Bool) → is_own (if a then role.Builtin else said_or_variable o c) ≡ false
        by true o p c = refl
        by false (Some r) p c = (said_passes x r p).1
        by false None p true = refl
        by false None p false = refl

    module_variables : list_all tests.name (variables (module_scope m)) ≡ true
    module_variables = tested tests.name (λ x. is_variable (module_role m x) ≡ true) variable_passes (variables (module_scope m)) (names_all is_variable (module_role m) (all_there seen_there (module_sights m)))

    -- ---- a function

    params_all : (params : List (List ℕ × Option ExprTree)) → ParamsPass tests params → AllByRecursion NamePasses (map (λ p. p.0) params)
    params_all [] h = tt
    params_all (p ∷ params) h = (h.0, params_all params h.1)

    own_passes : (f : FuncTree) → FunctionPasses tests f → (x : List ℕ) → is_own (function_role (module_role m) f x) ≡ true → tests.name x ≡ true
    own_passes f h x k = by (is_builtin x) (contains (param_names f) x) refl (contains (all_there listed_there (body_sights f)) x && is_variable (module_role m x)) (contains (all_there bound_there (body_sights f)) x) refl k
      where
        by : (a b : Bool) → contains (param_names f) x ≡ b → (c d : Bool) → contains (all_there bound_there (body_sights f)) x ≡ d → is_own (if a then role.Builtin else (if b then role.Param else (if c then role.GlobalVar else (if d then role.Local else module_role m x)))) ≡ true → tests.name x ≡ true
        by true b p c d q g = absurd (cc)
        by false true p c d q g = member_all NamePasses (param_names f) x (params_all f.params h.1) p
        by false false p true d q g = absurd (cc)
        by false false p false true q g = member_all NamePasses (all_there bound_there (body_sights f)) x (all_pass bound_there NamePasses use_bound (body_sights f) (suite_pass tests InFunction f.body h.3)) q
        by false false p false false q g = clash (is_own (module_role m x)) g (no_own x)

    own_names_pass : (f : FuncTree) → FunctionPasses tests f → list_all tests.name (own_names (function_scope (module_role m) f)) ≡ true
    own_names_pass f h =
        tested tests.name (λ x. is_own (function_role (module_role m) f x) ≡ true) (own_passes f h) (own_names (function_scope (module_role m) f)) (names_all is_own (function_role (module_role m) f) (param_names f ++ all_there seen_there (body_sights f)))

    each_function : (fs : List FuncTree) → AllByRecursion (FunctionPasses tests) fs → AllByRecursion (OwnNamesPass tests (module_role m)) fs
    each_function [] h = tt
    each_function (f ∷ fs) h = ((h.0, own_names_pass f h.0), each_function fs h.1)

    module_functions : AllByRecursion (OwnNamesPass tests (module_role m)) (functions m)
    module_functions = each_function (functions m) (all_pass held_there (FunctionPasses tests) use_held (module_sights m) seen)

pub variables_pass : VariablesPassAsTrees
variables_pass tests m h = module_variables tests m h

pub functions_pass : FunctionsPassAsTrees
functions_pass tests m h = module_functions tests m h

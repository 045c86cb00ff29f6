-- Behind its own statements each variable of a module has a type, or has none for good; so no body of a function changes one.
use Rattle.std.proofs.Common.{◌≡◌, ℕ, zero, suc, ◌<◌, false, List, [], ◌∷◌, length, slice_get, Some, true, refl, ap, ap₂, sym, ◌∙◌, subst, lt-ltb, arith}
use Rattle.std.proofs.lemmas.List.{length-map}
use Rattle.std.proofs.lemmas.Option.{slice_get_within}
use Rattle.py_syntax.specs.Statements.{Suite}
use Rattle.py_binder.specs.declared.sight.Home.TheVariants.{InModule}
use Rattle.py_binder.specs.Sights.{module_sights}
use Rattle.py_binder.specs.Scope.{contains, all_there, seen_there, Roles, is_variable, module_role, first_sights, module_scope}
use Rattle.py_binder.specs.declared.scope.Scope.{Scope}
use Rattle.py_typed.specs.WellTyped.{all_differ}
use Rattle.py_check_context.specs.declared.scope.Meaning.TheVariants as meaning
use Rattle.py_check_context.specs.Context.{Context, VarSort, var_at}
use Rattle.py_check_flow.specs.Bindings.{Binding, bound_names, suite_bindings}
use Rattle.py_check_names.specs.Meanings.{variables, own_names, number}
use Rattle.py_check_places.specs.Places.{Known, is_unset}
use Rattle.py_check_statements.specs.Bodies.{block_after}
use Rattle.py_check_definitions.specs.Definitions.{Headed}
use Rattle.py_check_definitions.specs.Starts.{start_sort}
use Rattle.py_check.specs.Module.{ModuleContext, context_in, module_start, fixed_sorts, function_start, body_after}
use Rattle.py_check.specs.Fixed.{AreFixed, is_there}
use Rattle.py_check.proofs.Kept.{follows_block, is_open}
use Rattle.py_check.proofs.Sights.{suite_binds, names_of}
use Rattle.py_check.proofs.NameRows.{filtered, sights_differ, differ_filter, scope_names, number_at, at_place}
use Rattle.py_check.proofs.Roles.{seen_means, variable_bound, global_by}
use Rattle.py_check.proofs.Fixed.{set_block}

pub names_same : (bs : List Binding) → names_of bs ≡ bound_names bs
names_same [] = refl
names_same (b ∷ bs) = ap (λ (l : List (List ℕ)). b.name ∷ l) (names_same bs)

-- ---- the variables of a module

-- at each place in a row stands something
pub there : {A : Type 0} (l : List A) (i : ℕ) → i < length l → (x : A) × (slice_get l i ≡ Some x)
there [] i h = absurd (omega arith)
there (x ∷ l) zero h = (x, refl)
there (x ∷ l) (suc i) h = there l i (omega arith)

module _ (e : ModuleContext) (m : Suite) (same : e.variables ≡ variables (module_scope m)) where
  abbrev vs : List (List ℕ)
  vs = variables (module_scope m)

  abbrev roles : Roles
  roles = module_role m

  abbrev sights : List (List ℕ)
  sights = all_there seen_there (module_sights m)

  abbrev here : Context
  here = context_in e (module_scope m)

  abbrev start : Known
  start = module_start here e.variables m

  abbrev last : Known
  last = block_after here start m

  pub variables_differ : all_differ vs ≡ true
  variables_differ = ap all_differ (scope_names is_variable roles sights) ∙ differ_filter (λ y. is_variable (roles y)) (first_sights sights) (sights_differ sights)

  -- what stands at a number is a variable, and is seen
  variable_at : (i : ℕ) (x : List ℕ) → slice_get vs i ≡ Some x → (is_variable (roles x) ≡ true) × (contains (first_sights sights) x ≡ true)
  variable_at i x at = filtered (λ y. is_variable (roles y)) (first_sights sights) x (sym (ap (λ (l : List (List ℕ)). contains l x) (scope_names is_variable roles sights)) ∙ at_place vs i x at)

  means_it : (i : ℕ) (x : List ℕ) → slice_get vs i ≡ Some x → here.meaning x ≡ meaning.Global i
  means_it i x at =
      let r = variable_at i x at in
      seen_means e.said e.variables roles sights x r.1 ∙ global_by e.variables (own_names (module_scope m)) e.said x (roles x) r.0 ∙ ap (λ l. meaning.Global (number l x)) same ∙ ap meaning.Global (number_at vs i x variables_differ at)

  -- it has as many types as names
  pub many : length last.types.globals ≡ length vs
  many = (follows_block here start m).globals.size ∙ length-map e.variables (start_sort here.meaning (suite_bindings m)) ∙ ap length same

  there_it : (i : ℕ) (x : List ℕ) → slice_get vs i ≡ Some x → is_there start.types (here.meaning x) ≡ true
  there_it i x at =
      ap (is_there start.types) (means_it i x at)
      ∙ lt-ltb i (length start.types.globals) (subst (λ n. i < n) (sym (length-map e.variables (start_sort here.meaning (suite_bindings m)) ∙ ap length same)) (slice_get_within vs i x at))

  pub module_fixes : (i : ℕ) (x : List ℕ) → slice_get vs i ≡ Some x → is_unset (var_at (fixed_sorts here e.variables m) i) ≡ false
  module_fixes i x at =
      let bound : contains (bound_names (suite_bindings m)) x ≡ true =
      sym (ap (λ (l : List (List ℕ)). contains l x) (suite_binds InModule m ∙ names_same (suite_bindings m))) ∙ variable_bound m x (variable_at i x at).0 in
      ap (is_open last.types) (sym (means_it i x at)) ∙ set_block here x start m (there_it i x at) bound

  -- EACH VARIABLE of it is fixed
  pub all_fixed : AreFixed (fixed_sorts here e.variables m)
  all_fixed i h = let x = there vs i (subst (λ n. i < n) many h) in module_fixes i x.0 x.1

-- in the scope that binding found for it
pub module_fixed : (e : ModuleContext) (top : Scope) (m : Suite) → e.variables ≡ variables top → top ≡ module_scope m → AreFixed (fixed_sorts (context_in e top) e.variables m)
module_fixed e top m names bound =
    let P : Scope → Type 0 = λ s. AreFixed (fixed_sorts (context_in e s) e.variables m) in
    subst P (sym bound) (all_fixed e m (names ∙ ap variables bound))

-- ---- the bodies of functions

first_less : (n : ℕ) → zero < suc n
first_less n = omega arith

next_less : (i n : ℕ) → i < n → suc i < suc n
next_less i n h = omega arith

one_less : (a b : ℕ) → suc a ≡ suc b → a ≡ b
one_less a b h = omega arith

never_none : (n : ℕ) → suc n ≡ zero → ⊥
never_none n h = omega arith

-- rows of one length that have the same at each place
same_row : (xs ys : List VarSort) → length ys ≡ length xs → ((i : ℕ) → i < length xs → var_at ys i ≡ var_at xs i) → ys ≡ xs
same_row [] [] q h = refl
same_row [] (y ∷ ys) q h = absurd (never_none (length ys) q)
same_row (x ∷ xs) [] q h = absurd (never_none (length xs) (sym q))
same_row (x ∷ xs) (y ∷ ys) q h =
    ap₂ (λ (v : VarSort) (l : List VarSort). v ∷ l) (h zero (first_less (length xs)))
    (same_row xs ys (one_less (length ys) (length xs) q) (λ i g. h (suc i) (next_less i (length xs) g)))

-- A BODY changes no type of a variable of the module
pub body_keeps : (c : Context) (names : List (List ℕ)) (sorts : List VarSort) (f : Headed) → AreFixed sorts → (body_after c names sorts f).types.globals ≡ sorts
body_keeps c names sorts f fixed =
    let k = (follows_block c (function_start c names sorts f) f.tree.body).globals in
    same_row sorts (body_after c names sorts f).types.globals k.size (λ i h. k.stays i (fixed i h))

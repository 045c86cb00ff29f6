-- Where nothing is said of a module, each of its variables and of its functions' has a type.
use Rattle.std.proofs.Common.{◌≡◌, ℕ, suc, ◌+◌, ◌<◌, true, false, List, [], ◌∷◌, ◌++◌, length, map, slice_get, Option, Some, None, refl, ap, sym, ◌∙◌, arith, ◌⊎◌, inl, inr}
use Rattle.std.proofs.lemmas.Bool.{and_from}
use Rattle.std.proofs.lemmas.List.{length-map}
use Rattle.std.specs.Prelude.{is_some}
use Rattle.std.specs.Str.{bytes_eq}
use Rattle.py_syntax.specs.Expressions.{ExprTree}
use Rattle.py_syntax.specs.Statements.{Suite, FuncTree}
use Rattle.py_binder.specs.declared.sight.Home.TheVariants.{InModule, InFunction}
use Rattle.py_binder.specs.Sights.{module_sights, body_sights}
use Rattle.py_binder.specs.Faults.{function_faults}
use Rattle.py_binder.specs.Scope.{contains, all_there, bound_there, seen_there, Roles, param_names, module_role, function_role, first_sights, module_scope}
use Rattle.py_typed.specs.Sorts.{Sort}
use Rattle.py_check_context.specs.declared.scope.Meaning.{Meaning}
use Rattle.py_check_context.specs.declared.scope.Meaning.TheVariants as meaning
use Rattle.py_check_context.specs.Context.{Context, VarSort, unset, untyped, has, var_at}
use Rattle.py_check_flow.specs.Bindings.{suite_bindings}
use Rattle.py_check_annotations.specs.Names.{is_untyped}
use Rattle.py_check_signatures.specs.declared.headers.Owner.{Owner}
use Rattle.py_check_signatures.specs.declared.headers.Owner.TheVariants as owner
use Rattle.py_check_signatures.specs.Headers.{param_types, marked}
use Rattle.py_check_names.specs.Meanings.{is_own, own_names}
use Rattle.py_check_places.specs.Places.{Known, is_unset}
use Rattle.py_check_statements.specs.Bodies.{nothing_around, block_after}
use Rattle.py_check_values.specs.Returns as ret
use Rattle.py_check_definitions.specs.Definitions.{Headed, headed, headed_functions}
use Rattle.py_check_definitions.specs.Starts.{given_sort, start_sort, or_param, own_sort}
use Rattle.py_check.specs.Module.{ModuleContext, function_context, function_start, module_start, body, body_after, bodies_said, module_context, said}
use Rattle.py_check_expressions_laws.specs.Laws as law
use Rattle.py_check_expressions_laws.proofs.Loud.{none_before, none_behind}
use Rattle.py_check_laws.specs.WellTyped.{IsScope}
use Rattle.py_check_laws.specs.Modules.{has_type, all_have_types, are_own_typed, are_variables_typed}
use Rattle.py_check.proofs.NameRows.{scope_names}
use Rattle.py_check.proofs.Kept.{Kept, Follows, follows_block, is_open}
use Rattle.py_check.proofs.Sights.{suite_binds}
use Rattle.py_check_laws.proofs.Closed.{scope_there, mapped_at}
use Rattle.py_check.proofs.Fixed.{set_block}
use Rattle.py_check_laws.proofs.Owned.{filter_none, param_or_bound, param_found, own_means, scope_is}
use Rattle.py_check.proofs.Bindings.{names_same, module_fixes, there}
use Rattle.py_check_laws.proofs.Meant.{Fine, function_fine, module_own}
use Rattle.py_check_definitions.specs.Names.{known_in, module_meaning}
use Rattle.py_check_laws.proofs.Signed.{HasTypes, IsSigned, AllSigned}
use Rattle.py_check_laws.proofs.Bodied.{param_there, body_typed}
use Rattle.py_check_laws.proofs.KnownParts.{AreKnown}
use Rattle.py_check_laws.proofs.Whole.{InReach, quiet_block}
use Rattle.py_check_laws.proofs.Quieted as quiet
use Rattle.py_check_laws.proofs.Modules as whole
use Rattle.py_check_laws.proofs.Methods.{types_many}

-- ---- single variables

pub has_by : (v : VarSort) → is_unset v ≡ false → law.is_untyped v ≡ false → has_type v ≡ true
has_by unset h g = absurd (cc)
has_by untyped h g = absurd (cc)
has_by (has t) h g = refl

pub set_by : (v : VarSort) → has_type v ≡ true → is_unset v ≡ false
set_by (has t) h = refl
set_by _ h = absurd (cc)

given_has : (o : Option Sort) → is_some o ≡ true → has_type (given_sort o) ≡ true
given_has None h = absurd (cc)
given_has (Some t) h = refl

pub all_have_by : (types : List VarSort) (i : ℕ) (names : List (List ℕ)) → ((j : ℕ) → j < i + length names → has_type (var_at types j) ≡ true) → all_have_types types i names ≡ true
all_have_by types i [] h = refl
all_have_by types i (x ∷ names) h = and_from (has_type (var_at types i)) (all_have_types types (suc i) names) (h i (first_less i (length names))) (all_have_by types (suc i) names (λ j g. h j (less_on j i (length names) g)))
  where
    first_less : (i n : ℕ) → i < i + suc n
    first_less i n = omega arith

    less_on : (j i n : ℕ) → j < suc i + n → j < i + suc n
    less_on j i n g = omega arith

-- a variable that has a type keeps it
pub kept_has : (xs ys : List VarSort) → Kept xs ys → (i : ℕ) → has_type (var_at xs i) ≡ true → has_type (var_at ys i) ≡ true
kept_has xs ys k i h = ap has_type (k.stays i (set_by (var_at xs i) h)) ∙ h

-- ---- functions

module _ (e : ModuleContext) (roles : Roles) (meanings : List ℕ → Meaning) (all : (x : List ℕ) → is_untyped (meanings x) ≡ false) (reach : (p : FuncTree × Owner) → IsSigned meanings all roles p → InReach (function_context e (headed roles meanings p)))
    (inner : (p : FuncTree × Owner) (x : List ℕ) → is_untyped ((function_context e (headed roles meanings p)).meaning x) ≡ false) (known : (p : FuncTree × Owner) → function_faults roles p.0 ≡ [] → AreKnown (function_context e (headed roles meanings p)).meaning (body_sights p.0)) (n : ℕ) (fine : Fine e.said e.variables n roles)
    (others : (x : List ℕ) → is_own (roles x) ≡ false) where
  module _ (p : FuncTree × Owner) (sorts : List VarSort) where
    abbrev f : FuncTree
    f = p.0

    abbrev hd : Headed
    hd = headed roles meanings p

    abbrev C : Context
    C = function_context e hd

    abbrev start : Known
    start = function_start C e.variables sorts hd

    abbrev end : Known
    end = body_after C e.variables sorts hd

    abbrev seen : List (List ℕ)
    seen = param_names f ++ all_there seen_there (body_sights f)

    abbrev own : List (List ℕ)
    own = own_names hd.inside

    abbrev of_own : List ℕ → VarSort
    of_own = own_sort C.meaning (suite_bindings f.body) (param_names f) hd.header.params

    scope : length sorts ≡ length e.variables → IsScope C start.types
    scope q = scope_is e.said e.variables n (function_role roles f) (function_fine e.said e.variables n roles fine f) seen C start.types (length-map own of_own) q

    follows : Follows start.types end.types
    follows = follows_block C start f.body

    params_many : length hd.header.params ≡ length (param_names f)
    params_many = types_many p.1 (param_types meanings f.params) ∙ length-map f.params (λ (x : List ℕ × Option ExprTree). (marked meanings x.1).got) ∙ sym (length-map f.params (λ (x : List ℕ × Option ExprTree). x.0))

    param_has : HasTypes hd.header → (x : List ℕ) → contains (param_names f) x ≡ true → has_type (of_own x) ≡ true
    param_has types x h =
        let r = param_found (param_names f) hd.header.params x params_many h in
        ap (λ o. has_type (or_param o (start_sort C.meaning (suite_bindings f.body) x))) r.1 ∙ given_has r.0 (param_there (bytes_eq x) (param_names f) hd.header.params types.params r.0 r.1)

    open_has : (i : ℕ) → is_open end.types (meaning.Local i) ≡ false → law.is_untyped (var_at end.types.locals i) ≡ false → has_type (var_at end.types.locals i) ≡ true
    open_has i h g = has_by (var_at end.types.locals i) h g

    own_has : length sorts ≡ length e.variables → HasTypes hd.header → ((i : ℕ) → law.is_untyped (var_at end.types.locals i) ≡ false) → (i : ℕ) → i < length own → has_type (var_at end.types.locals i) ≡ true
    own_has q types typed i h =
        let x = there own i h in
        let m = own_means e.said e.variables n (function_role roles f) (function_fine e.said e.variables n roles fine f) seen i x.0 x.1 in
        by x.0 x.1 m.0 (param_or_bound f roles others x.0 m.1)
      where
        by : (x : List ℕ) → slice_get own i ≡ Some x → C.meaning x ≡ meaning.Local i → (contains (param_names f) x ≡ true) ⊎ (contains (all_there bound_there (body_sights f)) x ≡ true) → has_type (var_at end.types.locals i) ≡ true
        by x g r (inl b) = kept_has start.types.locals end.types.locals follows.locals i (ap has_type (mapped_at of_own own i x g) ∙ param_has types x b)
        by x g r (inr b) =
            open_has i (ap (is_open end.types) (sym r) ∙ set_block C x start f.body (scope_there C start.types (scope q) x) (sym (ap (λ l. contains l x) (suite_binds InFunction f.body ∙ names_same (suite_bindings f.body))) ∙ b)) (typed i)

    function_has : length sorts ≡ length e.variables → HasTypes hd.header → ((i : ℕ) → law.is_untyped (var_at end.types.locals i) ≡ false) → (body C e.variables sorts hd).said ≡ [] → all_have_types end.types.locals 0 own ≡ true
    function_has q types typed h = all_have_by end.types.locals 0 own (λ j g. own_has q types typed j (from_zero j (length own) g))
      where
        from_zero : (j n : ℕ) → j < 0 + n → j < n
        from_zero j n g = omega arith

  -- and of all functions
  pub functions_have : (sorts : List VarSort) → length sorts ≡ length e.variables → ((i : ℕ) → law.is_untyped (var_at sorts i) ≡ false) → (ps : List (FuncTree × Owner)) → AllSigned meanings all roles ps → bodies_said e sorts (map (headed roles meanings) ps) ≡ [] → are_own_typed e sorts (map (headed roles meanings) ps) ≡ true
  functions_have sorts q before [] a h = refl
  functions_have sorts q before (p ∷ ps) a h =
      let hf = headed roles meanings p in
      let one = body (function_context e hf) e.variables sorts hf in
      let more = bodies_said e sorts (map (headed roles meanings) ps) in
      let quiet = none_before one.said more h in
      let b = body_typed e sorts hf (reach p a.here) (inner p) (known p a.here.names) a.here.types before quiet in
      and_from (all_have_types (end p sorts).types.locals 0 (own_names hf.inside)) (are_own_typed e sorts (map (headed roles meanings) ps)) (function_has p sorts q a.here.types b.locals quiet)
      (functions_have sorts q before ps a.rest (none_behind one.said more h))

-- ---- the whole

-- where the members of classes have types wherever they are in reach
module _ (m : Suite) (nothing : said m ≡ []) (reach : InReach (quiet.top m nothing)) (inner_reach : (p : FuncTree × Owner) → IsSigned (quiet.meant m nothing) (quiet.typed_names m nothing) (module_role m) p → InReach (quiet.inside m nothing p)) where
  abbrev e : ModuleContext
  e = module_context m

  abbrev roles : Roles
  roles = module_role m

  abbrev here : Context
  here = quiet.top m nothing

  abbrev first : Known
  first = module_start here e.variables m

  abbrev last : Known
  last = block_after here first m

  abbrev sights : List (List ℕ)
  sights = all_there seen_there (module_sights m)

  abbrev size : ℕ
  size = quiet.n m nothing

  pub own_none : (x : List ℕ) → is_own (roles x) ≡ false
  own_none = module_own m size (quiet.right m nothing) (quiet.count m nothing) (quiet.typed_classes m nothing)

  pub none_own : own_names (module_scope m) ≡ []
  none_own = scope_names is_own roles sights ∙ filter_none (λ y. is_own (roles y)) own_none (first_sights sights)

  pub top_scope : IsScope here first.types
  top_scope = scope_is (known_in m) e.variables size roles (quiet.fine m nothing) sights here first.types (sym (ap length none_own)) (length-map e.variables (start_sort (module_meaning m) (suite_bindings m)))

  pub top_typed : (i : ℕ) → law.is_untyped (var_at last.types.globals i) ≡ false
  top_typed = (quiet_block here reach ret.outside refl InModule nothing_around first (whole.start_all m nothing reach inner_reach) m (quiet.top_known m nothing) (quiet.own_quiet m nothing)).globals

  pub top_size : length last.types.globals ≡ length e.variables
  top_size = (follows_block here first m).globals.size ∙ length-map e.variables (start_sort (module_meaning m) (suite_bindings m))

  pub global_has : (i : ℕ) → i < length e.variables → has_type (var_at last.types.globals i) ≡ true
  global_has i h = let x = there e.variables i h in has_by (var_at last.types.globals i) (module_fixes (module_context m) m refl i x.0 x.1) (top_typed i)

  -- EACH VARIABLE has a type
  pub variables_typed : are_variables_typed m ≡ true
  variables_typed =
      let sorts = last.types.globals in
      let all = functions_have e roles (module_meaning m) (quiet.typed_names m nothing) inner_reach (quiet.inner_typed m nothing) (quiet.inner_known m nothing) size (quiet.fine m nothing) own_none sorts top_size top_typed (quiet.pairs m nothing) (quiet.all_functions m nothing) (quiet.bodies_quiet m nothing) in
      and_from (all_have_types sorts 0 e.variables) (are_own_typed e sorts (headed_functions m)) (all_have_by sorts 0 e.variables (λ j g. global_has j (from_zero j (length e.variables) g))) all
    where
      from_zero : (j n : ℕ) → j < 0 + n → j < n
      from_zero j n g = omega arith

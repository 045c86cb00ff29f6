-- Functions of a module of which nothing is said have the parts that their definitions ask for.
use Rattle.std.proofs.Common.{◌≡◌, ℕ, zero, suc, ◌+◌, ◌<◌, ◌≤◌, Bool, true, false, not, ◌&&◌, ◌||◌, cond, List, [], ◌∷◌, ◌++◌, length, map, filter, take, slice_get, nat_lt, Option, Some, None, refl, ap, ap₂, sym, ◌∙◌, subst, if◌then◌else◌, length-append, lt-ltb, arith, ◌⊎◌, inl, inr}
use Rattle.std.proofs.lemmas.Bool.{and_from, or_cases, or_left, or_right, ltb-false}
use Rattle.std.proofs.lemmas.List.{length-map}
use Rattle.std.proofs.lemmas.List.Sums.{length-filter}
use Rattle.std.proofs.lemmas.Option.{same_Some}
use Rattle.std.specs.Prelude.{is_some, find}
use Rattle.std.specs.List.{list_all, zip}
use Rattle.std.specs.Map.{lookup}
use Rattle.std.specs.Option.{option_or, option_map, option_zip}
use Rattle.std.specs.Str.{bytes_eq}
use Rattle.value_core.specs.declared.exception.ExcClass.{ExcClass}
use Rattle.value_core.specs.Exceptions.{class_named}
use Rattle.py_syntax.specs.Expressions.{ExprTree}
use Rattle.py_syntax.specs.Statements as s
use Rattle.py_syntax.specs.Statements.{StmtTree, Suite, FuncTree}
use Rattle.py_binder.specs.declared.scope.Role.{Role}
use Rattle.py_binder.specs.declared.scope.Role.TheVariants as role
use Rattle.py_binder.specs.Sights.{body_sights}
use Rattle.py_binder.specs.Scope.{contains, is_builtin, bound_there, listed_there, seen_there, all_there, Roles, is_variable, param_names, function_role, function_scope, first_sights}
use Rattle.py_typed.specs.Sorts as sort
use Rattle.py_typed.specs.Sorts.{Sort, sorts_of}
use Rattle.py_typed.specs.Statements.{TypedStmt, suite_of}
use Rattle.py_typed.specs.WellTypedExpr.{is_value_type}
use Rattle.py_typed.specs.WellTyped.{all_differ, has_statement}
use Rattle.py_typed.specs.WellTypedModule.{names_of, types_in, same_row}
use Rattle.py_typed.proofs.FitLemmas.{type_is_itself, and_left, and_right}
use Rattle.py_check_context.specs.declared.scope.Meaning.{Meaning}
use Rattle.py_check_context.specs.Context.{Context, VarSort, has, var_at}
use Rattle.py_check_values.specs.Returns.{ReturnSort}
use Rattle.py_check_messages.specs.Rows.{row_then}
use Rattle.py_check_places.specs.Places.{Known}
use Rattle.py_check_statements.specs.declared.bodies.Around.{Around}
use Rattle.py_check_statements.specs.Bodies.{is_definition, after, statement, block}
use Rattle.py_check_names.specs.Builtins as names
use Rattle.py_check_names.specs.Builtins.{exception_meaning}
use Rattle.py_check_names.specs.Meanings.{is_own, own_names}
use Rattle.py_check_names.specs.Outline.{stmt_definitions, suite_definitions}
use Rattle.py_check_signatures.specs.Headers.{all_of}
use Rattle.py_check_signatures.specs.Definitions.{own_count, repeated, is_builtin_name}
use Rattle.py_check_definitions.specs.Starts.{given_sort, or_param, param_sort}
use Rattle.py_check_definitions.specs.Variables.{sort_or_none, variables_from}
use Rattle.py_check_expressions_laws.proofs.Types.{clash}
use Rattle.py_check_expressions_laws.proofs.Loud.{none_before}
use Rattle.py_check_laws.specs.WellTyped.{is_filled}
use Rattle.py_check_laws.specs.Modules.{has_type, all_have_types}
use Rattle.py_check_laws.proofs.Given.{row_given}
use Rattle.py_check.proofs.NameRows.{at_place, same_text, text_is_itself, filter_two, filter_all, sights_front, of_kind, scope_names}
use Rattle.py_check_laws.proofs.NewNames.{Fresh, one_more}

-- ---- variables in a row

pub variables_named : (types : List VarSort) (i : ℕ) (ns : List (List ℕ)) → names_of (variables_from i types ns) ≡ ns
variables_named types i [] = refl
variables_named types i (x ∷ ns) = ap (λ l. x ∷ l) (variables_named types (suc i) ns)

sort_value : (n : ℕ) (v : VarSort) → has_type v ≡ true → ((t : Sort) → v ≡ has t → is_value_type n t ≡ true) → is_value_type n (sort_or_none v) ≡ true
sort_value n (has t) h g = g t refl
sort_value n _ h g = absurd (cc)

-- where there are so many classes
pub types_valued : (n : ℕ) (types : List VarSort) (i : ℕ) (ns : List (List ℕ)) → all_have_types types i ns ≡ true → ((j : ℕ) (t : Sort) → var_at types j ≡ has t → is_value_type n t ≡ true) → list_all (is_value_type n) (types_in (variables_from i types ns)) ≡ true
types_valued n types i [] h g = refl
types_valued n types i (x ∷ ns) h g =
    and_from (is_value_type n (sort_or_none (var_at types i))) (list_all (is_value_type n) (types_in (variables_from (suc i) types ns))) (sort_value n (var_at types i) (and_left (has_type (var_at types i)) (all_have_types types (suc i) ns) h) (g i))
    (types_valued n types (suc i) ns (and_right (has_type (var_at types i)) (all_have_types types (suc i) ns) h) g)

pub variables_long : (types : List VarSort) (i : ℕ) (ns : List (List ℕ)) → length (variables_from i types ns) ≡ length ns
variables_long types i [] = refl
variables_long types i (x ∷ ns) = ap suc (variables_long types (suc i) ns)

-- ---- parameters

repeat_free : (before ps : List (List ℕ)) → repeated before ps ≡ None → Fresh before ps
repeat_free before [] h = record { differ = refl; new = λ x q. absurd (never q) }
  where
    never : false ≡ true → ⊥
    never q = cc
repeat_free before (x ∷ ps) h = by (contains before x) refl h (λ g. repeat_free (before ++ x ∷ []) ps g)
  where
    by : (b : Bool) → contains before x ≡ b → (if b then Some x else repeated (before ++ x ∷ []) ps) ≡ None → (repeated (before ++ x ∷ []) ps ≡ None → Fresh (before ++ x ∷ []) ps) → Fresh before (x ∷ ps)
    by true q g next = absurd (cc)
    by false q g next = one_more before x ps q (next g)

none_built : (ps : List (List ℕ)) → find is_builtin_name ps ≡ None → (x : List ℕ) → contains ps x ≡ true → is_builtin_name x ≡ false
none_built [] h x q = absurd (cc)
none_built (y ∷ ps) h x q = by (is_builtin_name y) refl h (or_cases (bytes_eq x y) (contains ps x) q) (λ g p. none_built ps g x p)
  where
    by : (b : Bool) → is_builtin_name y ≡ b → cond b (Some y) (find is_builtin_name ps) ≡ None → (bytes_eq x y ≡ true) ⊎ (contains ps x ≡ true) → (find is_builtin_name ps ≡ None → contains ps x ≡ true → is_builtin_name x ≡ false) → is_builtin_name x ≡ false
    by true p g c next = absurd (cc)
    by false p g (inl e) next = ap is_builtin_name (same_text x y e) ∙ p
    by false p g (inr e) next = next g e

keys_found : {A : Type 0} (l : List (List ℕ × A)) (x : List ℕ) → contains (map (λ (p : List ℕ × A). p.0) l) x ≡ is_some (lookup (bytes_eq x) l)
keys_found [] x = refl
keys_found {A = A} (p ∷ l) x = by (bytes_eq x p.0) (keys_found l x)
  where
    by : (b : Bool) → contains (map (λ (p : List ℕ × A). p.0) l) x ≡ is_some (lookup (bytes_eq x) l) → (b || contains (map (λ (p : List ℕ × A). p.0) l) x) ≡ is_some (cond b (Some p.1) (lookup (bytes_eq x) l))
    by true h = refl
    by false h = h

both_false : (o : Option Meaning) (c : Option ExcClass) → is_some (option_or o (exception_meaning c)) ≡ false → (is_some o ≡ false) × (is_some c ≡ false)
both_false None None h = (refl, refl)
both_false None (Some c) h = absurd (cc)
both_false (Some m) c h = absurd (cc)

not_built : (x : List ℕ) → is_builtin_name x ≡ false → is_builtin x ≡ false
not_built x h =
    let r = both_false (lookup (bytes_eq x) names.named_builtins) (class_named x) h in
    ap₂ (λ (a b : Bool). a || b) (keys_found names.named_builtins x ∙ r.0) r.1

param_role : (a b : Bool) (r : Role) → a ≡ false → b ≡ true → is_own (if a then role.Builtin else (if b then role.Param else r)) ≡ true
param_role false true r p q = refl
param_role false false r p q = absurd (cc)
param_role true b r p q = absurd (cc)

list_all_by : (p : List ℕ → Bool) (xs : List (List ℕ)) → ((x : List ℕ) → contains xs x ≡ true → p x ≡ true) → list_all p xs ≡ true
list_all_by p [] h = refl
list_all_by p (x ∷ xs) h = and_from (p x) (list_all p xs) (h x (or_left (bytes_eq x x) (contains xs x) (text_is_itself x))) (list_all_by p xs (λ y q. h y (or_right (bytes_eq y x) (contains xs y) q)))

pub mapped_none : {A B : Type 0} (g : A → B) (o : Option A) → option_map g o ≡ None → o ≡ None
mapped_none g None h = refl
mapped_none g (Some a) h = absurd (cc)

-- where no parameter stands twice, none is a builtin, and the names are at most a hundred
module _ (f : FuncTree) (roles : Roles) (once : repeated [] (param_names f) ≡ None) (plain : find is_builtin_name (param_names f) ≡ None) (few : nat_lt 100 (own_count (function_scope roles f)) ≡ false) where
  abbrev params : List (List ℕ)
  params = param_names f

  abbrev seen : List (List ℕ)
  seen = all_there seen_there (body_sights f)

  abbrev own : List (List ℕ)
  own = own_names (function_scope roles f)

  abbrev is_kind : List ℕ → Bool
  is_kind x = is_own (function_role roles f x)

  params_fresh : Fresh [] params
  params_fresh = repeat_free [] params once

  pub params_differ : all_differ params ≡ true
  params_differ = params_fresh.differ

  params_own : list_all is_kind params ≡ true
  params_own =
      list_all_by is_kind params
      (λ x q. param_role (is_builtin x) (contains params x) (if contains (all_there listed_there (body_sights f)) x && is_variable (roles x) then role.GlobalVar else (if contains (all_there bound_there (body_sights f)) x then role.Local else roles x))
      (not_built x (none_built params plain x q)) q)

  -- the parameters come first
  pub own_front : (ws : List (List ℕ)) × (own ≡ params ++ ws)
  own_front =
      let r = sights_front params seen params_differ in (
        filter is_kind r.0,
        scope_names is_own (function_role roles f) (params ++ seen) ∙ ap (filter is_kind) r.1 ∙ filter_two is_kind params r.0 ∙ ap (λ l. l ++ filter is_kind r.0) (filter_all is_kind params params_own),
      )

  pub params_few : nat_lt (length f.params) (suc (length own)) ≡ true
  params_few = lt-ltb (length f.params) (suc (length own)) (less (length f.params) (length own) (length own_front.0) (ap length own_front.1 ∙ length-append params own_front.0 ∙ ap (λ n. n + length own_front.0) (length-map f.params (λ (p : List ℕ × Option ExprTree). p.0))))
    where
      less : (a b c : ℕ) → b ≡ a + c → a < suc b
      less a b c h = omega arith

  counted : own_count (function_scope roles f) ≡ length own
  counted =
      let ns = first_sights (params ++ seen) in
      sym (length-filter (λ (p : List ℕ × Role). is_own p.1) (function_scope roles f).names)
      ∙ sym (length-map (filter (λ (p : List ℕ × Role). is_own p.1) (function_scope roles f).names) (λ (p : List ℕ × Role). p.0))
      ∙ ap length (of_kind is_own (function_role roles f) ns) ∙ ap length (sym (scope_names is_own (function_role roles f) (params ++ seen)))

  pub own_few : nat_lt (length own) 101 ≡ true
  own_few = lt-ltb (length own) 101 (less (own_count (function_scope roles f)) (length own) (ltb-false 100 (own_count (function_scope roles f)) few) counted)
    where
      less : (a b : ℕ) → a ≤ 100 → a ≡ b → b < 101
      less a b h q = omega arith

-- ---- the types of parameters

pub at_front : (ps : List (List ℕ × Option ExprTree)) (ws : List (List ℕ)) (j : ℕ) (p : List ℕ × Option ExprTree) → slice_get ps j ≡ Some p → slice_get (map (λ (z : List ℕ × Option ExprTree). z.0) ps ++ ws) j ≡ Some p.0
at_front [] ws j p h = absurd (cc)
at_front (q ∷ ps) ws zero p h = ap (λ (z : List ℕ × Option ExprTree). Some z.0) (same_Some q p h)
at_front (q ∷ ps) ws (suc j) p h = at_front ps ws j p h

-- of names that differ each finds its own
first_found : {A : Type 0} (ns : List (List ℕ)) (ts : List A) (j : ℕ) (x : List ℕ) (t : A) → all_differ ns ≡ true → slice_get ns j ≡ Some x → slice_get ts j ≡ Some t → lookup (bytes_eq x) (zip ns ts) ≡ Some t
first_found [] ts j x t d h g = absurd (cc)
first_found (y ∷ ns) [] j x t d h g = absurd (cc)
first_found {A = A} (y ∷ ns) (u ∷ ts) zero x t d h g =
    ap (λ (b : Bool). cond b (Some u) (lookup (bytes_eq x) (zip ns ts))) (ap (λ z. bytes_eq z y) (sym (same_Some y x h)) ∙ text_is_itself y) ∙ g
first_found {A = A} (y ∷ ns) (u ∷ ts) (suc j) x t d h g = by (bytes_eq x y) refl (first_found ns ts j x t (and_right (not (contains ns y)) (all_differ ns) d) h g)
  where
    absent : (b : Bool) → not b ≡ true → b ≡ false
    absent true e = absurd (cc)
    absent false e = refl

    by : (b : Bool) → bytes_eq x y ≡ b → lookup (bytes_eq x) (zip ns ts) ≡ Some t → cond b (Some u) (lookup (bytes_eq x) (zip ns ts)) ≡ Some t
    by true r e = absurd (clash (contains ns y) (ap (contains ns) (sym (same_text x y r)) ∙ at_place ns j x h) (absent (contains ns y) (and_left (not (contains ns y)) (all_differ ns) d)))
    by false r e = e

-- where the parameters have these types
pub param_start : (ns : List (List ℕ)) (os : List (Option Sort)) (j : ℕ) (x : List ℕ) (o : Option Sort) (start : VarSort) → all_differ ns ≡ true → slice_get ns j ≡ Some x → slice_get os j ≡ Some o → or_param (param_sort ns os x) start ≡ given_sort o
param_start ns os j x o start d h g = ap (λ q. or_param q start) (first_found ns os j x o d h g)

-- the declared types of variables are these, where the variables have them
pub params_same : (ns ws : List (List ℕ)) (os : List (Option Sort)) (types : List VarSort) (i : ℕ) (ts : List Sort) → length os ≡ length ns → all_of os ≡ Some ts → ((j : ℕ) (o : Option Sort) → slice_get os j ≡ Some o → var_at types (i + j) ≡ given_sort o)
    → types_in (take (length ns) (variables_from i types (ns ++ ws))) ≡ ts
params_same [] ws [] types i ts l q h = same_Some [] ts q
params_same [] ws (o ∷ os) types i ts l q h = absurd (cc)
params_same (x ∷ ns) ws [] types i ts l q h = absurd (cc)
params_same (x ∷ ns) ws (o ∷ os) types i ts l q h =
    by o (all_of os) refl refl q (λ ss y. params_same ns ws os types (suc i) ss (shorter (length os) (length ns) l) y (λ j z g. ap (var_at types) (one_on i j) ∙ h (suc j) z g))
  where
    shorter : (a b : ℕ) → suc a ≡ suc b → a ≡ b
    shorter a b e = omega (arith, e)

    one_on : (i j : ℕ) → suc i + j ≡ i + suc j
    one_on i j = omega arith

    no_more : (i : ℕ) → i ≡ i + 0
    no_more i = omega arith

    rest : List Sort
    rest = types_in (take (length ns) (variables_from (suc i) types (ns ++ ws)))

    by : (a : Option Sort) (b : Option (List Sort)) → o ≡ a → all_of os ≡ b → option_map (λ (z : Sort × List Sort). z.0 ∷ z.1) (option_zip a b) ≡ Some ts → ((ss : List Sort) → all_of os ≡ Some ss → rest ≡ ss) → sort_or_none (var_at types i) ∷ rest ≡ ts
    by None b x y r next = absurd (cc)
    by (Some t) None x y r next = absurd (cc)
    by (Some t) (Some ss) x y r next =
        ap₂ (λ (c : Sort) (l : List Sort). c ∷ l) (ap (λ n. sort_or_none (var_at types n)) (no_more i) ∙ ap sort_or_none (h 0 o refl) ∙ ap (λ z. sort_or_none (given_sort z)) x) (next ss y)
        ∙ same_Some (t ∷ ss) ts r

pub row_is_itself : (ss ts : List Sort) → ss ≡ ts → same_row ss ts ≡ true
row_is_itself ss ts q = subst (λ l. same_row ss l ≡ true) q (type_is_itself (sort.TupleOf (sorts_of ss)))

-- ---- bodies

defs_there : (x : StmtTree) → is_definition x ≡ true → stmt_definitions x ≡ [] → ⊥
defs_there (s.at (s.Import name other) span) h q = cc
defs_there (s.at (s.From name names) span) h q = cc
defs_there (s.at (s.Def name params ret body marks) span) h q = cc
defs_there (s.at (s.ClassDef name bases body marks) span) h q = cc
defs_there _ h q = absurd (cc)

-- a body with statements has typed ones
pub filled_block : (C : Context) (r : ReturnSort) (around : Around) (k : Known) (body : Suite) (ts : List TypedStmt) → is_filled body ≡ true → suite_definitions body ≡ [] → (block C r around k body).got ≡ Some ts → has_statement (suite_of ts) ≡ true
filled_block C r around k s.no_stmts ts h pure g = absurd (cc)
filled_block C r around k (s.stmt_then x more) ts h pure g = by (is_definition x) refl g
  where
    by : (b : Bool) → is_definition x ≡ b → (if b then block C r around k more else row_then (statement C r around k x) (block C r around (after C k x) more)).got ≡ Some ts → has_statement (suite_of ts) ≡ true
    by true q e = absurd (defs_there x q (none_before (stmt_definitions x) (suite_definitions more) pure))
    by false q e = let p = row_given (statement C r around k x) (block C r around (after C k x) more) ts e in subst (λ l. has_statement (suite_of l) ≡ true) p.4 refl

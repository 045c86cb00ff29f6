-- The bodies of functions and methods of which nothing is said are typed whole.
use Rattle.std.proofs.Common.{◌≡◌, ℕ, zero, suc, Bool, true, false, ◌&&◌, cond, List, [], ◌∷◌, map, Option, Some, None, refl, ap, sym, ◌∙◌, if◌then◌else◌}
use Rattle.std.proofs.lemmas.Option.{same_Some}
use Rattle.std.specs.Prelude.{is_some}
use Rattle.std.specs.List.{list_all, zip}
use Rattle.std.specs.Map.{lookup}
use Rattle.std.specs.Str.{bytes_eq}
use Rattle.py_syntax.specs.Statements.{FuncTree}
use Rattle.py_syntax_diagnostics.specs.declared.diagnostic.Diag.{Diag}
use Rattle.py_binder.specs.declared.sight.Home.TheVariants.{InFunction}
use Rattle.py_binder.specs.Sights.{body_sights}
use Rattle.py_binder.specs.Faults.{function_faults}
use Rattle.py_binder.specs.Scope.{Roles, param_names}
use Rattle.py_syntax_diagnostics.specs.Order.{is_before, put_in, by_place}
use Rattle.py_typed.specs.Sorts.{Sort}
use Rattle.py_typed.proofs.FitLemmas.{and_left, and_right}
use Rattle.py_check_context.specs.declared.scope.Meaning.{Meaning}
use Rattle.py_check_context.specs.Context.{Context, VarSort, var_at}
use Rattle.py_check_flow.specs.Bindings.{suite_bindings}
use Rattle.py_check_annotations.specs.Names.{is_untyped}
use Rattle.py_check_names.specs.Meanings.{own_names}
use Rattle.py_check_signatures.specs.declared.headers.Owner.{Owner}
use Rattle.py_check_signatures.specs.Headers.{signature_of}
use Rattle.py_check_places.specs.Places.{Known}
use Rattle.py_check_statements.specs.Bodies.{nothing_around}
use Rattle.py_check_definitions.specs.Definitions.{Headed, headed}
use Rattle.py_check_definitions.specs.Starts.{given_sort, start_sort, or_param, param_sort, own_sort}
use Rattle.py_check.specs.Module.{ModuleContext, function_context, return_of, function_start, body, body_after, bodies_said}
use Rattle.py_check_expressions_laws.specs.Laws as law
use Rattle.py_check_expressions_laws.proofs.Loud.{none_before, none_behind}
use Rattle.py_check_laws.specs.Statements.{is_judged}
use Rattle.py_check_laws.specs.Modules.{are_typed}
use Rattle.py_check_laws.proofs.Given.{some_is}
use Rattle.py_check_laws.proofs.Whole.{AllTyped, InReach, quiet_got, loud_block, quiet_block}
use Rattle.py_check_laws.proofs.KnownParts.{AreKnown}
use Rattle.py_check_laws.proofs.KnownMarks.{suite_known}
use Rattle.py_check_laws.proofs.Marks.{start_typed, suite_marks}
use Rattle.py_check_laws.proofs.Signed.{HasTypes, signed, IsSigned, AllSigned}

-- ---- in order

put_some : (d : Diag) (l : List Diag) → put_in d l ≡ [] → ⊥
put_some d [] h = cc
put_some d (o ∷ l) h = by (is_before o.span d.span) h
  where
    by : (b : Bool) → (if b then o ∷ put_in d l else d ∷ o ∷ l) ≡ [] → ⊥
    by true q = cc
    by false q = cc

pub nothing_placed : (l : List Diag) → by_place l ≡ [] → l ≡ []
nothing_placed [] h = refl
nothing_placed (d ∷ l) h = absurd (put_some d (by_place l) h)

-- ---- variables where a function begins

typed_map : (f : List ℕ → VarSort) → ((x : List ℕ) → law.is_untyped (f x) ≡ false) → (names : List (List ℕ)) (i : ℕ) → law.is_untyped (var_at (map f names) i) ≡ false
typed_map f h [] i = refl
typed_map f h (x ∷ names) zero = h x
typed_map f h (x ∷ names) (suc i) = typed_map f h names i

pub param_there : (test : List ℕ → Bool) (names : List (List ℕ)) (sorts : List (Option Sort)) → list_all (λ o. is_some o) sorts ≡ true → (o : Option Sort) → lookup test (zip names sorts) ≡ Some o → is_some o ≡ true
param_there test [] sorts h o q = absurd (cc)
param_there test (x ∷ names) [] h o q = absurd (cc)
param_there test (x ∷ names) (t ∷ sorts) h o q = by (test x) q (param_there test names sorts (and_right (is_some t) (list_all (λ o. is_some o) sorts) h) o)
  where
    by : (b : Bool) → cond b (Some t) (lookup test (zip names sorts)) ≡ Some o → (lookup test (zip names sorts) ≡ Some o → is_some o ≡ true) → is_some o ≡ true
    by true r next = ap is_some (sym (same_Some t o r)) ∙ and_left (is_some t) (list_all (λ o. is_some o) sorts) h
    by false r next = next r

given_typed : (o : Option Sort) → is_some o ≡ true → law.is_untyped (given_sort o) ≡ false
given_typed None h = absurd (cc)
given_typed (Some t) h = refl

own_typed : (names : List (List ℕ)) (sorts : List (Option Sort)) → list_all (λ o. is_some o) sorts ≡ true → (x : List ℕ) (start : VarSort) → law.is_untyped start ≡ false → law.is_untyped (or_param (param_sort names sorts x) start) ≡ false
own_typed names sorts h x start v = by (param_sort names sorts x) refl
  where
    by : (o : Option (Option Sort)) → param_sort names sorts x ≡ o → law.is_untyped (or_param o start) ≡ false
    by None q = v
    by (Some t) q = given_typed t (param_there (bytes_eq x) names sorts h t q)

judged : (o : Option Sort) → is_some o ≡ true → is_judged (return_of o) ≡ true
judged None h = absurd (cc)
judged (Some t) h = refl

four : (a b c d : Bool) → a ≡ true → b ≡ true → c ≡ true → d ≡ true → (a && b && c && d) ≡ true
four a b c d p q r s = cc

-- ---- bodies

module _ (e : ModuleContext) (sorts : List VarSort) (f : Headed) where
  abbrev C : Context
  C = function_context e f

  abbrev start : Known
  start = function_start C e.variables sorts f

  pub record BodyTyped : Type 0 where
    pub typed : is_some (body C e.variables sorts f).got ≡ true
    pub locals : (i : ℕ) → law.is_untyped (var_at (body_after C e.variables sorts f).types.locals i) ≡ false

  pub body_typed : InReach C → ((x : List ℕ) → is_untyped (C.meaning x) ≡ false) → AreKnown C.meaning (body_sights f.tree) → HasTypes f.header → ((i : ℕ) → law.is_untyped (var_at sorts i) ≡ false) → (body C e.variables sorts f).said ≡ [] → BodyTyped
  body_typed reach all known types before h =
      let bs = suite_bindings f.tree.body in
      let quiet = suite_marks C (return_of f.header.ret) nothing_around start f.tree.body h in
      let each : (x : List ℕ) → law.is_untyped (own_sort C.meaning bs (param_names f.tree) f.header.params x) ≡ false =
      λ x. own_typed (param_names f.tree) f.header.params types.params x (start_sort C.meaning bs x) (start_typed C.meaning all bs (suite_known C.meaning InFunction f.tree.body known) quiet x) in
      let typed : AllTyped start.types = record { locals = typed_map (own_sort C.meaning bs (param_names f.tree) f.header.params) each (own_names f.inside); globals = before } in
      let j = judged f.header.ret types.ret in
      let g = quiet_got (body C e.variables sorts f) (loud_block C reach (return_of f.header.ret) j InFunction nothing_around start typed f.tree.body known) h in
      let after = quiet_block C reach (return_of f.header.ret) j InFunction nothing_around start typed f.tree.body known h in
      record { typed = some_is (body C e.variables sorts f).got g.0 g.1; locals = after.locals }

module _ (e : ModuleContext) (roles : Roles) (meanings : List ℕ → Meaning) (all : (x : List ℕ) → is_untyped (meanings x) ≡ false) (reach : (p : FuncTree × Owner) → IsSigned meanings all roles p → InReach (function_context e (headed roles meanings p)))
    (inner : (p : FuncTree × Owner) (x : List ℕ) → is_untyped ((function_context e (headed roles meanings p)).meaning x) ≡ false) (known : (p : FuncTree × Owner) → function_faults roles p.0 ≡ [] → AreKnown (function_context e (headed roles meanings p)).meaning (body_sights p.0)) where
  pub bodies_typed : (sorts : List VarSort) → ((i : ℕ) → law.is_untyped (var_at sorts i) ≡ false) → (ps : List (FuncTree × Owner)) → AllSigned meanings all roles ps → bodies_said e sorts (map (headed roles meanings) ps) ≡ [] → are_typed e sorts (map (headed roles meanings) ps) ≡ true
  bodies_typed sorts before [] a h = refl
  bodies_typed sorts before (p ∷ ps) a h =
      let hd = headed roles meanings p in
      let one = body (function_context e hd) e.variables sorts hd in
      let more = bodies_said e sorts (map (headed roles meanings) ps) in
      let b = body_typed e sorts hd (reach p a.here) (inner p) (known p a.here.names) a.here.types before (none_before one.said more h) in
      four (is_some (signature_of hd.header)) (is_some hd.header.ret) (is_some one.got) (are_typed e sorts (map (headed roles meanings) ps)) (signed hd.header a.here.types) a.here.types.ret b.typed
      (bodies_typed sorts before ps a.rest (none_behind one.said more h))

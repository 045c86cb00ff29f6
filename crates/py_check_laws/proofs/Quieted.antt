-- What holds of a module of which nothing is said: of its names, its definitions and its functions.
use Rattle.std.proofs.Common.{◌≡◌, ◌∙◌, ℕ, Bool, true, false, List, [], ◌∷◌, ◌++◌, length, map, refl, ap, sym, subst, arith}
use Rattle.std.proofs.lemmas.Bool.{and_from, or_right}
use Rattle.std.proofs.lemmas.List.{length-map}
use Rattle.std.proofs.lemmas.List.Folds.{list_any-append}
use Rattle.std.specs.Prelude.{is_some}
use Rattle.std.specs.List.{list_all, flat_map, zip}
use Rattle.std.specs.Str.{bytes_eq}
use Rattle.py_syntax.specs.Statements.{Suite, FuncTree}
use Rattle.py_syntax_diagnostics.specs.declared.diagnostic.Diag.{Diag}
use Rattle.py_binder.specs.Sights.{module_sights, body_sights}
use Rattle.py_binder.specs.Faults.{function_faults, faults}
use Rattle.py_binder.specs.Scope.{contains, scope_of, all_there, seen_there, param_names, module_role, function_role, module_scope, functions}
use Rattle.py_typed.proofs.FitLemmas.{and_left, and_right}
use Rattle.py_check_context.specs.declared.scope.Meaning.{Meaning}
use Rattle.py_check_context.specs.Context.{Context}
use Rattle.py_check_annotations.specs.Names.{is_untyped, any_unknown}
use Rattle.py_check_names.specs.Outline.{held_by, suite_definitions}
use Rattle.py_check_names.specs.Meanings.{variables, meaning_in}
use Rattle.py_check_signatures.specs.declared.headers.Owner.{Owner}
use Rattle.py_check_signatures.specs.Headers.{header_said, signature_of}
use Rattle.py_check_classes.specs.Headers.{module_headers}
use Rattle.py_check_definitions.specs.Names.{known_in, module_meaning}
use Rattle.py_check_definitions.specs.Owners.{owners}
use Rattle.py_check_definitions.specs.Refused.{refusals}
use Rattle.py_check_definitions.specs.Definitions.{Headed, headed, inner_definitions_said, headed_functions, signatures}
use Rattle.py_check.specs.Module.{ModuleContext, context_in, function_context, module_start, own_statements, walk_said, bodies_said, global_sorts, module_owns, module_context, module_classes, walked, said}
use Rattle.py_check_definitions.proofs.HeldLemmas.{functions_defined}
use Rattle.py_check_expressions_laws.specs.Laws.{is_voiceless}
use Rattle.py_check_expressions_laws.proofs.Loud.{none_before, none_behind}
use Rattle.py_check_laws.proofs.KnownParts.{AreKnown, annotation_reads, suite_defined, all_marked}
use Rattle.py_check_laws.proofs.Faultless.{module_quiet, functions_quiet, body_quiet, sights_known}
use Rattle.py_check_laws.proofs.NewNames.{AllTyped, all_typed}
use Rattle.py_check_laws.proofs.Meant.{is_heard, is_right, Fine, module_fine, function_fine, meant_heard, means_known, bound_known, own_known}
use Rattle.py_check_laws.proofs.Plain.{all_plain_said, IsWalked, walk_quiet, none_refused}
use Rattle.py_check_laws.proofs.Signed.{AllQuiet, all_right, all_quiet, is_owned, all_owned, owners_all, AllSigned, all_signed, signatures_there, voiced, heard_typed}

-- ---- functions with their owners

zip_many : {A B : Type 0} (xs : List A) (ys : List B) → length xs ≡ length ys → length (zip xs ys) ≡ length xs
zip_many [] ys e = refl
zip_many (x ∷ xs) [] e = absurd (omega (arith, e))
zip_many (x ∷ xs) (y ∷ ys) e = let rest = zip_many xs ys (omega (arith, e)) in omega (arith, rest)

pub zip_first : {A B C : Type 0} (g : A → List C) (xs : List A) (ys : List B) → length xs ≡ length ys → flat_map (λ (p : A × B). g p.0) (zip xs ys) ≡ flat_map g xs
zip_first g [] ys e = refl
zip_first g (x ∷ xs) [] e = absurd (omega (arith, e))
zip_first g (x ∷ xs) (y ∷ ys) e = ap (λ l. g x ++ l) (zip_first g xs ys (omega (arith, e)))

pub zip_all : {A B : Type 0} (test : A → Bool) (xs : List A) (ys : List B) → list_all test xs ≡ true → list_all (λ (p : A × B). test p.0) (zip xs ys) ≡ true
zip_all test [] ys h = refl
zip_all test (x ∷ xs) [] h = refl
zip_all {A = A} {B = B} test (x ∷ xs) (y ∷ ys) h = and_from (test x) (list_all (λ (p : A × B). test p.0) (zip xs ys)) (and_left (test x) (list_all test xs) h) (zip_all test xs ys (and_right (test x) (list_all test xs) h))

zip_second : {A B : Type 0} (test : B → Bool) (xs : List A) (ys : List B) → list_all test ys ≡ true → list_all (λ (p : A × B). test p.1) (zip xs ys) ≡ true
zip_second test [] ys h = refl
zip_second test (x ∷ xs) [] h = refl
zip_second {A = A} {B = B} test (x ∷ xs) (y ∷ ys) h = and_from (test y) (list_all (λ (p : A × B). test p.1) (zip xs ys)) (and_left (test y) (list_all test ys) h) (zip_second test xs ys (and_right (test y) (list_all test ys) h))

maps : {A B C : Type 0} (f : B → C) (g : A → B) (xs : List A) → map f (map g xs) ≡ map (λ x. f (g x)) xs
maps f g [] = refl
maps f g (x ∷ xs) = ap (λ l. f (g x) ∷ l) (maps f g xs)

-- ---- the whole

module _ (m : Suite) (nothing : said m ≡ []) where
  abbrev pub e : ModuleContext
  e = module_context m

  abbrev pub meant : List ℕ → Meaning
  meant = module_meaning m

  abbrev pub top : Context
  top = context_in e (module_scope m)

  abbrev walk : List Diag
  walk = walk_said (module_role m) (module_classes m) top (module_start top e.variables m) [] 0 m

  abbrev bodies : List Diag
  bodies = bodies_said e (global_sorts e (module_scope m) (headed_functions m) m) (headed_functions m)

  abbrev inner : List Diag
  inner = flat_map inner_definitions_said (functions m)

  abbrev refusal : List Diag
  refusal = refusals (module_headers m) (module_owns m) 0 (suite_definitions m)

  pub silent : (walked m ≡ []) × (refusal ≡ [])
  silent = none_refused (walked m) refusal nothing

  told : (walk ++ bodies) ++ inner ≡ []
  told = none_before ((walk ++ bodies) ++ inner) (faults m) silent.0

  statements : walk ++ bodies ≡ []
  statements = none_before (walk ++ bodies) inner told

  pub bodies_quiet : bodies ≡ []
  bodies_quiet = none_behind walk bodies statements

  pub inner_quiet : inner ≡ []
  inner_quiet = none_behind (walk ++ bodies) inner told

  -- nothing is wrong with names
  pub faultless : faults m ≡ []
  faultless = none_behind ((walk ++ bodies) ++ inner) (faults m) silent.0

  pub quiet_walk : IsWalked (module_role m) (module_classes m) (module_owns m) top [] 0 (module_start top e.variables m) m
  quiet_walk = walk_quiet (module_role m) (module_classes m) (module_owns m) top (module_start top e.variables m) [] 0 m silent.1 (none_before walk bodies statements)

  pub own_quiet : (own_statements top e.variables m).said ≡ []
  own_quiet = quiet_walk.block

  pub definitions : all_plain_said (module_role m) (module_headers m) meant [] 0 (suite_definitions m) ≡ []
  definitions = quiet_walk.plain.own

  pub annotations_quiet : flat_map (header_said meant) (functions m) ≡ []
  annotations_quiet = ap (flat_map (header_said meant)) (functions_defined m) ∙ quiet_walk.plain.headers

  pub right : list_all is_right (suite_definitions m) ≡ true
  right = all_right (module_role m) (module_headers m) meant [] 0 (suite_definitions m) definitions

  -- each class has a type
  pub typed_classes : AllTyped (module_headers m) 0 (suite_definitions m)
  typed_classes = all_typed (module_headers m) (module_owns m) 0 (suite_definitions m) silent.1

  abbrev pub n : ℕ
  n = length (signatures m)

  pub owners_many : length (functions m) ≡ length (owners m)
  owners_many = ap length (functions_defined m) ∙ owners_all (module_headers m) 0 (suite_definitions m)

  -- functions with their owners
  abbrev pub pairs : List (FuncTree × Owner)
  pairs = zip (functions m) (owners m)

  pub count : length (flat_map held_by (suite_definitions m)) ≡ n
  count =
      ap length (sym (functions_defined m)) ∙ sym (zip_many (functions m) (owners m) owners_many) ∙ sym (length-map pairs (headed (module_role m) meant))
      ∙ sym (length-map (headed_functions m) (λ (f : Headed). signature_of f.header))

  pub fine : Fine (known_in m) (variables (module_scope m)) n (module_role m)
  fine = module_fine m n right count typed_classes

  pub heard : (x : List ℕ) → is_heard n (meant x) ≡ true
  heard x = meant_heard (known_in m) (variables (module_scope m)) n (module_role m) fine (all_there seen_there (module_sights m)) x

  pub typed_names : (x : List ℕ) → is_untyped (meant x) ≡ false
  typed_names x = heard_typed n (meant x) (heard x)

  -- each name of the module is known
  pub top_known : AreKnown meant (module_sights m)
  top_known =
      let seen = all_there seen_there (module_sights m) in
      sights_known (module_role m) meant seen (means_known (known_in m) (variables (module_scope m)) n (module_role m) fine seen) (module_sights m) (λ x h. h) (module_quiet (module_role m) (module_role m) (module_sights m) faultless) (bound_known m n right count typed_classes)

  abbrev pub inside : FuncTree × Owner → Context
  inside p = function_context e (headed (module_role m) meant p)

  -- and each one of a function in which nothing is wrong with names
  pub inner_known : (p : FuncTree × Owner) → function_faults (module_role m) p.0 ≡ [] → AreKnown (inside p).meaning (body_sights p.0)
  inner_known p h =
      let f = p.0 in
      let own = function_role (module_role m) f in
      let seen = param_names f ++ all_there seen_there (body_sights f) in
      sights_known own (meaning_in (known_in m) (variables (module_scope m)) (scope_of own seen)) seen
      (means_known (known_in m) (variables (module_scope m)) n own (function_fine (known_in m) (variables (module_scope m)) n (module_role m) fine f) seen) (body_sights f) (λ x q. behind_params (param_names f) (all_there seen_there (body_sights f)) x q)
      (body_quiet (module_role m) own (param_names f) (body_sights f) h) (own_known (module_role m) f)
    where
      behind_params : (xs ys : List (List ℕ)) (x : List ℕ) → contains ys x ≡ true → contains (xs ++ ys) x ≡ true
      behind_params xs ys x q = list_any-append (bytes_eq x) xs ys ∙ or_right (contains xs x) (contains ys x) q

  -- and those in the annotations of functions
  pub definitions_known : AreKnown meant (flat_map annotation_reads (flat_map held_by (suite_definitions m)))
  definitions_known = all_marked meant (suite_definitions m) (suite_defined meant m top_known)

  functions_known : AreKnown meant (flat_map annotation_reads (functions m))
  functions_known = ap (λ fs. any_unknown meant (flat_map annotation_reads fs)) (functions_defined m) ∙ definitions_known

  pub all_functions : AllSigned meant typed_names (module_role m) pairs
  all_functions =
      all_signed meant typed_names (module_role m) (module_headers m) pairs
      (subst (λ fs. AllQuiet (module_role m) (module_headers m) meant (zip fs (owners m))) (sym (functions_defined m)) (all_quiet (module_role m) (module_headers m) meant [] 0 (suite_definitions m) definitions))
      (zip_second is_owned (functions m) (owners m) (all_owned (module_role m) (module_classes m) (module_owns m) top 0 (suite_definitions m) quiet_walk.plain.heads))
      (ap (any_unknown meant) (zip_first annotation_reads (functions m) (owners m) owners_many) ∙ functions_known)
      (zip_first (function_faults (module_role m)) (functions m) (owners m) owners_many ∙ functions_quiet (module_role m) (module_role m) (module_sights m) faultless)
      (zip_first (header_said meant) (functions m) (owners m) owners_many ∙ annotations_quiet)

  pub signs : list_all (λ o. is_some o) (signatures m) ≡ true
  signs =
      ap (list_all (λ o. is_some o)) (maps (λ (f : Headed). signature_of f.header) (headed (module_role m) meant) pairs)
      ∙ signatures_there meant typed_names (module_role m) pairs all_functions

  pub inner_heard : (p : FuncTree × Owner) (x : List ℕ) → is_heard n ((inside p).meaning x) ≡ true
  inner_heard p x =
      meant_heard (known_in m) (variables (module_scope m)) n (function_role (module_role m) p.0) (function_fine (known_in m) (variables (module_scope m)) n (module_role m) fine p.0) (param_names p.0 ++ all_there seen_there (body_sights p.0)) x

  pub inner_typed : (p : FuncTree × Owner) (x : List ℕ) → is_untyped ((inside p).meaning x) ≡ false
  inner_typed p x = heard_typed n ((inside p).meaning x) (inner_heard p x)

  pub top_voiced : (x : List ℕ) → is_voiceless top.signatures (top.meaning x) ≡ false
  top_voiced x = voiced (signatures m) signs (meant x) (heard x)

  pub inner_voiced : (p : FuncTree × Owner) (x : List ℕ) → is_voiceless (inside p).signatures ((inside p).meaning x) ≡ false
  inner_voiced p x = voiced (signatures m) signs ((inside p).meaning x) (inner_heard p x)

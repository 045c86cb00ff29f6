-- A module of which nothing is said is well typed.
use Rattle.std.proofs.Common.{◌≡◌, ℕ, suc, ◌+◌, ◌<◌, Bool, true, false, not, ◌&&◌, ◌||◌, List, [], ◌∷◌, ◌++◌, length, map, slice_get, nat_lt, Option, Some, None, refl, ap, sym, ◌∙◌, subst, if◌then◌else◌, unwrap_or, arith, ◌⊎◌, inl, inr}
use Rattle.std.proofs.lemmas.Bool.{and_from, or_right, eq-eqb}
use Rattle.std.proofs.lemmas.List.{length-map}
use Rattle.std.proofs.lemmas.Option.{slice_get-map, slice_get_within}
use Rattle.std.specs.Prelude.{is_some, codes, find, ◌==◌}
use Rattle.std.specs.List.{list_all, flat_map, AllByRecursion}
use Rattle.std.specs.Option.{option_map}
use Rattle.std.specs.Str.{bytes_eq}
use Rattle.py_syntax.specs.Expressions.{ExprTree}
use Rattle.py_syntax.specs.Statements.{Suite, FuncTree}
use Rattle.py_binder.specs.Sights.{body_sights}
use Rattle.py_binder.specs.Scope.{all_there, seen_there, Roles, param_names, module_role, function_role, module_scope, first_sights, functions}
use Rattle.py_typed.specs.Sorts as sort
use Rattle.py_typed.specs.Sorts.{Sort}
use Rattle.py_typed.specs.Classes.{ClassEntry, Signature}
use Rattle.py_typed.specs.Fits.{is_nothing}
use Rattle.py_typed.specs.Narrowing as typed_flow
use Rattle.py_typed.specs.Statements.{TypedModule, TypedFunc, TypedStmt}
use Rattle.py_typed.specs.WellTypedExpr.{is_value_type, is_result_type, init_class, declared}
use Rattle.py_typed.specs.WellTyped.{all_differ, has_statement, suite_typed}
use Rattle.py_typed.specs.WellTypedModule.{names_of, all_at, is_init_of_trait, variables_typed, class_there, class_typed, func_typed, own_name, is_listed, is_well_typed}
use Rattle.py_typed.proofs.FitLemmas.{and_left, and_right}
use Rattle.py_check_context.specs.declared.scope.Meaning.{Meaning}
use Rattle.py_check_context.specs.declared.scope.Meaning.TheVariants as meaning
use Rattle.py_check_context.specs.Context.{Context, VarSort, has, var_at}
use Rattle.py_check_flow.specs.Bindings.{suite_bindings}
use Rattle.py_check_flow.specs.Closed as flow
use Rattle.py_check_messages.specs.Messages as message
use Rattle.py_check_names.specs.Meanings.{is_own, own_names}
use Rattle.py_check_names.specs.Outline.{suite_definitions}
use Rattle.py_check_signatures.specs.declared.headers.Owner.{Owner}
use Rattle.py_check_signatures.specs.declared.headers.Owner.TheVariants as owner
use Rattle.py_check_signatures.specs.Headers.{param_types, marked, is_init, signature_of}
use Rattle.py_check_signatures.specs.Definitions.{repeated, is_builtin_name, gives_value}
use Rattle.py_check_places.specs.Places.{Known, is_unset}
use Rattle.py_check_statements.specs.Bodies.{nothing_around}
use Rattle.py_check_definitions.specs.Names.{module_meaning}
use Rattle.py_check_definitions.specs.Owners.{owners}
use Rattle.py_check_definitions.specs.Definitions.{Headed, headed, inner_definitions_said, headed_functions, signatures}
use Rattle.py_check_definitions.specs.Starts.{given_sort, start_sort, own_sort}
use Rattle.py_check.specs.Module.{ModuleContext, function_context, class_of, plain_signature, statements_of, return_of, function_start, body, body_after, typed_function, bodies_said, typed_functions, global_sorts, module_context, said, diagnostics, typed}
use Rattle.py_check.proofs.Bindings.{there}
use Rattle.py_check.proofs.Kept.{follows_block}
use Rattle.py_check.proofs.NameRows.{sights_differ, differ_filter, scope_names}
use Rattle.py_check_expressions_laws.specs.Laws as law
use Rattle.py_check_expressions_laws.proofs.Loud.{none_before, none_behind}
use Rattle.py_check_members_laws.proofs.Formed.{HasClasses, IsOwned, all_formed, all_listed, init_of_no_trait}
use Rattle.py_check_laws.specs.WellTyped.{is_suite_written, is_filled}
use Rattle.py_check_laws.specs.Modules.{has_type, all_have_types, are_own_typed, is_module_written, body_stands, is_entry_named, are_names_written}
use Rattle.py_check_laws.proofs.Given.{some_of}
use Rattle.py_check_laws.proofs.Shapes.{shape_block}
use Rattle.py_check_laws.proofs.Inner.{suite_none}
use Rattle.py_check_laws.proofs.Closed.{mapped_at, given_set}
use Rattle.py_check_laws.proofs.Signed.{is_owned, signed, IsSigned, AllSigned}
use Rattle.py_check_laws.proofs.Bodied.{nothing_placed, body_typed}
use Rattle.py_check_laws.proofs.Quieted as quiet
use Rattle.py_check_laws.proofs.Varied as vary
use Rattle.py_check_laws.proofs.Differ.{variables_differ}
use Rattle.py_check_laws.proofs.NamedHere.{names_differ_here}
use Rattle.py_check_laws.proofs.Formed.{variables_named, own_front, params_differ, at_front, param_start, mapped_none, filled_block}
use Rattle.py_check_laws.proofs.Methods.{is_placed, types_many}
use Rattle.py_check_laws.proofs.FuncGood.{variables_good, IsGood, func_good}
use Rattle.py_check_laws.proofs.Described.{Placed, result_value, function_stands, final_behind, gs_values, all_stand}
use Rattle.py_check_laws.proofs.Classes as classes
use Rattle.py_check_laws.proofs.Reached.{class_owned, reach, inner_reach}
use Rattle.py_check_laws.proofs.Standing.{classes_stand, top_placed, inner_placed, top_functions, inner_functions, owners_placed, has_whole}

ends_by : (o : Option Sort) (b c : Bool) → is_some o ≡ true → (gives_value o && not b) ≡ false → c ≡ b → (is_nothing (unwrap_or o sort.Nothing) || c) ≡ true
ends_by None b c h e q = absurd (cc)
ends_by (Some sort.Nothing) b c h e q = refl
ends_by (Some t) true c h e q = or_right (is_nothing t) c q
ends_by (Some t) false c h e q = absurd (cc)

seven : (a b c d e f g : Bool) → a ≡ true → b ≡ true → c ≡ true → d ≡ true → e ≡ true → f ≡ true → g ≡ true → (a && b && c && d && e && f && g) ≡ true
seven true true true true true true true p0 p1 p2 p3 p4 p5 p6 = refl
seven _ _ _ _ _ _ _ p0 p1 p2 p3 p4 p5 p6 = absurd (cc)

of_three : (a b c : Bool) → (a && b && c) ≡ true → (a ≡ true) × (b ≡ true) × (c ≡ true)
of_three true true true h = (refl, refl, refl)
of_three _ _ _ h = absurd (cc)

owned_placed : (whose : Owner) → is_owned whose ≡ true → is_placed whose ≡ true
owned_placed owner.Module h = refl
owned_placed (owner.Class None) h = absurd (cc)
owned_placed (owner.Class (Some c)) h = refl
owned_placed owner.UntypedTrait h = absurd (cc)

module _ (is_identifier : List ℕ → Bool) (m : Suite) (nothing : said m ≡ []) where
  abbrev e : ModuleContext
  e = module_context m

  abbrev roles : Roles
  roles = module_role m

  abbrev meant : List ℕ → Meaning
  meant = module_meaning m

  abbrev size : ℕ
  size = length e.classes

  abbrev tree : TypedModule
  tree = typed m

  abbrev gs : List VarSort
  gs = global_sorts e (module_scope m) (headed_functions m) m

  abbrev placed : (x : List ℕ) (i : ℕ) → meant x ≡ meaning.Class i → nat_lt i size ≡ true
  placed = top_placed m nothing

  -- a function that is of no class, or of one of the module's
  abbrev IsHeld : ℕ → TypedFunc → Type 0
  IsHeld i F = (F.class ≡ None) ⊎ IsOwned (classes.named m nothing) (classes.meant m nothing) (classes.inner m nothing) (classes.ds m nothing) i F

  -- what is known of all classes, where their names pass
  abbrev Whole : Type 0
  Whole = HasClasses (classes.named m nothing) (classes.meant m nothing) (classes.inner m nothing) (classes.ds m nothing) is_identifier tree (signatures m)

  class_good : (whose : Owner) → Placed size meant placed whose → class_there is_identifier tree (class_of whose) ≡ true
  class_good owner.Module h = refl
  class_good (owner.Class None) h = refl
  class_good owner.UntypedTrait h = refl
  class_good (owner.Class (Some c)) h = h c refl

  init_good : Whole → (i : ℕ) (F : TypedFunc) → IsHeld i F → is_init_of_trait tree.classes.classes (init_class F) ≡ false
  init_good w i F (inl h) = by (bytes_eq F.name (codes "__init__"))
    where
      by : (b : Bool) → is_init_of_trait tree.classes.classes (if b then F.class else None) ≡ false
      by true = ap (is_init_of_trait tree.classes.classes) h
      by false = refl
  init_good w i F (inr o) = init_of_no_trait (classes.named m nothing) (classes.meant m nothing) (classes.inner m nothing) (classes.ds m nothing) is_identifier tree (signatures m) w (classes.methods_new m nothing) i F o

  -- ---- one function

  module _ (p : FuncTree × Owner) (sg : IsSigned meant (quiet.typed_names m nothing) roles p) (here : Placed size meant placed p.1) (sorts : List VarSort) where
    abbrev f : FuncTree
    f = p.0

    abbrev hd : Headed
    hd = headed roles meant p

    abbrev D : Context
    D = function_context e hd

    abbrev first : Known
    first = function_start D e.variables sorts hd

    abbrev last : Known
    last = body_after D e.variables sorts hd

    abbrev own : List (List ℕ)
    own = own_names hd.inside

    abbrev seen : List (List ℕ)
    seen = param_names f ++ all_there seen_there (body_sights f)

    abbrev of_own : List ℕ → VarSort
    of_own = own_sort D.meaning (suite_bindings f.body) (param_names f) hd.header.params

    abbrev F : TypedFunc
    F = typed_function D e.variables sorts hd

    own_differ : all_differ own ≡ true
    own_differ = ap all_differ (scope_names is_own (function_role roles f) seen) ∙ differ_filter (λ y. is_own (function_role roles f y)) (first_sights seen) (sights_differ seen)

    once : repeated [] (param_names f) ≡ None
    once = mapped_none message.duplicate_parameter (repeated [] (param_names f)) sg.sound.1.names

    plain : find is_builtin_name (param_names f) ≡ None
    plain = mapped_none message.cannot_assign (find is_builtin_name (param_names f)) sg.sound.1.plain

    -- a parameter keeps the type that its definition gives it
    param_kept : (j : ℕ) (o : Option Sort) → slice_get hd.header.params j ≡ Some o → var_at last.types.locals j ≡ given_sort o
    param_kept j o h =
        let x = there f.params j (subst (λ n. j < n) params_many (slice_get_within hd.header.params j o h)) in
        let w = own_front f roles once plain sg.sound.1.few in
        let name : slice_get (param_names f) j ≡ Some x.0.0 = slice_get-map (λ (z : List ℕ × Option ExprTree). z.0) f.params j ∙ ap (option_map (λ (z : List ℕ × Option ExprTree). z.0)) x.1 in
        let placed_own : slice_get own j ≡ Some x.0.0 = ap (λ l. slice_get l j) w.1 ∙ at_front f.params w.0 j x.0 x.1 in
        let q : var_at first.types.locals j ≡ given_sort o =
        mapped_at of_own own j x.0.0 placed_own ∙ param_start (param_names f) hd.header.params j x.0.0 o (start_sort D.meaning (suite_bindings f.body) x.0.0) (params_differ f roles once plain sg.sound.1.few) name h in
        (follows_block D first f.body).locals.stays j (ap is_unset q ∙ given_set o) ∙ q
      where
        params_many : length hd.header.params ≡ length f.params
        params_many = types_many p.1 (param_types meant f.params) ∙ length-map f.params (λ (z : List ℕ × Option ExprTree). (marked meant z.1).got)

    result_good : is_result_type size F.ret ≡ true
    result_good = by hd.header.ret refl sg.types.ret
      where
        by : (o : Option Sort) → hd.header.ret ≡ o → is_some o ≡ true → is_result_type size (unwrap_or o sort.Nothing) ≡ true
        by None q h = absurd (cc)
        by (Some t) q h = result_value size meant placed (is_init p.1 f.name) f.ret t q

    good_with : (s : Signature) → signature_of hd.header ≡ Some s → IsGood roles meant p D e.variables sorts s
    good_with s q = record {
      once = once;
      plain = plain;
      few = sg.sound.1.few;
      placed = owned_placed p.1 (class_owned m nothing p sg);
      first = sg.sound.1.has_own;
      signed = q;
      kept = param_kept;
    }

    -- THE FUNCTION is well typed, where its variables are and its body stands
    function_good : (i : ℕ) → Whole → IsHeld i F → slice_get tree.classes.signatures i ≡ Some (plain_signature (signature_of hd.header)) → is_identifier f.name ≡ true → list_all is_identifier own ≡ true → is_filled f.body ≡ true → all_have_types last.types.locals 0 own ≡ true
        → ((j : ℕ) (t : Sort) → var_at last.types.locals j ≡ has t → is_value_type size t ≡ true) → body_stands tree F ≡ true → suite_definitions f.body ≡ [] → (ts : List TypedStmt) → (body D e.variables sorts hd).got ≡ Some ts → func_typed is_identifier tree i F ≡ true
    function_good i w held at id ids full have values stands pure ts got =
        let s = some_of (signature_of hd.header) (signed hd.header sg.types) in
        let shape = shape_block D (return_of hd.header.ret) nothing_around first f.body ts got in
        func_good roles meant p D e.variables sorts s.0 (good_with s.0 s.1) is_identifier tree i (at ∙ ap (λ o. Some (plain_signature o)) s.1) id (class_good p.1 here) ids own_differ have values result_good (init_good w i F held)
        (ap (λ o. has_statement (statements_of o)) got ∙ filled_block D (return_of hd.header.ret) nothing_around first f.body ts full pure got)
        (ends_by hd.header.ret (flow.is_closed f.body) (typed_flow.is_closed F.body) sg.types.ret sg.sound.1.ends (ap (λ o. typed_flow.is_closed (statements_of o)) got ∙ shape.closed)) stands

  -- ---- all functions

  abbrev written_name : Headed → Bool
  written_name f = is_identifier f.tree.name && list_all is_identifier (own_names f.inside) && is_filled f.tree.body

  abbrev is_written : FuncTree × Owner → Bool
  is_written p = is_suite_written p.0.body

  abbrev heads_of : List (FuncTree × Owner) → List Headed
  heads_of ps = map (headed roles meant) ps

  functions_good : Whole → (i : ℕ) (sorts : List VarSort) → length sorts ≡ length e.variables → ((j : ℕ) → law.is_untyped (var_at sorts j) ≡ false) → ((j : ℕ) (t : Sort) → var_at sorts j ≡ has t → is_value_type size t ≡ true) → ((j : ℕ) → j < length e.variables → has_type (var_at sorts j) ≡ true) → (ps : List (FuncTree × Owner))
      → AllSigned meant (quiet.typed_names m nothing) roles ps → AllByRecursion (λ (p : FuncTree × Owner). Placed size meant placed p.1) ps → bodies_said e sorts (heads_of ps) ≡ []
      → ((g : Headed) (j : ℕ) (t : Sort) → var_at (body_after (function_context e g) e.variables sorts g).types.globals j ≡ has t → declared tree.globals j ≡ Some t) → list_all is_written ps ≡ true → flat_map (λ (p : FuncTree × Owner). inner_definitions_said p.0) ps ≡ []
      → are_own_typed e sorts (heads_of ps) ≡ true → list_all written_name (heads_of ps) ≡ true → ((j : ℕ) → slice_get tree.classes.signatures (i + j) ≡ slice_get (map (λ (f : Headed). plain_signature (signature_of f.header)) (heads_of ps)) j)
      → ((j : ℕ) (F : TypedFunc) → slice_get (typed_functions e sorts (heads_of ps)) j ≡ Some F → IsHeld (i + j) F) → all_at i (func_typed is_identifier tree) (typed_functions e sorts (heads_of ps)) ≡ true
  functions_good w i sorts q before gv gh [] a o h final written pure have ns at held = refl
  functions_good w i sorts q before gv gh (p ∷ ps) a o h final written pure have ns at held =
      let f = p.0 in
      let hf = headed roles meant p in
      let c = function_context e hf in
      let one = body c e.variables sorts hf in
      let more = bodies_said e sorts (heads_of ps) in
      let all_pure = flat_map (λ (r : FuncTree × Owner). inner_definitions_said r.0) ps in
      let b = body_typed e sorts hf (inner_reach m nothing p a.here) (quiet.inner_typed m nothing p) (quiet.inner_known m nothing p a.here.names) a.here.types before (none_before one.said more h) in
      let ts = some_of one.got b.typed in
      let none = suite_none f.body (none_before (inner_definitions_said f) all_pure pure) in
      let s = function_stands m nothing (reach m nothing) (inner_reach m nothing) (classes_stand m nothing) placed (inner_placed m nothing) (top_functions m nothing) (inner_functions m nothing) p a.here o.0 sorts q gv gh (final hf)
      (and_left (is_written p) (list_all is_written ps) written) none ts.0 ts.1 in
      let w3 = of_three (is_identifier f.name) (list_all is_identifier (own_names hf.inside)) (is_filled f.body) (and_left (written_name hf) (list_all written_name (heads_of ps)) ns) in
      let ends = (body_after c e.variables sorts hf).types.locals in
      let F = typed_function c e.variables sorts hf in
      let good = function_good p a.here o.0 sorts i w (subst (λ n. IsHeld n F) (more_none i) (held 0 F refl)) (ap (slice_get tree.classes.signatures) (no_more i) ∙ at 0) w3.0 w3.1 w3.2
      (and_left (all_have_types ends 0 (own_names hf.inside)) (are_own_typed e sorts (heads_of ps)) have) s.locals s.typed none ts.0 ts.1 in
      and_from (func_typed is_identifier tree i F) (all_at (suc i) (func_typed is_identifier tree) (typed_functions e sorts (heads_of ps))) good
      (functions_good w (suc i) sorts q before gv gh ps a.rest o.1 (none_behind one.said more h) final (and_right (is_written p) (list_all is_written ps) written) (none_behind (inner_definitions_said f) all_pure pure)
      (and_right (all_have_types ends 0 (own_names hf.inside)) (are_own_typed e sorts (heads_of ps)) have) (and_right (written_name hf) (list_all written_name (heads_of ps)) ns)
      (λ j. ap (slice_get tree.classes.signatures) (one_on i j) ∙ at (suc j)) (λ j G r. subst (λ n. IsHeld n G) (sym (one_on i j)) (held (suc j) G r)))
    where
      no_more : (i : ℕ) → i ≡ i + 0
      no_more i = omega arith

      more_none : (i : ℕ) → i + 0 ≡ i
      more_none i = omega arith

      one_on : (i j : ℕ) → suc i + j ≡ i + suc j
      one_on i j = omega arith

  -- ---- the whole

  pub well_typed : is_module_written m ≡ true → are_names_written is_identifier m ≡ true → is_well_typed is_identifier tree ≡ true
  well_typed written ns =
      let ps = quiet.pairs m nothing in
      let reached = reach m nothing in
      let inner = inner_reach m nothing in
      let K = classes_stand m nothing in
      let bodies_written = list_all (λ f. is_suite_written f.body) (functions m) in
      let parts = of_three (list_all is_identifier e.variables) (list_all written_name (headed_functions m)) (list_all (is_entry_named is_identifier) e.classes) ns in
      let w = has_whole m nothing is_identifier parts.2 in
      let gv = gs_values m nothing reached inner K placed (inner_placed m nothing) (top_functions m nothing) (inner_functions m nothing) (and_left (is_suite_written m) bodies_written written) in
      let have = vary.variables_typed m nothing reached inner in
      let globals = variables_good is_identifier tree gs e.variables parts.0 (variables_differ m) (and_left (all_have_types gs 0 e.variables) (are_own_typed e gs (headed_functions m)) have) gv in
      let behind : List (List ℕ) = flat_map (own_name is_identifier tree) tree.funcs ++ map (λ (c : ClassEntry). c.name) e.classes in
      let names : all_differ (names_of tree.globals ++ behind) ≡ true = ap (λ l. all_differ (l ++ behind)) (variables_named gs 0 e.variables) ∙ names_differ_here is_identifier tree gs m nothing in
      let many : length tree.classes.signatures ≡ length tree.funcs =
      length-map (headed_functions m) (λ (f : Headed). plain_signature (signature_of f.header)) ∙ sym (length-map (headed_functions m) (λ (f : Headed). typed_function (function_context e f) e.variables gs f)) in
      let held : (i : ℕ) (F : TypedFunc) → slice_get tree.funcs i ≡ Some F → IsHeld i F = classes.function_owned m nothing in
      let all = functions_good w 0 gs (vary.top_size m nothing reached inner) (vary.top_typed m nothing reached inner) gv (vary.global_has m nothing reached inner) ps (quiet.all_functions m nothing) (owners_placed m nothing) (quiet.bodies_quiet m nothing)
      (final_behind m nothing reached inner K placed (inner_placed m nothing) (top_functions m nothing) (inner_functions m nothing)) (quiet.zip_all (λ f. is_suite_written f.body) (functions m) (owners m) (and_right (is_suite_written m) bodies_written written))
      (quiet.zip_first inner_definitions_said (functions m) (owners m) (quiet.owners_many m nothing) ∙ quiet.inner_quiet m nothing) (and_right (all_have_types gs 0 e.variables) (are_own_typed e gs (headed_functions m)) have) parts.1 (λ j. ap (slice_get tree.classes.signatures) (nothing_first j))
      (λ j F r. subst (λ n. IsHeld n F) (sym (nothing_first j)) (held j F r)) in
      let stand = all_stand m nothing reached inner K placed (inner_placed m nothing) (top_functions m nothing) (inner_functions m nothing) (owners_placed m nothing) written in
      seven (variables_typed is_identifier tree tree.globals) (all_differ (names_of tree.globals ++ behind)) (length tree.classes.signatures == length tree.funcs) (all_at 0 (class_typed is_identifier tree) tree.classes.classes) (all_at 0 (is_listed is_identifier tree) tree.funcs)
      (all_at 0 (func_typed is_identifier tree) tree.funcs) (suite_typed tree [] None None [] false false tree.top) globals names (eq-eqb (length tree.classes.signatures) (length tree.funcs) many)
      (all_formed (classes.named m nothing) (classes.meant m nothing) (classes.inner m nothing) (classes.ds m nothing) is_identifier tree (signatures m) w)
      (all_listed (classes.named m nothing) (classes.meant m nothing) (classes.inner m nothing) (classes.ds m nothing) is_identifier tree (signatures m) w (classes.methods_new m nothing) held) all
      (and_left (suite_typed tree [] None None [] false false tree.top) (list_all (body_stands tree) tree.funcs) stand)
    where
      nothing_first : (j : ℕ) → 0 + j ≡ j
      nothing_first j = omega arith

pub quiet_is_well_typed : (is_identifier : List ℕ → Bool) (m : Suite) → diagnostics m ≡ [] → is_module_written m ≡ true → are_names_written is_identifier m ≡ true → is_well_typed is_identifier (typed m) ≡ true
quiet_is_well_typed is_identifier m h w ns = well_typed is_identifier m (nothing_placed (said m) h) w ns

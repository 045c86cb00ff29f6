-- A function of which nothing is said is well typed, where its variables have types and its body is.
use Rattle.std.proofs.Common.{◌≡◌, ℕ, suc, ◌+◌, Bool, true, false, not, ◌&&◌, List, [], ◌∷◌, ◌++◌, length, take, slice_get, nat_lt, Option, Some, None, refl, ap, sym, ◌∙◌, unwrap_or, arith}
use Rattle.std.proofs.lemmas.Bool.{and_from}
use Rattle.std.proofs.lemmas.List.{length-map}
use Rattle.std.specs.Prelude.{is_some, codes, find}
use Rattle.std.specs.List.{list_all}
use Rattle.std.specs.Str.{bytes_eq}
use Rattle.py_syntax.specs.Expressions.{ExprTree}
use Rattle.py_syntax.specs.Statements.{FuncTree}
use Rattle.py_binder.specs.Scope.{Roles, param_names, function_scope}
use Rattle.py_typed.specs.Sorts as sort
use Rattle.py_typed.specs.Sorts.{Sort}
use Rattle.py_typed.specs.Classes.{Signature}
use Rattle.py_typed.specs.Fits.{is_nothing, is_same_type}
use Rattle.py_typed.specs.Statements.{TypedModule, TypedFunc}
use Rattle.py_typed.specs.WellTypedExpr.{is_value_type, is_result_type, init_class}
use Rattle.py_typed.specs.WellTyped.{all_differ, has_statement, suite_typed}
use Rattle.py_typed.specs.WellTypedModule.{names_of, types_in, same_row, ends_well, parameter_types, has_self, signature_fits, init_gives_nothing, is_init_of_trait, variables_typed, class_there, func_typed}
use Rattle.py_typed.proofs.FitLemmas.{type_is_itself}
use Rattle.py_check_context.specs.declared.scope.Meaning.{Meaning}
use Rattle.py_check_context.specs.Context.{Context, VarSort, has, var_at}
use Rattle.py_check_names.specs.Meanings.{own_names}
use Rattle.py_check_signatures.specs.declared.headers.Owner.{Owner}
use Rattle.py_check_signatures.specs.declared.headers.Owner.TheVariants as owner
use Rattle.py_check_signatures.specs.Headers.{param_types, returned, is_init, return_at, signature_of, marked}
use Rattle.py_check_signatures.specs.Definitions.{lacks_own, repeated, own_count, is_builtin_name}
use Rattle.py_check_places.specs.Places.{Known}
use Rattle.py_check_definitions.specs.Definitions.{Headed, headed}
use Rattle.py_check_definitions.specs.Starts.{given_sort}
use Rattle.py_check_definitions.specs.Variables.{typed_variables}
use Rattle.py_check.specs.Module.{class_of, body_after, typed_function}
use Rattle.py_check_laws.specs.Modules.{all_have_types, body_stands}
use Rattle.py_check_laws.proofs.Formed.{variables_named, types_valued, variables_long, own_front, params_few, own_few, params_same, row_is_itself}
use Rattle.py_check_laws.proofs.Methods.{is_placed, behind_own, Row, types_row, Given, signature_gives, parameters_are, init_good, init_returns, types_many}

thirteen : (a b c d e f g h i j k l m : Bool) → a ≡ true → b ≡ true → c ≡ true → d ≡ true → e ≡ true → f ≡ true → g ≡ true → h ≡ true → i ≡ true → j ≡ true → k ≡ true → l ≡ true → m ≡ true → (a && b && c && d && e && f && g && h && i && j && k && l && m) ≡ true
thirteen true true true true true true true true true true true true true p0 p1 p2 p3 p4 p5 p6 p7 p8 p9 pa pb pc = refl
thirteen _ _ _ _ _ _ _ _ _ _ _ _ _ p0 p1 p2 p3 p4 p5 p6 p7 p8 p9 pa pb pc = absurd (cc)

three : (a b c : Bool) → a ≡ true → b ≡ true → c ≡ true → (a && b && c) ≡ true
three a b c p q r = cc

-- names and types of variables
pub variables_good : (is_identifier : List ℕ → Bool) (tree : TypedModule) (types : List VarSort) (ns : List (List ℕ)) → list_all is_identifier ns ≡ true → all_differ ns ≡ true → all_have_types types 0 ns ≡ true → ((i : ℕ) (t : Sort) → var_at types i ≡ has t → is_value_type (length tree.classes.classes) t ≡ true) → variables_typed is_identifier tree (typed_variables types ns) ≡ true
variables_good is_identifier tree types ns ids d have values =
    three (list_all is_identifier (names_of (typed_variables types ns))) (all_differ (names_of (typed_variables types ns))) (list_all (is_value_type (length tree.classes.classes)) (types_in (typed_variables types ns))) (ap (list_all is_identifier) (variables_named types 0 ns) ∙ ids)
    (ap all_differ (variables_named types 0 ns) ∙ d) (types_valued (length tree.classes.classes) types 0 ns have values)

module _ (roles : Roles) (meanings : List ℕ → Meaning) (p : FuncTree × Owner) (C : Context) (names : List (List ℕ)) (sorts : List VarSort) where
  abbrev hd : Headed
  hd = headed roles meanings p

  abbrev F : TypedFunc
  F = typed_function C names sorts hd

  abbrev last : Known
  last = body_after C names sorts hd

  abbrev own : List (List ℕ)
  own = own_names hd.inside

  -- what its definition, its signature and its variables say
  pub record IsGood (s : Signature) : Type 0 where
    pub once : repeated [] (param_names p.0) ≡ None
    pub plain : find is_builtin_name (param_names p.0) ≡ None
    pub few : nat_lt 100 (own_count (function_scope roles p.0)) ≡ false
    pub placed : is_placed p.1 ≡ true
    pub first : lacks_own p.1 p.0.params ≡ false
    pub signed : signature_of hd.header ≡ Some s
    pub kept : (j : ℕ) (o : Option Sort) → slice_get hd.header.params j ≡ Some o → var_at last.types.locals j ≡ given_sort o

  module _ (s : Signature) (good : IsGood s) where
    given : Given hd.header s
    given = signature_gives hd.header s good.signed

    row : Row p.1 hd.header.params s.params
    row = types_row p.1 p.0.params (param_types meanings p.0.params) s.params good.placed good.first (length-map p.0.params (λ (z : List ℕ × Option ExprTree). (marked meanings z.1).got)) given.params

    long : length p.0.params ≡ length (param_names p.0)
    long = sym (length-map p.0.params (λ (z : List ℕ × Option ExprTree). z.0))

    -- the types of parameters
    declared : types_in (take F.params F.locals) ≡ row.types
    declared =
        let w = own_front p.0 roles good.once good.plain good.few in
        ap (λ l. types_in (take (length p.0.params) (typed_variables last.types.locals l))) w.1
        ∙ ap (λ n. types_in (take n (typed_variables last.types.locals (param_names p.0 ++ w.0)))) long
        ∙ params_same (param_names p.0) w.0 hd.header.params last.types.locals 0 row.types
        (types_many p.1 (param_types meanings p.0.params) ∙ length-map p.0.params (λ (z : List ℕ × Option ExprTree). (marked meanings z.1).got) ∙ long) row.all (λ j o h. ap (var_at last.types.locals) (no_more j) ∙ good.kept j o h)
      where
        no_more : (j : ℕ) → 0 + j ≡ j
        no_more j = omega arith

    self_good : has_self F.class (types_in (take F.params F.locals)) ≡ true
    self_good = ap (has_self (class_of p.1)) declared ∙ row.self

    signature_good : (same_row (parameter_types F) s.params && is_same_type F.ret s.ret) ≡ true
    signature_good =
        and_from (same_row (parameter_types F) s.params) (is_same_type F.ret s.ret) (row_is_itself (parameter_types F) s.params (parameters_are F (class_of p.1) refl ∙ ap (behind_own (class_of p.1)) declared ∙ row.rest))
        (ap (λ o. is_same_type (unwrap_or o sort.Nothing) s.ret) given.ret ∙ type_is_itself s.ret)

    init_right : init_gives_nothing F ≡ true
    init_right = init_good F (λ q g. by p.1 q g)
      where
        by : (whose : Owner) → bytes_eq p.0.name (codes "__init__") ≡ true → is_some (class_of whose) ≡ true → is_nothing (unwrap_or (return_at (is_init whose p.0.name) p.0.ret (returned meanings p.0.ret).got) sort.Nothing) ≡ true
        by owner.Module q g = absurd (cc)
        by owner.UntypedTrait q g = absurd (cc)
        by (owner.Class c) q g = ap (λ (b : Bool). is_nothing (unwrap_or (return_at b p.0.ret (returned meanings p.0.ret).got) sort.Nothing)) q ∙ init_returns p.0.ret (returned meanings p.0.ret).got

    -- THE FUNCTION
    pub func_good : (is_identifier : List ℕ → Bool) (tree : TypedModule) (i : ℕ) → slice_get tree.classes.signatures i ≡ Some s → is_identifier p.0.name ≡ true → class_there is_identifier tree F.class ≡ true → list_all is_identifier own ≡ true → all_differ own ≡ true → all_have_types last.types.locals 0 own ≡ true
        → ((j : ℕ) (t : Sort) → var_at last.types.locals j ≡ has t → is_value_type (length tree.classes.classes) t ≡ true) → is_result_type (length tree.classes.classes) F.ret ≡ true → is_init_of_trait tree.classes.classes (init_class F) ≡ false → has_statement F.body ≡ true → ends_well F ≡ true → body_stands tree F ≡ true
        → func_typed is_identifier tree i F ≡ true
    func_good is_identifier tree i at id there ids differ have values result no_trait full ends stands =
        let many : length F.locals ≡ length own = variables_long last.types.locals 0 own in
        thirteen (is_identifier F.name) (class_there is_identifier tree F.class) (nat_lt F.params (suc (length F.locals))) (nat_lt (length F.locals) 101) (variables_typed is_identifier tree F.locals) (is_result_type (length tree.classes.classes) F.ret) (has_self F.class (types_in (take F.params F.locals)))
        (signature_fits (slice_get tree.classes.signatures i) F) (init_gives_nothing F) (not (is_init_of_trait tree.classes.classes (init_class F))) (has_statement F.body) (ends_well F) (suite_typed tree F.locals (init_class F) (Some F.ret) [] false false F.body) id there
        (ap (λ n. nat_lt F.params (suc n)) many ∙ params_few p.0 roles good.once good.plain good.few) (ap (λ n. nat_lt n 101) many ∙ own_few p.0 roles good.once good.plain good.few) (variables_good is_identifier tree last.types.locals own ids differ have values) result self_good
        (ap (λ o. signature_fits o F) at ∙ signature_good) init_right (ap not no_trait) full ends stands

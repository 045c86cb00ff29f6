-- The statements of a module of which nothing is said are well typed.
use Rattle.std.proofs.Common.{◌≡◌, ℕ, zero, suc, ◌+◌, ◌<◌, Bool, true, false, cond, List, [], ◌∷◌, ◌++◌, length, map, slice_get, Option, Some, None, refl, ap, sym, ◌∙◌, subst, if◌then◌else◌, unwrap_or, arith, nat_lt}
use Rattle.std.proofs.lemmas.Bool.{and_from}
use Rattle.std.proofs.lemmas.List.{length-map}
use Rattle.std.proofs.lemmas.Option.{same_Some, slice_get_within}
use Rattle.std.specs.Prelude.{is_some, drop, codes}
use Rattle.std.specs.List.{list_all, flat_map, zip, AllByRecursion}
use Rattle.std.specs.Map.{lookup}
use Rattle.std.specs.Option.{option_map, option_zip, option_and_then}
use Rattle.std.specs.Str.{bytes_eq}
use Rattle.py_syntax.specs.Expressions.{ExprTree}
use Rattle.py_syntax.specs.Statements.{Suite, FuncTree}
use Rattle.py_binder.specs.declared.sight.Home.TheVariants.{InModule}
use Rattle.py_binder.specs.Sights.{module_sights, body_sights}
use Rattle.py_binder.specs.Scope.{all_there, seen_there, Roles, param_names, module_role, function_role, module_scope, functions}
use Rattle.py_typed.specs.Sorts as sort
use Rattle.py_typed.specs.Sorts.{Sort}
use Rattle.py_typed.specs.Classes.{Signature}
use Rattle.py_typed.specs.Statements.{Variable, TypedModule, TypedFunc, TypedStmt, suite_of}
use Rattle.py_typed.specs.WellTypedExpr.{is_value_type, is_result_type, declared, is_function, init_class}
use Rattle.py_typed.specs.WellTyped.{suite_typed}
use Rattle.py_typed.proofs.FitLemmas.{and_left, and_right}
use Rattle.py_check_context.specs.declared.scope.Meaning.{Meaning}
use Rattle.py_check_context.specs.declared.scope.Meaning.TheVariants as meaning
use Rattle.py_check_context.specs.Context.{Context, VarSort, has, VarSorts, var_at, some_signature}
use Rattle.py_check_flow.specs.Bindings.{Binding, suite_bindings}
use Rattle.py_check_annotations.specs.Annotations.{annotation}
use Rattle.py_check_names.specs.Meanings.{own_names}
use Rattle.py_check_names.specs.Outline.{suite_definitions}
use Rattle.py_check_signatures.specs.Headers.{marked, returned, param_types, header, all_of, signature_of, types_at, asked, own_type, only_none, return_at, is_init}
use Rattle.py_check_values.specs.Returns as ret
use Rattle.py_check_places.specs.Places.{Known, is_unset}
use Rattle.py_check_statements.specs.Bodies.{nothing_around, block_after, block}
use Rattle.py_check_definitions.specs.Definitions.{Headed, headed, inner_definitions_said, headed_functions, signatures}
use Rattle.py_check_definitions.specs.Starts.{given_sort, first_mark, by_mark, start_sort, or_param, param_sort, own_sort}
use Rattle.py_check_definitions.specs.Variables.{sort_or_none, variables_from, typed_variables}
use Rattle.py_check.specs.Module.{ModuleContext, context_in, plain_signature, statements_of, return_of, module_start, own_statements, function_start, body, body_after, typed_function, bodies_said, typed_functions, global_sorts, module_context, said, typed, function_context, inside_by, method_inside, trait_inside, class_of}
use Rattle.py_check_expressions_laws.specs.Laws as law
use Rattle.py_check_expressions_laws.specs.WellTyped.{Describes, IsSigned, IsInitSigned, IsInside}
use Rattle.py_check_expressions_laws.proofs.Loud.{none_before, none_behind}
use Rattle.py_check_laws.specs.WellTyped.{is_suite_written, IsScope, IsResult}
use Rattle.py_check_laws.specs.Modules.{has_type, is_module_written, body_stands, statements_stand}
use Rattle.py_check_laws.proofs.Given.{some_of}
use Rattle.py_check.proofs.Bindings.{there}
use Rattle.py_check.proofs.Kept.{follows_itself, follows_block, is_open}
use Rattle.py_check_laws.proofs.Closed.{IsMarked, mapped_at, given_set}
use Rattle.py_check_laws.proofs.Settled.{Valued, AreDeclared, declared_before, Setting, settled_block}
use Rattle.py_check_laws.proofs.Stand.{stands_in}
use Rattle.py_check_laws.proofs.Whole.{quiet_got, loud_block, InReach}
use Rattle.py_check_laws.proofs.Meant.{Fine, function_fine, local_place, global_place}
use Rattle.py_check_laws.proofs.Signed.{IsSigned as IsQuiet, AllSigned}
use Rattle.py_check_laws.proofs.Marked.{mark_valued, result_valued}
use Rattle.py_check_laws.proofs.Inner.{suite_none}
use Rattle.py_check.proofs.Bindings.{all_fixed, body_keeps}
use Rattle.py_check_signatures.specs.declared.headers.Owner.{Owner}
use Rattle.py_check_signatures.specs.declared.headers.Owner.TheVariants as owner
use Rattle.py_check_laws.proofs.Methods.{signature_gives}
use Rattle.py_check_context.specs.Members.{attribute, method, Inside}
use Rattle.py_typed.specs.Order.{method_along, method_of, attribute_of, listed_order, order as order_of}
use Rattle.py_typed.specs.Laws.{IsClassTree}
use Rattle.py_binder.specs.declared.scope.Scope.{Scope}
use Rattle.py_check_laws.proofs.Owned.{scope_is}
use Rattle.py_check_laws.proofs.Bodied.{body_typed}
use Rattle.py_check_laws.proofs.Quieted as quiet
use Rattle.py_check_laws.proofs.Modules as whole
use Rattle.py_check_laws.proofs.Varied as vary
use Rattle.py_check_laws.proofs.Varied.{set_by}
use Rattle.py_check_definitions.specs.Names.{known_in, module_meaning}
use Rattle.py_check_definitions.specs.Owners.{owners}
use Rattle.py_check_expressions_laws.proofs.Sound.{at_classes}
use Rattle.py_typed.specs.Narrowing.{is_in}

-- ---- rows of variables

pub has_within : (types : List VarSort) (i : ℕ) (t : Sort) → var_at types i ≡ has t → i < length types
has_within [] i t h = absurd (cc)
has_within (v ∷ types) zero t h = omega arith
has_within (v ∷ types) (suc i) t h = let r = has_within types i t h in omega arith

declared_from : (types : List VarSort) (j : ℕ) (names : List (List ℕ)) (i : ℕ) → i < length names → declared (variables_from j types names) i ≡ Some (sort_or_none (var_at types (j + i)))
declared_from types j [] i h = absurd (omega arith)
declared_from types j (x ∷ names) zero h = ap (λ z. Some (sort_or_none (var_at types z))) (no_more j)
  where
    no_more : (j : ℕ) → j ≡ j + 0
    no_more j = omega arith
declared_from types j (x ∷ names) (suc i) h = declared_from types (suc j) names i (omega arith) ∙ ap (λ z. Some (sort_or_none (var_at types z))) (one_on j i)
  where
    one_on : (j i : ℕ) → suc j + i ≡ j + suc i
    one_on j i = omega arith

pub declared_has : (types : List VarSort) (names : List (List ℕ)) → length types ≡ length names → (i : ℕ) (t : Sort) → var_at types i ≡ has t → declared (typed_variables types names) i ≡ Some t
declared_has types names q i t h =
    declared_from types 0 names i (subst (λ n. i < n) q (has_within types i t h)) ∙ ap (λ z. Some (sort_or_none (var_at types z))) (nothing_first i) ∙ ap (λ (v : VarSort). Some (sort_or_none v)) h
  where
    nothing_first : (i : ℕ) → 0 + i ≡ i
    nothing_first i = omega arith

pub same_has : (s t : Sort) → has s ≡ has t → s ≡ t
same_has s t e = cc

-- ---- types of annotations

-- where there are so many classes, and each class that a name means is one of them
module _ (size : ℕ) where
  abbrev IsValue : Sort → Type 0
  IsValue t = is_value_type size t ≡ true

  given_value : (o : Option Sort) → ((t : Sort) → o ≡ Some t → IsValue t) → (t : Sort) → given_sort o ≡ has t → IsValue t
  given_value None h t q = absurd (cc)
  given_value (Some s) h t q = h t (ap Some (same_has s t q))

  module _ (meanings : List ℕ → Meaning) (placed : (x : List ℕ) (i : ℕ) → meanings x ≡ meaning.Class i → nat_lt i size ≡ true) where
    start_value : (bs : List Binding) (x : List ℕ) (t : Sort) → start_sort meanings bs x ≡ has t → IsValue t
    start_value bs x t q = by (first_mark bs x) q
      where
        by : (o : Option (Option ExprTree)) → by_mark meanings o ≡ has t → IsValue t
        by None r = absurd (cc)
        by (Some None) r = absurd (cc)
        by (Some (Some mark)) r = given_value (annotation meanings mark).got (mark_valued size meanings placed mark) t r

    marked_value : (o : Option ExprTree) (t : Sort) → (marked meanings o).got ≡ Some t → IsValue t
    marked_value None t q = absurd (cc)
    marked_value (Some mark) t q = mark_valued size meanings placed mark t q

    returned_value : (o : Option ExprTree) (t : Sort) → (returned meanings o).got ≡ Some t → is_result_type size t ≡ true
    returned_value None t q = absurd (cc)
    returned_value (Some mark) t q = result_valued size meanings placed mark t q

    -- of a method of a class in the table
    abbrev pub Placed : Owner → Type 0
    Placed owner.Module = Unit {0}
    Placed (owner.Class o) = (c : ℕ) → o ≡ Some c → nat_lt c size ≡ true
    Placed owner.UntypedTrait = Unit {0}

    type_value : (whose : Owner) → Placed whose → (test : List ℕ → Bool) (ps : List (List ℕ × Option ExprTree)) (o : Option Sort) → lookup test (zip (map (λ p. p.0) ps) (types_at whose (param_types meanings ps))) ≡ Some o → (t : Sort) → o ≡ Some t → IsValue t
    type_value owner.Module h test ps o q t g = param_value test ps o q t g
      where
        param_value : (test : List ℕ → Bool) (ps : List (List ℕ × Option ExprTree)) (o : Option Sort) → lookup test (zip (map (λ p. p.0) ps) (param_types meanings ps)) ≡ Some o → (t : Sort) → o ≡ Some t → IsValue t
        param_value test [] o q t g = absurd (cc)
        param_value test (p ∷ ps) o q t g = by (test p.0) q (λ r. param_value test ps o r t g)
          where
            by : (b : Bool) → cond b (Some (marked meanings p.1).got) (lookup test (zip (map (λ p. p.0) ps) (param_types meanings ps))) ≡ Some o → (lookup test (zip (map (λ p. p.0) ps) (param_types meanings ps)) ≡ Some o → IsValue t) → IsValue t
            by true r next = marked_value p.1 t (same_Some (marked meanings p.1).got o r ∙ g)
            by false r next = next r
    type_value (owner.Class c) h test [] o q t g = absurd (cc)
    type_value (owner.Class c) h test (p ∷ ps) o q t g = by (test p.0) q (λ r. type_value owner.Module tt test ps o r t g)
      where
        own : (d : Option ℕ) → d ≡ c → option_map sort.Instance d ≡ Some t → IsValue t
        own None e r = absurd (cc)
        own (Some i) e r = subst IsValue (same_Some (sort.Instance i) t r) (h i (sym e))

        by : (b : Bool) → cond b (Some (own_type c)) (lookup test (zip (map (λ p. p.0) ps) (param_types meanings ps))) ≡ Some o → (lookup test (zip (map (λ p. p.0) ps) (param_types meanings ps)) ≡ Some o → IsValue t) → IsValue t
        by true r next = own c refl (same_Some (own_type c) o r ∙ g)
        by false r next = next r
    type_value owner.UntypedTrait h test [] o q t g = absurd (cc)
    type_value owner.UntypedTrait h test (p ∷ ps) o q t g = by (test p.0) q (λ r. type_value owner.Module tt test ps o r t g)
      where
        by : (b : Bool) → cond b (Some (own_type None)) (lookup test (zip (map (λ p. p.0) ps) (param_types meanings ps))) ≡ Some o → (lookup test (zip (map (λ p. p.0) ps) (param_types meanings ps)) ≡ Some o → IsValue t) → IsValue t
        by true r next = absurd (let no : own_type None ≡ Some t = same_Some (own_type None) o r ∙ g in cc)
        by false r next = next r

    all_values : (ps : List (List ℕ × Option ExprTree)) (ts : List Sort) → all_of (param_types meanings ps) ≡ Some ts → list_all (is_value_type size) ts ≡ true
    all_values [] ts q = subst (λ l. list_all (is_value_type size) l ≡ true) (same_Some [] ts q) refl
    all_values (p ∷ ps) ts q = by (marked meanings p.1).got (all_of (param_types meanings ps)) refl refl q (λ ss y. all_values ps ss y)
      where
        by : (a : Option Sort) (b : Option (List Sort)) → (marked meanings p.1).got ≡ a → all_of (param_types meanings ps) ≡ b → option_map (λ (z : Sort × List Sort). z.0 ∷ z.1) (option_zip a b) ≡ Some ts → ((ss : List Sort) → all_of (param_types meanings ps) ≡ Some ss → list_all (is_value_type size) ss ≡ true) → list_all (is_value_type size) ts ≡ true
        by None b x y r next = absurd (cc)
        by (Some s) None x y r next = absurd (cc)
        by (Some s) (Some ss) x y r next = subst (λ l. list_all (is_value_type size) l ≡ true) (same_Some (s ∷ ss) ts r) (and_from (is_value_type size s) (list_all (is_value_type size) ss) (marked_value p.1 s x) (next ss y))

    asked_values : (whose : Owner) (ps : List (List ℕ × Option ExprTree)) (ts : List Sort) → all_of (asked whose (types_at whose (param_types meanings ps))) ≡ Some ts → list_all (is_value_type size) ts ≡ true
    asked_values owner.Module ps ts q = all_values ps ts q
    asked_values (owner.Class c) [] ts q = all_values [] ts q
    asked_values (owner.Class c) (p ∷ ps) ts q = all_values ps ts q
    asked_values owner.UntypedTrait [] ts q = all_values [] ts q
    asked_values owner.UntypedTrait (p ∷ ps) ts q = all_values ps ts q

    only_value : (o : Option Sort) (t : Sort) → only_none o ≡ Some t → is_result_type size t ≡ true
    only_value (Some sort.Nothing) t q = subst (λ s. is_result_type size s ≡ true) (same_Some sort.Nothing t q) refl
    only_value _ t q = absurd (cc)

    -- what a function gives
    pub result_value : (init : Bool) (mark : Option ExprTree) (t : Sort) → return_at init mark (returned meanings mark).got ≡ Some t → is_result_type size t ≡ true
    result_value false mark t q = returned_value mark t q
    result_value true None t q = subst (λ s. is_result_type size s ≡ true) (same_Some sort.Nothing t q) refl
    result_value true (Some mark) t q = only_value (returned meanings (Some mark)).got t q

    abbrev SignValues : Signature → Type 0
    SignValues t = (list_all (is_value_type size) t.params ≡ true) × (is_result_type size t.ret ≡ true)

    pub signature_values : (p : FuncTree × Owner) (t : Signature) → signature_of (header meanings p.1 p.0) ≡ Some t → SignValues t
    signature_values p t q =
        let g = signature_gives (header meanings p.1 p.0) t q in
        (asked_values p.1 p.0.params t.params g.params, result_value (is_init p.1 p.0.name) p.0.ret t.ret g.ret)

-- ---- functions

module _ (roles : Roles) (meanings : List ℕ → Meaning) where
  pub record SignAt (ps : List (FuncTree × Owner)) (i : ℕ) (t : Signature) : Type 0 where
    pub is : slice_get (map (λ (f : Headed). plain_signature (signature_of f.header)) (map (headed roles meanings) ps)) i ≡ Some t
    pub of : FuncTree × Owner
    pub signed : signature_of (header meanings of.1 of.0) ≡ Some t

  pub sign_at : (ps : List (FuncTree × Owner)) (i : ℕ) (t : Signature) → some_signature (slice_get (map (λ (f : Headed). signature_of f.header) (map (headed roles meanings) ps)) i) ≡ Some t → SignAt ps i t
  sign_at [] i t q = absurd (cc)
  sign_at (p ∷ ps) zero t q = record { is = ap (λ o. Some (plain_signature o)) q; of = p; signed = q }
  sign_at (p ∷ ps) (suc i) t q = let r = sign_at ps i t q in record { is = r.is; of = r.of; signed = r.signed }

result_is : (size : ℕ) (o : Option Sort) → is_some o ≡ true → ((t : Sort) → o ≡ Some t → is_result_type size t ≡ true) → IsResult size (return_of o) (Some (unwrap_or o sort.Nothing))
result_is size None h v = absurd (cc)
result_is size (Some t) h v = (refl, v t refl)

-- ---- classes of the module

-- what is known of the classes of a module that is typed as this tree, and of their members
pub record ClassesStand (e : ModuleContext) (tree : TypedModule) : Type 0 where
  pub same : tree.classes.classes ≡ e.classes
  pub order : IsClassTree e.classes
  pub attributes_are : (n : ℕ) (a : List ℕ) (t : Sort) → e.members.member n a ≡ Some (attribute t) → attribute_of e.classes n a ≡ Some t
  pub attributes_typed : (n : ℕ) (a : List ℕ) (t : Sort) → attribute_of e.classes n a ≡ Some t → is_value_type (length e.classes) t ≡ true
  pub methods_are : (n : ℕ) (a : List ℕ) (f : ℕ) → e.members.member n a ≡ Some (method f) → method_of e.classes n a ≡ Some f
  pub inits_are : (n : ℕ) → method_of e.classes n (codes "__init__") ≡ e.members.init n
  pub behind_are : (n : ℕ) → method_along e.classes (codes "__init__") (drop 1 (listed_order (order_of e.classes n))) ≡ e.members.next_init n
  pub inits_give : (n f : ℕ) (s : Signature) → e.members.init n ≡ Some f → some_signature (slice_get e.signatures f) ≡ Some s → s.ret ≡ sort.Nothing
  pub behind_give : (n f : ℕ) (s : Signature) → e.members.next_init n ≡ Some f → some_signature (slice_get e.signatures f) ≡ Some s → s.ret ≡ sort.Nothing

module _ (e : ModuleContext) (tree : TypedModule) (K : ClassesStand e tree) (signed : (i : ℕ) (t : Signature) → some_signature (slice_get e.signatures i) ≡ Some t → IsSigned tree i t) where
  init_signed : (o : Option ℕ) → ((f : ℕ) (s : Signature) → o ≡ Some f → some_signature (slice_get e.signatures f) ≡ Some s → s.ret ≡ sort.Nothing) → (f : ℕ) (s : Signature) → o ≡ Some f → some_signature (slice_get e.signatures f) ≡ Some s → IsInitSigned tree f s
  init_signed o gives f s p q = record { nothing = gives f s p q; signed = signed f s q }

  -- the `__init__` that a function is
  inside_at : (f : Headed) (whose : Owner) (i : Inside) (n : ℕ) → inside_by e.members f whose ≡ Some i → i.is_init ≡ true → i.class ≡ Some n → whose ≡ f.header.owner → IsInside e.classes (if bytes_eq f.tree.name (codes "__init__") then class_of whose else None) n i.next_init
  inside_at f owner.Module i n p b c w = absurd (cc)
  inside_at f (owner.Class d) i n p b c w = by (same_Some (method_inside e.members f d) i p)
    where
      by : method_inside e.members f d ≡ i → IsInside e.classes (if bytes_eq f.tree.name (codes "__init__") then d else None) n i.next_init
      by q =
          let named : bytes_eq f.tree.name (codes "__init__") ≡ true = ap (λ z. is_init z f.tree.name) w ∙ ap (λ (z : Inside). z.is_init) q ∙ b in
          let class : d ≡ Some n = ap (λ (z : Inside). z.class) q ∙ c in
          record {
            is = ap (λ z. if z then d else None) named ∙ class;
            behind = K.behind_are n ∙ sym (ap (option_and_then e.members.next_init) class) ∙ ap (λ (z : Inside). z.next_init) q;
          }
  inside_at f owner.UntypedTrait i n p b c w = absurd (let no : None ≡ Some n = ap (λ (z : Inside). z.class) (same_Some (trait_inside f) i p) ∙ c in cc)

  next_at : (f : Headed) (whose : Owner) (i : Inside) (g : ℕ) (s : Signature) → inside_by e.members f whose ≡ Some i → i.next_init ≡ Some g → some_signature (slice_get e.signatures g) ≡ Some s → IsInitSigned tree g s
  next_at f owner.Module i g s p b c = absurd (cc)
  next_at f (owner.Class d) i g s p b c = by d (ap (λ (z : Inside). z.next_init) (same_Some (method_inside e.members f d) i p) ∙ b)
    where
      by : (d : Option ℕ) → option_and_then e.members.next_init d ≡ Some g → IsInitSigned tree g s
      by None q = absurd (cc)
      by (Some n) q = init_signed (e.members.next_init n) (K.behind_give n) g s q c
  next_at f owner.UntypedTrait i g s p b c = absurd (let no : None ≡ Some g = ap (λ (z : Inside). z.next_init) (same_Some (trait_inside f) i p) ∙ b in cc)

  -- A FUNCTION'S context, where what names a function is one
  pub describes : (f : Headed) (V : VarSorts) (locals : List Variable) → ((x : List ℕ) (i : ℕ) → (function_context e f).meaning x ≡ meaning.Function i → is_function (slice_get tree.funcs i) ≡ true) → AreDeclared tree locals V → Valued (length e.classes) V
      → Describes (function_context e f) V tree locals (if bytes_eq f.tree.name (codes "__init__") then class_of f.header.owner else None)
  describes f V locals functions d v = record {
    classes = K.same;
    tree = K.order;
    locals_are = λ i t q. record { is = d.of_function i t q; type = v.locals i t q };
    globals_are = λ i t q. record { is = d.of_module i t q; type = v.globals i t q };
    functions_are = λ x i t p q. record { function = functions x i p; signed = signed i t q };
    attributes_are = K.attributes_are;
    attributes_typed = K.attributes_typed;
    methods_are = λ n a g s p q. record { is = ap (λ k. method_of k n a) K.same ∙ K.methods_are n a g p; signed = signed g s q };
    inits_are = K.inits_are;
    inits_signed = λ n g s p q. init_signed (e.members.init n) (K.inits_give n) g s p q;
    inside_is = λ i n p b c. inside_at f f.header.owner i n p b c refl;
    next_signed = λ i g s p b c. next_at f f.header.owner i g s p b c;
  }

  -- and the module's own
  pub top_describes : (inside : Scope) (V : VarSorts) (locals : List Variable) → ((x : List ℕ) (i : ℕ) → (context_in e inside).meaning x ≡ meaning.Function i → is_function (slice_get tree.funcs i) ≡ true) → AreDeclared tree locals V → Valued (length e.classes) V → Describes (context_in e inside) V tree locals None
  top_describes inside V locals functions d v = record {
    classes = K.same;
    tree = K.order;
    locals_are = λ i t q. record { is = d.of_function i t q; type = v.locals i t q };
    globals_are = λ i t q. record { is = d.of_module i t q; type = v.globals i t q };
    functions_are = λ x i t p q. record { function = functions x i p; signed = signed i t q };
    attributes_are = K.attributes_are;
    attributes_typed = K.attributes_typed;
    methods_are = λ n a g s p q. record { is = ap (λ k. method_of k n a) K.same ∙ K.methods_are n a g p; signed = signed g s q };
    inits_are = K.inits_are;
    inits_signed = λ n g s p q. init_signed (e.members.init n) (K.inits_give n) g s p q;
    inside_is = λ i n p b c. absurd (never i p);
    next_signed = λ i g s p b c. absurd (never i p);
  }
    where
      none_inside : Option Inside
      none_inside = None

      never : (i : Inside) → None ≡ Some i → ⊥
      never i p = cc

-- ---- statements that begin here, of a function or of the module

module _ (C : Context) (tree : TypedModule) (locals : List Variable) (init : Option ℕ) (r : ret.ReturnSort) (start : Known) (text : Suite) (result : Option Sort) where
  abbrev here : Context
  here = at_classes C tree.classes.classes

  abbrev size : ℕ
  size = length tree.classes.classes

  abbrev end : Known
  end = block_after here start text

  pub record Stands (ts : List TypedStmt) : Type 0 where
    pub typed : suite_typed tree locals init result [] false false (suite_of ts) ≡ true
    pub values : Valued size end.types

  pub rows_stand : ((V : VarSorts) → AreDeclared tree locals V → Valued size V → Describes here V tree locals init) → IsScope here start.types → IsMarked here start.types (suite_bindings text) → Valued size start.types → AreDeclared tree locals end.types → IsResult size r result → start.names ≡ [] → is_suite_written text ≡ true
      → (is_some result ≡ true → suite_definitions text ≡ []) → (ts : List TypedStmt) → (block here r nothing_around start text).got ≡ Some ts → Stands ts
  rows_stand describes sc mk v d is none written pure ts got =
      let follows = follows_block here start text in
      let setting : Setting C tree locals init start.types (suite_bindings text) end.types = record {
        describes = describes start.types (declared_before tree locals start.types end.types follows d) v;
        scope = sc;
        marked = mk;
        follows = follows;
        declared = d;
      } in
      let settled = settled_block C tree locals init r nothing_around start text end.types setting (follows_itself end.types) written ts got in
      let all = stands_in here r nothing_around start text tree locals init result sc is (describes end.types d settled.valued) written pure ts got [] (λ x h. ap (λ l. is_in l x) (sym none) ∙ h) in
      record { typed = all.0; values = settled.valued }

-- ---- the whole

-- where the members of classes have types wherever they are in reach, the classes stand, and what names a class or a function names one
-- of the module's
module _ (m : Suite) (nothing : said m ≡ []) (reach : InReach (quiet.top m nothing)) (inner_reach : (p : FuncTree × Owner) → IsQuiet (quiet.meant m nothing) (quiet.typed_names m nothing) (module_role m) p → InReach (quiet.inside m nothing p)) (K : ClassesStand (module_context m) (typed m))
    (placed : (x : List ℕ) (i : ℕ) → module_meaning m x ≡ meaning.Class i → nat_lt i (length (module_context m).classes) ≡ true) (inner_placed : (p : FuncTree × Owner) (x : List ℕ) (i : ℕ) → (quiet.inside m nothing p).meaning x ≡ meaning.Class i → nat_lt i (length (module_context m).classes) ≡ true)
    (top_functions : (x : List ℕ) (i : ℕ) → module_meaning m x ≡ meaning.Function i → is_function (slice_get (typed m).funcs i) ≡ true) (inner_functions : (p : FuncTree × Owner) (x : List ℕ) (i : ℕ) → (quiet.inside m nothing p).meaning x ≡ meaning.Function i → is_function (slice_get (typed m).funcs i) ≡ true) where
  abbrev e : ModuleContext
  e = module_context m

  abbrev roles : Roles
  roles = module_role m

  abbrev meant : List ℕ → Meaning
  meant = module_meaning m

  abbrev classes_size : ℕ
  classes_size = length e.classes

  abbrev tree : TypedModule
  tree = typed m

  abbrev gs : List VarSort
  gs = global_sorts e (module_scope m) (headed_functions m) m

  signed_there : (i : ℕ) (t : Signature) → some_signature (slice_get (signatures m) i) ≡ Some t → IsSigned tree i t
  signed_there i t q =
      let r = sign_at roles meant (quiet.pairs m nothing) i t q in
      let v = signature_values classes_size meant placed r.of t r.signed in
      record { is = r.is; params = v.0; ret = v.1 }

  -- ---- functions

  module _ (p : FuncTree × Owner) (s : IsQuiet (quiet.meant m nothing) (quiet.typed_names m nothing) roles p) (here : Placed classes_size meant placed p.1) (sorts : List VarSort) (q : length sorts ≡ length e.variables) where
    abbrev f : FuncTree
    f = p.0

    abbrev hd : Headed
    hd = headed roles meant p

    abbrev D : Context
    D = function_context e hd

    abbrev inner : List ℕ → Meaning
    inner = D.meaning

    abbrev first : Known
    first = function_start D e.variables sorts hd

    abbrev last : Known
    last = body_after D e.variables sorts hd

    abbrev own : List (List ℕ)
    own = own_names hd.inside

    abbrev seen : List (List ℕ)
    seen = param_names f ++ all_there seen_there (body_sights f)

    abbrev of_own : List ℕ → VarSort
    of_own = own_sort inner (suite_bindings f.body) (param_names f) hd.header.params

    inner_fine : Fine (known_in m) e.variables (quiet.n m nothing) (function_role roles f)
    inner_fine = function_fine (known_in m) e.variables (quiet.n m nothing) roles (quiet.fine m nothing) f

    own_value : (x : List ℕ) (t : Sort) → of_own x ≡ has t → IsValue classes_size t
    own_value x t h = by (param_sort (param_names f) hd.header.params x) refl h
      where
        by : (o : Option (Option Sort)) → param_sort (param_names f) hd.header.params x ≡ o → or_param o (start_sort inner (suite_bindings f.body) x) ≡ has t → IsValue classes_size t
        by None r g = start_value classes_size inner (inner_placed p) (suite_bindings f.body) x t g
        by (Some o) r g = given_value classes_size o (type_value classes_size meant placed p.1 here (bytes_eq x) f.params o r) t g

    first_values : ((i : ℕ) (t : Sort) → var_at sorts i ≡ has t → IsValue classes_size t) → Valued classes_size first.types
    first_values gv = record {
      locals = λ i t h.
          let x = there own i (subst (λ n. i < n) (length-map own of_own) (has_within (map of_own own) i t h)) in
          own_value x.0 t (sym (mapped_at of_own own i x.0 x.1) ∙ h);
      globals = gv;
    }

    own_set : (x : List ℕ) (mark : ExprTree) → first_mark (suite_bindings f.body) x ≡ Some (Some mark) → is_unset (of_own x) ≡ false
    own_set x mark h = by (param_sort (param_names f) hd.header.params x)
      where
        by : (o : Option (Option Sort)) → is_unset (or_param o (start_sort inner (suite_bindings f.body) x)) ≡ false
        by None = ap (λ o. is_unset (by_mark inner o)) h ∙ given_set (annotation inner mark).got
        by (Some o) = given_set o

    first_marked : ((i : ℕ) → i < length e.variables → has_type (var_at sorts i) ≡ true) → IsMarked D first.types (suite_bindings f.body)
    first_marked gh x mark h = by (inner x) refl
      where
        by : (o : Meaning) → inner x ≡ o → is_open first.types o ≡ false
        by (meaning.Local i) r = ap is_unset (mapped_at of_own own i x (local_place (known_in m) e.variables (quiet.n m nothing) (function_role roles f) inner_fine seen x i r)) ∙ own_set x mark h
        by (meaning.Global i) r = set_by (var_at sorts i) (gh i (slice_get_within e.variables i x (global_place (known_in m) e.variables (quiet.n m nothing) (function_role roles f) inner_fine seen x i r)))
        by _ r = refl

    pub first_scope : IsScope D first.types
    first_scope = scope_is (known_in m) e.variables (quiet.n m nothing) (function_role roles f) inner_fine seen D first.types (length-map own of_own) q

    pub last_size : length last.types.locals ≡ length own
    last_size = (follows_block D first f.body).locals.size ∙ length-map own of_own

    abbrev body_form : TypedFunc
    body_form = typed_function D e.variables sorts hd

    pub record FunctionStands : Type 0 where
      pub typed : body_stands tree body_form ≡ true
      pub locals : (i : ℕ) (t : Sort) → var_at last.types.locals i ≡ has t → IsValue classes_size t

    pub function_stands : ((i : ℕ) (t : Sort) → var_at sorts i ≡ has t → IsValue classes_size t) → ((i : ℕ) → i < length e.variables → has_type (var_at sorts i) ≡ true) → ((i : ℕ) (t : Sort) → var_at last.types.globals i ≡ has t → declared tree.globals i ≡ Some t) → is_suite_written f.body ≡ true → suite_definitions f.body ≡ []
        → (ts : List TypedStmt) → (body D e.variables sorts hd).got ≡ Some ts → FunctionStands
    function_stands gv gh final written pure ts got =
        let locals = typed_variables last.types.locals own in
        let result = Some (unwrap_or hd.header.ret sort.Nothing) in
        let g = rows_stand D tree locals (init_class body_form) (return_of hd.header.ret) first f.body result (λ V d v. describes e tree K signed_there hd V locals (inner_functions p) d v) first_scope (first_marked gh) (first_values gv) (record { of_function = declared_has last.types.locals own last_size; of_module = final })
        (result_is classes_size hd.header.ret s.types.ret (result_value classes_size meant placed (is_init p.1 f.name) f.ret)) refl written (λ z. pure) ts got in
        record { typed = ap (λ o. suite_typed tree locals (init_class body_form) result [] false false (statements_of o)) got ∙ g.typed; locals = g.values.locals }

  -- the classes of methods are classes of the module
  abbrev pub ArePlaced : List (FuncTree × Owner) → Type 0
  ArePlaced ps = AllByRecursion (λ (p : FuncTree × Owner). Placed classes_size meant placed p.1) ps

  pub bodies_stand : (sorts : List VarSort) → length sorts ≡ length e.variables → ((i : ℕ) → law.is_untyped (var_at sorts i) ≡ false) → ((i : ℕ) (t : Sort) → var_at sorts i ≡ has t → IsValue classes_size t) → ((i : ℕ) → i < length e.variables → has_type (var_at sorts i) ≡ true) → (ps : List (FuncTree × Owner)) → AllSigned meant (quiet.typed_names m nothing) roles ps → ArePlaced ps
      → bodies_said e sorts (map (headed roles meant) ps) ≡ [] → ((g : Headed) (i : ℕ) (t : Sort) → var_at (body_after (function_context e g) e.variables sorts g).types.globals i ≡ has t → declared tree.globals i ≡ Some t) → list_all (λ (p : FuncTree × Owner). is_suite_written p.0.body) ps ≡ true
      → flat_map (λ (p : FuncTree × Owner). inner_definitions_said p.0) ps ≡ [] → list_all (body_stands tree) (typed_functions e sorts (map (headed roles meant) ps)) ≡ true
  bodies_stand sorts q before gv gh [] a w h final written pure = refl
  bodies_stand sorts q before gv gh (p ∷ ps) a w h final written pure =
      let hf = headed roles meant p in
      let one = body (function_context e hf) e.variables sorts hf in
      let more = bodies_said e sorts (map (headed roles meant) ps) in
      let all_written = list_all (λ (r : FuncTree × Owner). is_suite_written r.0.body) ps in
      let all_pure = flat_map (λ (r : FuncTree × Owner). inner_definitions_said r.0) ps in
      let b = body_typed e sorts hf (inner_reach p a.here) (quiet.inner_typed m nothing p) (quiet.inner_known m nothing p a.here.names) a.here.types before (none_before one.said more h) in
      let ts = some_of one.got b.typed in
      let g = function_stands p a.here w.0 sorts q gv gh (final hf) (and_left (is_suite_written p.0.body) all_written written) (suite_none p.0.body (none_before (inner_definitions_said p.0) all_pure pure)) ts.0 ts.1 in
      and_from (body_stands tree (typed_function (function_context e hf) e.variables sorts hf)) (list_all (body_stands tree) (typed_functions e sorts (map (headed roles meant) ps))) g.typed
      (bodies_stand sorts q before gv gh ps a.rest w.1 (none_behind one.said more h) final (and_right (is_suite_written p.0.body) all_written written) (none_behind (inner_definitions_said p.0) all_pure pure))

  -- ---- the module's own statements

  abbrev top : Context
  top = quiet.top m nothing

  abbrev top_first : Known
  top_first = module_start top e.variables m

  abbrev top_last : Known
  top_last = block_after top top_first m

  abbrev top_sort : List ℕ → VarSort
  top_sort = start_sort meant (suite_bindings m)

  pub top_values : Valued classes_size top_first.types
  top_values = record {
    locals = λ i t h. absurd (no_locals i t h);
    globals = λ i t h.
        let x = there e.variables i (subst (λ n. i < n) (length-map e.variables top_sort) (has_within (map top_sort e.variables) i t h)) in
        start_value classes_size meant placed (suite_bindings m) x.0 t (sym (mapped_at top_sort e.variables i x.0 x.1) ∙ h);
  }
    where
      no_locals : (i : ℕ) (t : Sort) → var_at [] i ≡ has t → ⊥
      no_locals i t h = cc

  top_marked : IsMarked top top_first.types (suite_bindings m)
  top_marked x mark h = by (meant x) refl
    where
      by : (o : Meaning) → meant x ≡ o → is_open top_first.types o ≡ false
      by (meaning.Local i) r =
          let bad : None ≡ Some x = sym (ap (λ (l : List (List ℕ)). slice_get l i) (vary.none_own m nothing reach inner_reach)) ∙ local_place (known_in m) e.variables (quiet.n m nothing) roles (quiet.fine m nothing) (all_there seen_there (module_sights m)) x i r in
          absurd (cc)
      by (meaning.Global i) r =
          ap is_unset (mapped_at top_sort e.variables i x (global_place (known_in m) e.variables (quiet.n m nothing) roles (quiet.fine m nothing) (all_there seen_there (module_sights m)) x i r)) ∙ ap (λ o. is_unset (by_mark meant o)) h ∙ given_set (annotation meant mark).got
      by _ r = refl

  final_is : (i : ℕ) (t : Sort) → var_at gs i ≡ has t → declared tree.globals i ≡ Some t
  final_is = declared_has gs e.variables (vary.top_size m nothing reach inner_reach)

  pub final_behind : (g : Headed) (i : ℕ) (t : Sort) → var_at (body_after (function_context e g) e.variables gs g).types.globals i ≡ has t → declared tree.globals i ≡ Some t
  final_behind g i t h = final_is i t (sym (ap (λ (l : List VarSort). var_at l i) (body_keeps (function_context e g) e.variables gs g (all_fixed e m refl))) ∙ h)

  top_declared : AreDeclared tree [] top_last.types
  top_declared = record {
    of_function = λ i t h. absurd (never i (subst (λ n. i < n) (follows_block top top_first m).locals.size (has_within top_last.types.locals i t h)));
    of_module = final_is;
  }
    where
      never : (i : ℕ) → i < 0 → ⊥
      never i h = omega arith

  pub record TopStands : Type 0 where
    pub typed : suite_typed tree [] None None [] false false tree.top ≡ true
    pub values : (i : ℕ) (t : Sort) → var_at gs i ≡ has t → IsValue classes_size t

  top_stands : is_suite_written m ≡ true → TopStands
  top_stands written =
      let one = own_statements top e.variables m in
      let g = quiet_got one (loud_block top reach ret.outside refl InModule nothing_around top_first (whole.start_all m nothing reach inner_reach) m (quiet.top_known m nothing)) (quiet.own_quiet m nothing) in
      let s = rows_stand top tree [] None ret.outside top_first m None (λ V d v. top_describes e tree K signed_there (module_scope m) V [] top_functions d v) (vary.top_scope m nothing reach inner_reach) top_marked top_values top_declared tt refl written (λ z. absurd (not_there z)) g.0 g.1 in
      record { typed = ap (λ o. suite_typed tree [] None None [] false false (statements_of o)) g.1 ∙ s.typed; values = s.values.globals }
    where
      not_there : false ≡ true → ⊥
      not_there h = cc

  pub gs_values : is_suite_written m ≡ true → (i : ℕ) (t : Sort) → var_at gs i ≡ has t → IsValue classes_size t
  gs_values written = (top_stands written).values

  -- THE STATEMENTS of the whole module stand
  pub all_stand : ArePlaced (quiet.pairs m nothing) → is_module_written m ≡ true → statements_stand tree ≡ true
  all_stand all written =
      let bodies_written = list_all (λ f. is_suite_written f.body) (functions m) in
      let s = top_stands (and_left (is_suite_written m) bodies_written written) in
      and_from (suite_typed tree [] None None [] false false tree.top) (list_all (body_stands tree) tree.funcs) s.typed
      (bodies_stand gs (vary.top_size m nothing reach inner_reach) (vary.top_typed m nothing reach inner_reach) s.values (vary.global_has m nothing reach inner_reach) (quiet.pairs m nothing) (quiet.all_functions m nothing) all (quiet.bodies_quiet m nothing) final_behind
      (quiet.zip_all (λ f. is_suite_written f.body) (functions m) (owners m) (and_right (is_suite_written m) bodies_written written)) (quiet.zip_first inner_definitions_said (functions m) (owners m) (quiet.owners_many m nothing) ∙ quiet.inner_quiet m nothing))

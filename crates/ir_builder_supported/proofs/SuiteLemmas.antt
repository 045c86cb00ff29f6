-- A well typed statement in which all is compiled suits, where the signature of each function is that of its definition and variables
-- have the types of values.
use Rattle.ir_builder_supported.proofs.Common.{◌≡◌, refl, sym, ◌∙◌, ap, subst, arith, ℕ, zero, suc, ◌≤◌, Bool, true, false, List, [], ◌∷◌, ◌++◌, length, Option, Some, None, ⊎_elim, inl, inr, or_cases, ltb-true, nat_lt, not, ◌&&◌, if◌then◌else◌, slice_get, Span, Sort, listed_sorts, sorts_of, is_same_type, is_number, number_join, TypedExpr, typed, TypedNode, Nothing, Print, TypedExprs, no_exprs, expr_then, type_of, Variable, TypedModule, TypedTarget, LocalTarget, GlobalTarget, ItemTarget, TypedStmt, on_line, TypedAct, Do, Assign, Aug, If, While, ForRange, ForList, Return, Break, Continue, Pass, TypedSuite, no_stmts, stmt_then, Arms, no_arms, arm_then, is_in, facts, without, bound_suite, after, stands, are_values, is_type, are_texts, are_numbers, is_bar, operation_sort, reads_as, is_typed, is_result_type, read_type, is_single, return_fits, stmt_typed, act_typed, suite_typed, arms_typed, and_left, and_right, one_type, is_arithmetic, is_flat, is_whole, is_scalar, NodeSuits, ReadsAs, Suits, is_form, expression_forms, row_forms, alone_forms, maybe_forms, target_forms, targets_forms, is_list, statement_forms, act_forms, suite_forms, arms_forms, types_of, is_printable, list_all}
use Rattle.std.specs.Prelude.{is_some, ◌⊎◌, ◌||◌}
use Rattle.std.proofs.lemmas.Option.{slice_get_cases}
use Rattle.py_syntax.specs.declared.expression.BinOp.{BinOp}
use Rattle.py_syntax.specs.declared.expression.BinOp.TheVariants.{Add, Bar}
use Rattle.py_typed.specs.Classes.{ClassEntry}
use Rattle.py_typed.specs.Sorts as sort
use Rattle.py_typed.specs.Fits.{fits}
use Rattle.py_typed.specs.Narrowing.{after_target, part_sorts}
use Rattle.py_typed.specs.Statements.{AttrTarget}
use Rattle.py_typed.specs.TargetTypes.{sort_at, item_sort}
use Rattle.py_typed.specs.WellTyped.{target_typed, targets_typed, is_assignable, is_filled, items_fit, assignment_fits, binding_fits, parts_fit, is_there, is_list_type, is_range_type, maybe_of_type, target_type, in_loop_from}
use Rattle.py_typed.specs.WellTypedExpr.{is_value_type}
use Rattle.py_typed.specs.WellTypedModule.{types_in}
use Rattle.py_typed.proofs.FitLemmas.{fits_itself}
use Rattle.source_soundness.specs.Watched.{bare}
use Rattle.source_soundness.proofs.Expressions.{sorts_listed}
use Rattle.ir_builder_statements.specs.Suiting.{PrintSuits, DoSuits, ItemSuits, TakesValue, TargetsTake, OneSuits, NoneFits, PartsSuit, TargetsSuit, UpdateSuits, TargetUpdates, StartSuits, ReturnSuits, StatementSuits, ActSuits, SuiteSuits, ArmsSuit}
use Rattle.ir_builder_supported.proofs.FormLemmas.{none_left, none_right, compiled, both}
use Rattle.ir_builder_supported.proofs.SuitLemmas.{nothing_is, number_scalar, AllSigned, result_type, printable_scalar, gives_result, well_typed_suits, well_typed_node}

-- ---- types

never : false ≡ true → ⊥
never e = absurd (cc)

or_right : (a b : Bool) → b ≡ true → (a || b) ≡ true
or_right true b h = refl
or_right false b h = h

join_whole : (u w : Sort) → is_whole (number_join u w) ≡ true
join_whole sort.I64 w = refl
join_whole _ sort.I64 = refl
join_whole _ _ = refl

list_is : (a : Sort) → is_list a ≡ true → a ≡ sort.ListOf (item_sort a)
list_is (sort.ListOf t) h = refl
list_is _ h = absurd (cc)

-- an index is an `int`
int_by : (b : Bool) (u i : Sort) → (b ≡ true → i ≡ sort.Int) → is_some (if b then Some u else None) ≡ true → i ≡ sort.Int
int_by true u i f h = f refl
int_by false u i f h = absurd (cc)

-- no Optional stands under another one at once in the type of a value, or in that of the items of a list
flat_value : (classes : ℕ) (t : Sort) → is_value_type classes t ≡ true → is_flat t ≡ true
flat_value classes (sort.Optional (sort.Optional t)) h = absurd (cc)
flat_value classes _ h = refl

flat_item : (classes : ℕ) (s : Sort) → is_list s ≡ true → is_result_type classes s ≡ true → is_flat (item_sort s) ≡ true
flat_item classes (sort.ListOf t) l h = flat_value classes t h
flat_item classes _ l h = absurd (cc)

-- a tuple has less than 17 parts
few_value : (classes : ℕ) (t : Sort) → is_value_type classes t ≡ true → length (part_sorts t) ≤ 16
few_value classes (sort.TupleOf ts) h = omega (arith, ltb-true (length (listed_sorts ts)) 17 (and_right _ _ (and_left _ _ h)))
few_value classes _ h = omega arith

few_result : (classes : ℕ) (t : Sort) → is_result_type classes t ≡ true → length (part_sorts t) ≤ 16
few_result classes sort.Nothing h = omega arith
few_result classes t h = few_value classes t h

few_item : (classes : ℕ) (s : Sort) → is_list s ≡ true → is_result_type classes s ≡ true → length (part_sorts (item_sort s)) ≤ 16
few_item classes (sort.ListOf t) l h = few_value classes t h
few_item classes _ l h = absurd (cc)

-- ---- variables

-- the type of a variable that may be there
abbrev sort_of : Option Variable → Sort
sort_of None = sort.Nothing
sort_of (Some v) = v.1

sort_found : (vs : List Variable) (i : ℕ) (o : Option Variable) → slice_get vs i ≡ o → sort_at vs i ≡ sort_of o
sort_found vs i None e = rw (e, sort_at) refl
sort_found vs i (Some v) e = rw (e, sort_at) refl

variable_there : (vs : List Variable) (i : ℕ) → nat_lt i (length vs) ≡ true → (v : Variable) × (slice_get vs i ≡ Some v) × (v.1 ≡ sort_at vs i)
variable_there vs i h =
    ⊎_elim (λ c. (c.0, c.2, sym (sort_found vs i (Some c.0) c.2))) (λ c. absurd (omega (arith, ltb-true i (length vs) h, c.0)))
    (slice_get_cases vs i).1

flat_found : (classes : ℕ) (vs : List Variable) (i : ℕ) → list_all (is_value_type classes) (types_in vs) ≡ true → is_flat (sort_of (slice_get vs i)) ≡ true
flat_found classes [] i h = refl
flat_found classes (v ∷ more) zero h = flat_value classes v.1 (and_left _ _ h)
flat_found classes (v ∷ more) (suc i) h = flat_found classes more i (and_right _ _ h)

flat_variable : (classes : ℕ) (vs : List Variable) (i : ℕ) → list_all (is_value_type classes) (types_in vs) ≡ true → is_flat (sort_at vs i) ≡ true
flat_variable classes vs i h = ap is_flat (sort_found vs i (slice_get vs i) refl) ∙ flat_found classes vs i h

-- ---- operations whose result goes back to what was read for their first operand

no_bar : (op : BinOp) → not (is_bar op) ≡ true → is_arithmetic op ≡ true
no_bar Bar h = absurd (never h)
no_bar _ h = refl

-- numbers, of which a whole number is made, or texts that are joined
abbrev Operands : BinOp → Sort → Sort → Sort → Type 0
Operands op r s w =
    ((is_arithmetic op ≡ true) × (is_number r ≡ true) × (is_number w ≡ true) × (is_whole s ≡ true))
    ⊎ ((op ≡ Add) × (r ≡ sort.Str) × (w ≡ sort.Str) × (s ≡ sort.Str))

numbers : (op : BinOp) (r s w : Sort) (b : Bool) → (b ≡ true → is_arithmetic op ≡ true) → (b ≡ true → are_numbers r w ≡ true) → is_type (if b then Some (number_join r w) else None) s ≡ true → Operands op r s w
numbers op r s w true built two h =
    inl (built refl, and_left (is_number r) (is_number w) (two refl), and_right (is_number r) (is_number w) (two refl), subst (λ z. is_whole z ≡ true) (one_type (number_join r w) s h) (join_whole r w))
numbers op r s w false built two h = absurd (never h)

added : (r s w : Sort) (b : Bool) → are_texts r w ≡ b → is_type (if b then Some sort.Str else if are_numbers r w then Some (number_join r w) else None) s ≡ true → Operands Add r s w
added r s w true is h = inr (refl, one_type r sort.Str (and_left _ _ is), one_type w sort.Str (and_right _ _ is), sym (one_type sort.Str s h))
added r s w false is h = numbers Add r s w (are_numbers r w) (λ e. refl) (λ e. e) h

operands : (op : BinOp) (r s w : Sort) → is_type (operation_sort op r w) s ≡ true → Operands op r s w
operands Add r s w h = added r s w (are_texts r w) refl h
operands op r s w h =
    numbers op r s w (are_numbers r w && not (is_bar op)) (λ e. no_bar op (and_right (are_numbers r w) (not (is_bar op)) e)) (λ e. and_left (are_numbers r w) (not (is_bar op)) e) h

scalar_read : (op : BinOp) (r s w : Sort) → Operands op r s w → is_scalar r ≡ true
scalar_read op r s w o = ⊎_elim (λ n. number_scalar r n.1) (λ t. ap is_scalar t.1) o

-- what is read and is a scalar was read without None
read_bare : (k : Bool) (u : Sort) → is_scalar (reads_as k u) ≡ true → reads_as k u ≡ bare u
read_bare true (sort.Optional t) h = refl
read_bare false (sort.Optional t) h = absurd (cc)
read_bare true _ h = refl
read_bare false _ h = refl

reads_bare : (u : Sort) → ReadsAs u (bare u)
reads_bare (sort.Optional t) = inr refl
reads_bare _ = inl refl

-- no whole number goes to what takes bools
no_bool : (classes : List ClassEntry) (s : Sort) → is_whole s ≡ true → fits classes s sort.Bool ≡ true → ⊥
no_bool classes sort.Int h f = never f
no_bool classes sort.I64 h f = never f
no_bool classes _ h f = never h

no_bool_or_none : (classes : List ClassEntry) (s : Sort) → is_whole s ≡ true → fits classes s (sort.Optional sort.Bool) ≡ true → ⊥
no_bool_or_none classes sort.Int h f = never f
no_bool_or_none classes sort.I64 h f = never f
no_bool_or_none classes _ h f = never h

no_bool_read : (classes : List ClassEntry) (u s : Sort) → sort.Bool ≡ bare u → is_whole s ≡ true → fits classes s u ≡ true → ⊥
no_bool_read classes (sort.Optional t) s e h f = no_bool_or_none classes s h (subst (λ z. fits classes s (sort.Optional z) ≡ true) (sym e) f)
no_bool_read classes sort.Bool s e h f = no_bool classes s h f
no_bool_read classes _ s e h f = absurd (cc)

whole_read : (classes : List ClassEntry) (r u s : Sort) → r ≡ bare u → is_number r ≡ true → is_whole s ≡ true → fits classes s u ≡ true → is_whole r ≡ true
whole_read classes sort.Int u s e n h f = refl
whole_read classes sort.I64 u s e n h f = refl
whole_read classes sort.Bool u s e n h f = absurd (no_bool_read classes u s e h f)
whole_read classes _ u s e n h f = absurd (never n)

-- the types of variables are those of values
abbrev pub AllTyped : TypedModule → List Variable → Type 0
AllTyped m vs = list_all (is_value_type (length m.classes.classes)) (types_in vs) ≡ true

module _ (m : TypedModule) (vs : List Variable) (init : Option ℕ) (signed : AllSigned m vs init) (local_types : AllTyped m vs) (global_types : AllTyped m m.globals) where
  expression_suits : (testing : Bool) (known : List ℕ) (e : TypedExpr) → stands m vs init testing known e ≡ true → expression_forms e ≡ [] → Suits m vs e
  expression_suits testing known e h p = well_typed_suits m vs init signed testing known e h p

  test_sort : (known : List ℕ) (e : TypedExpr) → stands m vs init true known e ≡ true → type_of e ≡ sort.Bool
  test_sort known (typed n t place) h = one_type t sort.Bool (and_right _ _ (and_left _ _ (and_left _ _ h)))

  test_suits : (known : List ℕ) (e : TypedExpr) → stands m vs init true known e ≡ true → expression_forms e ≡ [] → (type_of e ≡ sort.Bool) × Suits m vs e
  test_suits known e h p = (test_sort known e h, expression_suits true known e h p)

  module _ (result : Option Sort) where
    print_suits : (known : List ℕ) (es : TypedExprs) → are_values m vs init known es ≡ true → list_all is_printable (types_of m vs init es) ≡ true → row_forms es ≡ [] → PrintSuits m vs result es
    print_suits known no_exprs h r p = tt
    print_suits known (expr_then e more) h r p =
        let here = none_left _ _ p in
        let value = and_left _ _ h in (
          printable_scalar (type_of e) (and_left _ _ r) (gives_result m vs init false known e value here),
          expression_suits false known e value here,
          print_suits known more (and_right _ _ h) (and_right _ _ r) (none_right _ _ p),
        )

    node_alone : (known : List ℕ) (n : TypedNode) (t : Sort) (place : Span) → is_typed m vs init known (typed n t place) ≡ true → expression_forms (typed n t place) ≡ [] → NodeSuits m vs n t
    node_alone known n t place h p =
        let here = and_left _ _ (and_left _ _ h) in
        let own = compiled (is_form n t) _ _ p in
        well_typed_node m vs init signed false known n t (and_left _ _ here) (and_right _ _ here) (and_right _ _ h) own.0 own.1

    alone_suits : (known : List ℕ) (e : TypedExpr) → is_typed m vs init known e ≡ true → alone_forms e ≡ [] → DoSuits m vs result e
    alone_suits known (typed (Print es) t place) h p =
        let here = and_left _ _ (and_left _ _ h) in print_suits known es (and_left _ _ here) (and_left _ _ (and_right _ _ here)) p
    alone_suits known (typed n t place) h p = node_alone known n t place h p

    -- ---- targets

    -- a target that takes values of its own type, in which no Optional stands under another one at once, and a row of such targets
    abbrev Takes : TypedTarget → Type 0
    Takes t = TakesValue m vs result t (target_type m vs init result t) × (is_flat (target_type m vs init result t) ≡ true)

    abbrev AllTake : List TypedTarget → Type 0
    AllTake [] = Unit {0}
    AllTake (t ∷ ts) = Takes t × AllTake ts

    found_is : (o : Option Sort) → is_there m vs init result o ≡ true → is_some o ≡ true
    found_is None h = h
    found_is (Some s) h = refl

    -- a list with an index
    item_suits : (known : List ℕ) (a i : TypedExpr) → is_list (type_of a) ≡ true → target_typed m vs init result known (ItemTarget a i) ≡ true → expression_forms a ++ expression_forms i ≡ [] → ItemSuits m vs result a i (item_sort (type_of a))
    item_suits known a i l h p =
        let values = and_left _ _ h in
        let is = list_is (type_of a) l in (
          is,
          int_by (is_same_type (type_of i) sort.Int) (item_sort (type_of a)) (type_of i) (one_type (type_of i) sort.Int) (found_is _ (subst (λ z. is_assignable m vs init result z (type_of i) ≡ true) is (and_right _ _ h))),
          expression_suits false known a (and_left _ _ values) (none_left _ _ p),
          expression_suits false known i (and_right _ _ values) (none_right _ _ p),
        )

    target_takes : (known : List ℕ) (line : ℕ) (t : TypedTarget) → target_typed m vs init result known t ≡ true → target_forms line t ≡ [] → Takes t
    target_takes known line (LocalTarget i) h p = (variable_there vs i h, flat_variable (length m.classes.classes) vs i local_types)
    target_takes known line (GlobalTarget i) h p = (variable_there m.globals i h, flat_variable (length m.classes.classes) m.globals i global_types)
    target_takes known line (AttrTarget e name) h p = absurd (cc)
    target_takes known line (ItemTarget a i) h p =
        let own = compiled (is_list (type_of a)) _ _ p in
        let list = and_left _ _ (and_left _ _ h) in
        (item_suits known a i own.0 h own.1, flat_item (length m.classes.classes) (type_of a) own.0 (result_type m vs init false known a list))

    -- of targets that are bound one behind the other each is looked at with what is known by then, and names with the same
    row_takes : (known : List ℕ) (line : ℕ) (ts : List TypedTarget) (ss : List Sort) → targets_typed m vs init result known ts ss ≡ true → targets_forms line ts ≡ [] → AllTake ts
    row_takes known line [] ss h p = tt
    row_takes known line (t ∷ ts) [] h p = both (target_takes known line t) (row_takes known line ts []) h p
    row_takes known line (t ∷ ts) (s ∷ ss) h p = both (target_takes known line t) (row_takes (after_target known t s) line ts ss) h p

    names_take : (known : List ℕ) (line : ℕ) (ts : List TypedTarget) → list_all (target_typed m vs init result known) ts ≡ true → targets_forms line ts ≡ [] → AllTake ts
    names_take known line [] h p = tt
    names_take known line (t ∷ ts) h p = both (target_takes known line t) (names_take known line ts) h p

    -- one target takes a value that fits it
    one_suits : (ts : List TypedTarget) (s : Sort) → AllTake ts → is_single m vs init result ts s ≡ true → OneSuits m vs result ts s
    one_suits (t ∷ []) s k h = (target_type m vs init result t, k.0.0, h, k.0.1)
    one_suits _ s k h = absurd (never h)

    -- else the targets take the parts of a tuple
    none_fits : (ts : List TypedTarget) (s : Sort) → AllTake ts → is_single m vs init result ts s ≡ false → NoneFits m vs result ts s
    none_fits (t ∷ []) s k h = (target_type m vs init result t, k.0.0, h)
    none_fits _ s k h = tt

    parts_take : (ts : List TypedTarget) (ss : List Sort) → AllTake ts → parts_fit m vs init result ts ss ≡ true → TargetsTake m vs result ts ss
    parts_take [] [] k h = tt
    parts_take (t ∷ ts) (s ∷ ss) k h = ((target_type m vs init result t, k.0.0, and_left _ _ h, k.0.1), parts_take ts ss k.1 (and_right _ _ h))
    parts_take _ _ k h = absurd (never h)

    as_many : (ts : List TypedTarget) (ss : List Sort) → parts_fit m vs init result ts ss ≡ true → length ts ≡ length ss
    as_many [] [] h = refl
    as_many (t ∷ ts) (s ∷ ss) h = ap (λ n. suc n) (as_many ts ss (and_right _ _ h))
    as_many _ _ h = absurd (never h)

    tuple_is : (t : TypedTarget) (ts : List TypedTarget) (s : Sort) → parts_fit m vs init result (t ∷ ts) (part_sorts s) ≡ true → s ≡ sort.TupleOf (sorts_of (part_sorts s))
    tuple_is t ts (sort.TupleOf row) h = ap sort.TupleOf (sym (sorts_listed row))
    tuple_is t ts _ h = absurd (never h)

    parts_suit : (ts : List TypedTarget) (s : Sort) → AllTake ts → is_filled m vs init result ts ≡ true → is_single m vs init result ts s ≡ false → parts_fit m vs init result ts (part_sorts s) ≡ true → length (part_sorts s) ≤ 16 → PartsSuit m vs result ts s
    parts_suit [] s k filled none fit few = absurd (never filled)
    parts_suit (t ∷ ts) s k filled none fit few = (
      part_sorts s,
      tuple_is t ts s fit,
      none_fits (t ∷ ts) s k none,
      parts_take (t ∷ ts) (part_sorts s) k fit,
      omega (arith, as_many (t ∷ ts) (part_sorts s) fit, few),
    )

    suit_by : (b : Bool) (ts : List TypedTarget) (s : Sort) → is_single m vs init result ts s ≡ b → AllTake ts → is_filled m vs init result ts ≡ true → binding_fits m vs init result ts s ≡ true → length (part_sorts s) ≤ 16 → TargetsSuit m vs result ts s
    suit_by true ts s is k filled fit few = inl (one_suits ts s k is)
    suit_by false ts s is k filled fit few =
        inr (parts_suit ts s k filled is (subst (λ b. (b || parts_fit m vs init result ts (part_sorts s)) ≡ true) is fit) few)

    targets_suit : (ts : List TypedTarget) (s : Sort) → AllTake ts → is_filled m vs init result ts ≡ true → binding_fits m vs init result ts s ≡ true → length (part_sorts s) ≤ 16 → TargetsSuit m vs result ts s
    targets_suit ts s k filled fit few = suit_by (is_single m vs init result ts s) ts s refl k filled fit few

    -- what is assigned fits as what is bound does, for a value fits its own type
    assignment_binds : (ts : List TypedTarget) (s : Sort) → assignment_fits m vs init result ts s ≡ true → binding_fits m vs init result ts s ≡ true
    assignment_binds (t ∷ []) s h =
        let u : Sort = target_type m vs init result t in
        let parts : Bool = parts_fit m vs init result (t ∷ []) (part_sorts s) in
        ⊎_elim (λ e. ap (λ b. b || parts) (subst (λ z. fits m.classes.classes s z ≡ true) (one_type s u e) (fits_itself m.classes.classes s)))
        (λ e. or_right (fits m.classes.classes s u) parts (and_right (not (fits m.classes.classes s u)) parts e))
        (or_cases (is_same_type s u) (not (fits m.classes.classes s u) && parts) h)
    assignment_binds _ s h = h

    items_suit : (known : List ℕ) (line : ℕ) (ts : List TypedTarget) (s : Sort) → items_fit m vs init result known ts s ≡ true → targets_forms line ts ≡ [] → length (part_sorts s) ≤ 16 → TargetsSuit m vs result ts s
    items_suit known line ts s h p few =
        let names = and_left _ _ h in
        targets_suit ts s (names_take known line ts (and_right _ _ names) p) (and_left _ _ (and_left _ _ names)) (and_right _ _ h) few

    -- ---- loops

    range_whole : (t : Sort) → is_range_type m vs init result t ≡ true → is_whole t ≡ true
    range_whole sort.Int h = refl
    range_whole sort.I64 h = refl
    range_whole _ h = absurd (cc)

    list_of : (t : Sort) → is_list_type m vs init result t ≡ true → (u : Sort) × (t ≡ sort.ListOf u)
    list_of (sort.ListOf u) h = (u, refl)
    list_of _ h = absurd (cc)

    start_suits : (known : List ℕ) (e : Option TypedExpr) (t : Sort) → maybe_of_type m vs init result known t e ≡ true → maybe_forms e ≡ [] → StartSuits m vs result e t
    start_suits known None t h p = tt
    start_suits known (Some e) t h p = (one_type (type_of e) t (and_right _ _ h), expression_suits false known e (and_left _ _ h) p)

    -- ---- updates

    operation_suits : (op : BinOp) (r u s w : Sort) → r ≡ bare u → fits m.classes.classes s u ≡ true → Operands op r s w → UpdateSuits m vs result op r s w
    operation_suits op r u s w is fit o =
        ⊎_elim (λ n. inl (whole_read m.classes.classes r u s is n.1 n.3 fit, (n.3, n.0, n.1, n.2))) (λ t. inr (t.0, (t.3, t.1, t.2))) o

    -- what is read, of a type or of the one under an Optional, is updated where the result fits that type
    update_suits : (k : Bool) (op : BinOp) (u s w : Sort) → is_type (operation_sort op (reads_as k u) w) s ≡ true → fits m.classes.classes s u ≡ true → (reads_as k u ≡ bare u) × UpdateSuits m vs result op (bare u) s w
    update_suits k op u s w h fit =
        let o = operands op (reads_as k u) s w h in
        let is : reads_as k u ≡ bare u = read_bare k u (scalar_read op (reads_as k u) s w o) in
        (is, subst (λ z. UpdateSuits m vs result op z s w) is (operation_suits op (reads_as k u) u s w is fit o))

    updated : (known : List ℕ) (line : ℕ) (t : TypedTarget) (op : BinOp) (s w : Sort) → is_type (operation_sort op (read_type m vs init result known t) w) s ≡ true → fits m.classes.classes s (target_type m vs init result t) ≡ true → target_typed m vs init result known t ≡ true → target_forms line t ≡ [] → TargetUpdates m vs result t op s w
    updated known line (LocalTarget i) op s w h fit there p =
        let u : Sort = sort_at vs i in
        let takes = target_takes known line (LocalTarget i) there p in
        let v = takes.0 in
        let found = update_suits (is_in known i) op u s w h fit in
        (u, v, (v.0, v.1, subst (λ z. ReadsAs z (bare u)) (sym v.2) (reads_bare u)), found.1, fit, takes.1)
    updated known line (GlobalTarget i) op s w h fit there p =
        let u : Sort = sort_at m.globals i in
        let takes = target_takes known line (GlobalTarget i) there p in
        let v = takes.0 in
        let found = update_suits false op u s w h fit in
        (u, v, (v.0, v.1, v.2 ∙ found.0), found.1, fit, takes.1)
    updated known line (AttrTarget e name) op s w h fit there p = absurd (cc)
    updated known line (ItemTarget a i) op s w h fit there p =
        let u : Sort = item_sort (type_of a) in
        let found = update_suits false op u s w h fit in
        (u, (target_takes known line (ItemTarget a i) there p).0, subst (λ z. UpdateSuits m vs result op z s w) (sym found.0) found.1)

    -- ---- what is returned

    returns_of : (known : List ℕ) (t : Sort) (e : TypedExpr) → return_fits m vs init result known (Some t) (Some e) ≡ true → expression_forms e ≡ [] → (Some t ≡ Some (type_of e)) × Suits m vs e
    returns_of known sort.Nothing (typed Nothing t place) h p =
        let is : t ≡ sort.Nothing = nothing_is t (and_left _ _ (and_left _ _ (and_left _ _ (and_left _ _ h)))) in (ap Some (sym is), is)
    returns_of known sort.Nothing (typed _ t place) h p = absurd (never (and_right _ _ h))
    returns_of known t e h p = (ap Some (sym (one_type (type_of e) t (and_right _ _ h))), expression_suits false known e (and_left _ _ h) p)

  return_suits : (known : List ℕ) (result : Option Sort) (e : Option TypedExpr) → return_fits m vs init result known result e ≡ true → maybe_forms e ≡ [] → ReturnSuits m vs result e
  return_suits known None e h p = absurd (cc)
  return_suits known (Some t) None h p = ap Some (nothing_is t h)
  return_suits known (Some t) (Some e) h p = returns_of (Some t) known t e h p

  -- ---- statements

  module _ (result : Option Sort) where
    mutual
      statement_suits : (known : List ℕ) (looping handling : Bool) (s : TypedStmt) → stmt_typed m vs init result known looping handling s ≡ true → statement_forms s ≡ [] → StatementSuits m vs result looping s
      statement_suits known looping handling (on_line a line) h p = act_suits known looping handling line a h p

      act_suits : (known : List ℕ) (looping handling : Bool) (line : ℕ) (a : TypedAct) → act_typed m vs init result known looping handling a ≡ true → act_forms line a ≡ [] → ActSuits m vs result looping a
      act_suits known looping handling line (Do e) h p = alone_suits result known e h p
      act_suits known looping handling line (Assign ts e) h p =
          let typed = and_left _ _ h in
          let filled = and_left _ _ typed in
          let value = and_left _ _ filled in (
            targets_suit result ts (type_of e) (row_takes result known line ts (part_sorts (type_of e)) (and_right _ _ typed) (none_left _ _ p)) (and_right _ _ filled) (assignment_binds result ts (type_of e) (and_right _ _ h)) (few_result (length m.classes.classes) (type_of e) (result_type m vs init false known e value)),
            expression_suits false known e value (none_right _ _ p),
          )
      act_suits known looping handling line (Aug t op e s) h p =
          let own = and_left _ _ h in
          let fit = and_right _ _ h in (
            updated result known line t op s (type_of e) (and_left _ _ fit) (and_right _ _ fit) (and_right _ _ own) (none_left _ _ p),
            expression_suits false known e (and_left _ _ own) (none_right _ _ p),
          )
      act_suits known looping handling line (If arms other) h p =
          let found = arms_suit known looping handling arms (λ there. suite_typed m vs init result there looping handling other) (and_right _ _ h) (none_left _ _ p) in
          (found.0, suite_suits found.1 looping handling other found.2 (none_right _ _ p))
      act_suits known looping handling line (While test body) h p = (
        test_suits (without (bound_suite body) known) test (and_left _ _ (and_left _ _ h)) (none_left _ _ p),
        suite_suits (facts true test ++ without (bound_suite body) known) true handling body (and_right _ _ h) (none_right _ _ p),
      )
      act_suits known looping handling line (ForRange ts a b body) h p =
          let fit = and_left _ _ (and_left _ _ h) in
          let start = and_left _ _ fit in
          let whole = and_left _ _ start in
          let stop = and_left _ _ whole in
          let parts = none_right _ _ p in
          let rest = none_right _ _ parts in (
            (
              range_whole result (type_of b) (and_right _ _ whole),
              start_suits result known a (type_of b) (and_right _ _ start) (none_left _ _ parts),
              expression_suits false known b stop (none_left _ _ rest),
              items_suit result known line ts (type_of b) (and_right _ _ fit) (none_left _ _ p) (few_result (length m.classes.classes) (type_of b) (result_type m vs init false known b stop)),
            ),
            suite_suits (in_loop_from m vs init result known ts (type_of b) body) true handling body (and_right _ _ h) (none_right _ _ rest),
          )
      act_suits known looping handling line (ForList ts e body) h p =
          let fit = and_left _ _ (and_left _ _ h) in
          let list = and_left _ _ fit in
          let value = and_left _ _ list in
          let found = list_of result (type_of e) (and_right _ _ list) in
          let rest = none_right _ _ p in (
            (
              found.0,
              found.1,
              expression_suits false known e value (none_left _ _ rest),
              items_suit result known line ts (item_sort (type_of e)) (and_right _ _ fit) (none_left _ _ p) (few_item (length m.classes.classes) (type_of e) (ap is_list found.1) (result_type m vs init false known e value)),
            ),
            suite_suits (in_loop_from m vs init result known ts (item_sort (type_of e)) body) true handling body (and_right _ _ h) (none_right _ _ rest),
          )
      act_suits known looping handling line (Return e) h p = return_suits known result e h p
      act_suits known looping handling line Break h p = h
      act_suits known looping handling line Continue h p = h
      act_suits known looping handling line Pass h p = tt
      act_suits known looping handling line _ h p = absurd (cc)

      pub suite_suits : (known : List ℕ) (looping handling : Bool) (body : TypedSuite) → suite_typed m vs init result known looping handling body ≡ true → suite_forms body ≡ [] → SuiteSuits m vs result looping body
      suite_suits known looping handling no_stmts h p = tt
      suite_suits known looping handling (stmt_then s more) h p =
          both (statement_suits known looping handling s) (suite_suits (after (is_single m vs init result) known s) looping handling more) h p

      arms_suit : (known : List ℕ) (looping handling : Bool) (arms : Arms) (other : List ℕ → Bool) → arms_typed m vs init result known looping handling arms other ≡ true → arms_forms arms ≡ [] → ArmsSuit m vs result looping arms × (there : List ℕ) × (other there ≡ true)
      arms_suit known looping handling no_arms other h p = (tt, known, h)
      arms_suit known looping handling (arm_then test body more) other h p =
          let own = and_left _ _ h in
          let behind = none_right _ _ p in
          let found = arms_suit (facts false test ++ known) looping handling more other (and_right _ _ h) (none_right _ _ behind) in (
            (test_suits known test (and_left _ _ (and_left _ _ own)) (none_left _ _ p), suite_suits (facts true test ++ known) looping handling body (and_right _ _ own) (none_left _ _ behind), found.0),
            found.1,
            found.2,
          )

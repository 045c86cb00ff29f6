-- A well typed expression in which nothing is said to be not compiled suits, where the signature of each function is that of its
-- definition.
use Rattle.ir_builder_supported.proofs.Common.{◌≡◌, refl, sym, ◌∙◌, ap, subst, ℕ, Bool, true, false, List, [], ◌∷◌, ◌++◌, Option, Some, None, ⊎_elim, or_cases, ℤ, pos, negsuc, if◌then◌else◌, is_some, CmpOp, Span, absence_by, behind_sort, is_asked, slice_get, option_map, Sort, sorts_of, Signature, is_same_type, are_same_types, is_nothing, TypedExpr, typed, TypedNode, Int, Str, Flag, Local, Neg, Not, Truth, Arith, Concat, Compare, And, Or, Cond, At, Call, Input, Len, ToStr, Coerce, TypedExprs, no_exprs, expr_then, Comparisons, no_comparisons, comparison_then, type_of, Variable, TypedFunc, TypedModule, is_in, facts, stands, parts_typed, are_values, chain_typed, rule, types_of, is_type, indexed, is_literal, reads_as, declared, call_fits, and_left, and_right, one_type, parameter_sorts, is_bool, is_int, is_text, is_scalar, is_result, is_whole, Suits, NodeSuits, ArgumentsSuit, ComparisonsSuit, are_pairs, is_form, expression_forms, part_forms, row_forms, chain_forms, BinarySuits, index_of, is_pair, AllSuit, ReadsAs, count_of, is_flat, is_indexed, is_value, Nothing, Append, ListOf, TupleOf, TupleAt, Pop, Global, is_number, Sorts, listed_sorts, is_printable, is_result_type, tuple_sort, are_value_types, row_fits, nat_lt, not, list_any, arith, inl, inr, length, suc, ◌<◌, ◌≤◌, ltb-true, slice_get_within, ◌&&◌}
use Rattle.ir_builder_supported.proofs.FormLemmas.{none_left, none_right, compiled, both}
use Rattle.value_core.specs.Arithmetic.{lies_within}
use Rattle.py_syntax.specs.declared.expression.CmpOp.TheVariants as compare
use Rattle.py_typed.specs.Sorts as sort
use Rattle.py_typed.specs.WellTypedExpr.{is_function}
use Rattle.ir_builder_comparisons.specs.Comparing.{is_ordering}
use Rattle.ir_builder_expressions.proofs.AbsenceLemmas.{chain_suits}

-- ---- types

bool_is : (t : Sort) → is_bool t ≡ true → t ≡ sort.Bool
bool_is sort.Bool h = refl
bool_is _ h = absurd (cc)

int_is : (t : Sort) → is_int t ≡ true → t ≡ sort.Int
int_is sort.Int h = refl
int_is _ h = absurd (cc)

text_is : (t : Sort) → is_text t ≡ true → t ≡ sort.Str
text_is sort.Str h = refl
text_is _ h = absurd (cc)

pub nothing_is : (t : Sort) → is_nothing t ≡ true → t ≡ sort.Nothing
nothing_is sort.Nothing h = refl
nothing_is _ h = absurd (cc)

value_result : (t : Sort) → is_value t ≡ true → is_result t ≡ true
value_result sort.Nothing h = refl
value_result _ h = h

whole_result : (t : Sort) → is_whole t ≡ true → is_result t ≡ true
whole_result sort.Int h = refl
whole_result sort.I64 h = refl
whole_result _ h = absurd (cc)

pub number_scalar : (t : Sort) → is_number t ≡ true → is_scalar t ≡ true
number_scalar sort.Int h = refl
number_scalar sort.I64 h = refl
number_scalar sort.Bool h = refl
number_scalar _ h = absurd (cc)

-- what is compared, and what is printed that is the result of something compiled, is a number, a bool or a text
pair_scalar : (s t : Sort) → is_pair s t ≡ true → is_scalar t ≡ true
pair_scalar s t h =
    ⊎_elim (λ e. number_scalar t (and_right (is_number s) (is_number t) e)) (λ e. ap is_scalar (text_is t (and_right (is_text s) (is_text t) e)))
    (or_cases (is_number s && is_number t) (is_text s && is_text t) h)

pub printable_scalar : (t : Sort) → is_printable t ≡ true → is_result t ≡ true → is_scalar t ≡ true
printable_scalar sort.Int p h = refl
printable_scalar sort.I64 p h = refl
printable_scalar sort.Bool p h = refl
printable_scalar sort.Str p h = refl
printable_scalar _ p h = absurd (cc)

literal_within : (n : ℤ) → is_literal n ≡ true → lies_within 127 n ≡ true
literal_within (pos n) h = h
literal_within (negsuc n) h = absurd (cc)

pub same_sorts : (ss ts : List Sort) → are_same_types (sorts_of ss) (sorts_of ts) ≡ true → ss ≡ ts
same_sorts [] [] e = refl
same_sorts [] (t ∷ ts) e = absurd (cc)
same_sorts (s ∷ ss) [] e = absurd (cc)
same_sorts (s ∷ ss) (t ∷ ts) e = ap (λ x. x ∷ ss) (one_type s t (and_left _ _ e)) ∙ ap (λ l. t ∷ l) (same_sorts ss ts (and_right _ _ e))

-- ---- items and parts

item_by : (b : Bool) (s t : Sort) → is_type (if b then Some s else None) t ≡ true → (b ≡ true) × (s ≡ t)
item_by true s t h = (refl, one_type s t h)
item_by false s t h = absurd (cc)

-- an item of a text or of a list, at a place that is an `int`
item_suits : (s i t : Sort) → is_indexed s ≡ true → is_type (indexed s i) t ≡ true → BinarySuits (index_of s) t s i
item_suits sort.Str i t f h = let found = item_by (is_same_type i sort.Int) sort.Str t h in (sym found.1, refl, one_type i sort.Int found.0)
item_suits (sort.ListOf s) i t f h = let found = item_by (is_same_type i sort.Int) s t h in (ap sort.ListOf found.1, one_type i sort.Int found.0)
item_suits _ i t f h = absurd (cc)

item_result : (s i t : Sort) → is_indexed s ≡ true → BinarySuits (index_of s) t s i → is_result s ≡ true → is_result t ≡ true
item_result sort.Str i t f h g = ap is_result h.0
item_result (sort.ListOf s) i t f h g = value_result t (sym (ap is_value h.0) ∙ g)
item_result _ i t f h g = absurd (cc)

there : (o : Option Sort) (t : Sort) → is_type o t ≡ true → (s : Sort) × (o ≡ Some s)
there None t h = absurd (cc)
there (Some s) t h = (s, refl)

-- a tuple has less than 17 parts
few_parts : (a b : Bool) (n : ℕ) → (a && nat_lt n 17 && b) ≡ true → n < 17
few_parts a b n h = ltb-true n 17 (and_right a (nat_lt n 17) (and_left (a && nat_lt n 17) b h))

part_suits : (classes i : ℕ) (s t : Sort) → is_result_type classes s ≡ true → is_type (tuple_sort s i) t ≡ true → (i < 17) × (ts : Sorts) × (s ≡ sort.TupleOf ts)
part_suits classes i (sort.TupleOf ts) t g h =
    let found = there (slice_get (listed_sorts ts) i) t h in
    let few = few_parts (nat_lt 0 (length (listed_sorts ts))) (are_value_types classes ts) (length (listed_sorts ts)) g in
    (omega (arith, slice_get_within (listed_sorts ts) i found.0 found.1), ts, refl)
part_suits classes i _ t g h = absurd (cc)

-- no Optional stands under another one at once
flat_result : (classes : ℕ) (t : Sort) → is_result_type classes t ≡ true → is_flat t ≡ true
flat_result classes (sort.Optional (sort.Optional t)) h = absurd (cc)
flat_result classes _ h = refl

-- ---- expressions

module _ (m : TypedModule) (vs : List Variable) (init : Option ℕ) where
  -- the signature of each function that is no method
  abbrev pub AllSigned : Type 0
  AllSigned = (f : ℕ) (g : TypedFunc) (s : Signature) → slice_get m.funcs f ≡ Some g → is_function (Some g) ≡ true → slice_get m.classes.signatures f ≡ Some s → (s.params ≡ parameter_sorts g) × (s.ret ≡ g.ret)

  pub result_type : (testing : Bool) (known : List ℕ) (e : TypedExpr) → stands m vs init testing known e ≡ true → is_result_type (length m.classes.classes) (type_of e) ≡ true
  result_type testing known (typed n t place) h = and_right _ _ (and_left _ _ h)

  -- what is compiled has the type of a value that is compiled, or gives None
  mutual
    pub gives_result : (testing : Bool) (known : List ℕ) (e : TypedExpr) → stands m vs init testing known e ≡ true → expression_forms e ≡ [] → is_result (type_of e) ≡ true
    gives_result testing known (typed n t place) h q =
        let here = and_left _ _ (and_left _ _ (and_left _ _ h)) in
        let own = compiled (is_form n t) _ _ q in
        node_result testing known n t (and_left _ _ here) (and_right _ _ here) own.0 own.1

    node_result : (testing : Bool) (known : List ℕ) (n : TypedNode) (t : Sort) → parts_typed m vs init testing known n ≡ true → rule m vs init known n t ≡ true → is_form n t ≡ true → part_forms n ≡ [] → is_result t ≡ true
    node_result testing known (Int n) t p r f q = ap is_result (int_is t f)
    node_result testing known (Str text) t p r f q = ap is_result (text_is t f)
    node_result testing known (Flag b) t p r f q = ap is_result (bool_is t f)
    node_result testing known Nothing t p r f q = ap is_result (nothing_is t r)
    node_result testing known (Local i) t p r f q = value_result t f
    node_result testing known (Global i) t p r f q = value_result t f
    node_result testing known (Neg e) t p r f q = whole_result t f
    node_result testing known (Not e) t p r f q = ap is_result (bool_is t f)
    node_result testing known (Truth e) t p r f q = ap is_result (bool_is t (and_left _ _ f))
    node_result testing known (Arith op a b) t p r f q = whole_result t (and_left _ _ f)
    node_result testing known (Concat a b) t p r f q = ap is_result (text_is t f)
    node_result testing known (Compare e more) t p r f q = ap is_result (bool_is t (and_left _ _ f))
    node_result testing known (And a b) t p r f q = value_result t (and_left _ _ f)
    node_result testing known (Or a b) t p r f q = value_result t (and_left _ _ f)
    node_result testing known (Cond a test b) t p r f q = value_result t f
    node_result testing known (ListOf es) t p r f q = value_result t f
    node_result testing known (TupleOf es) t p r f q = value_result t f
    node_result testing known (At a b) t p r f q =
        item_result (type_of a) (type_of b) t f (item_suits (type_of a) (type_of b) t f r) (gives_result false known a (and_left _ _ p) (none_left _ _ q))
    node_result testing known (TupleAt e i) t p r f q = value_result t f
    node_result testing known (Call g es) t p r f q = f
    node_result testing known Input t p r f q = ap is_result (text_is t f)
    node_result testing known (Len e) t p r f q = ap is_result (one_type t sort.Int (and_right _ _ r))
    node_result testing known (ToStr e) t p r f q = ap is_result (one_type t sort.Str (and_right _ _ r))
    node_result testing known (Append a b) t p r f q = ap is_result (nothing_is t (and_right _ _ r))
    node_result testing known (Pop e) t p r f q = value_result t f
    node_result testing known (Coerce e) t p r f q = value_result t f
    node_result testing known _ t p r f q = absurd (cc)

  -- a variable of a type is there
  declared_as : (o : Option Variable) (t : Sort) → is_type (option_map (λ x. x.1) o) t ≡ true → (v : Variable) × (o ≡ Some v) × (v.1 ≡ t)
  declared_as None t h = absurd (cc)
  declared_as (Some v) t h = (v, refl, one_type v.1 t h)

  -- a local reads as its own type, or as one without None
  reads : (k : Bool) (s t : Sort) → reads_as k s ≡ t → ReadsAs s t
  reads false s t e = inl e
  reads true (sort.Optional s) t e = inr (ap sort.Optional e)
  reads true _ t e = inl e

  read_as : (k : Bool) (o : Option Variable) (t : Sort) → is_type (option_map (reads_as k) (option_map (λ x. x.1) o)) t ≡ true → (v : Variable) × (o ≡ Some v) × ReadsAs v.1 t
  read_as k None t h = absurd (cc)
  read_as k (Some v) t h = (v, refl, reads k v.1 t (one_type (reads_as k v.1) t h))

  local_suits : (known : List ℕ) (i : ℕ) (t : Sort) → rule m vs init known (Local i) t ≡ true → (v : Variable) × (slice_get vs i ≡ Some v) × ReadsAs v.1 t
  local_suits known i t r =
      ⊎_elim (λ h. let v = declared_as (slice_get vs i) t h in (v.0, v.1, inl v.2)) (read_as (is_in known i) (slice_get vs i) t)
      (or_cases (is_type (declared vs i) t) (is_type (option_map (reads_as (is_in known i)) (declared vs i)) t) r)

  -- ---- whether a part is None

  own_rule : (testing : Bool) (known : List ℕ) (n : TypedNode) (t : Sort) (place : Span) → stands m vs init testing known (typed n t place) ≡ true → rule m vs init known n t ≡ true
  own_rule testing known n t place h = and_right _ _ (and_left _ _ (and_left _ _ (and_left _ _ h)))

  asked_by : (e b : TypedExpr) (o : CmpOp) (t : Sort) → is_some (absence_by o b) ≡ true → t ≡ sort.Bool → Suits m vs e → type_of b ≡ sort.Nothing → NodeSuits m vs (Compare e (comparison_then o b no_comparisons)) t
  asked_by e (typed Nothing u place) compare.Is t a is first none = (is, first, none)
  asked_by e (typed Nothing u place) compare.IsNot t a is first none = (is, first, none)
  asked_by e b o t a is first none = absurd (cc)

  -- it is asked of a part of any type, and gives a bool
  asked_suits : (e : TypedExpr) (more : Comparisons) (t : Sort) → is_asked more ≡ true → t ≡ sort.Bool → Suits m vs e → behind_sort more ≡ sort.Nothing → NodeSuits m vs (Compare e more) t
  asked_suits e (comparison_then o b no_comparisons) t a is first none = asked_by e b o t a is first none
  asked_suits e more t a is first none = absurd (cc)

  none_behind : (known : List ℕ) (b : TypedExpr) (o : CmpOp) → is_some (absence_by o b) ≡ true → stands m vs init false known b ≡ true → type_of b ≡ sort.Nothing
  none_behind known (typed Nothing u place) o a h = nothing_is u (own_rule false known Nothing u place h)
  none_behind known b o a h = absurd (cc)

  -- what stands behind it has the type of None
  asked_behind : (known : List ℕ) (e : TypedExpr) (more : Comparisons) → is_asked more ≡ true → chain_typed m vs init known e more ≡ true → behind_sort more ≡ sort.Nothing
  asked_behind known e (comparison_then o b no_comparisons) a h = none_behind known b o a (and_left _ _ (and_left _ _ h))
  asked_behind known e more a h = absurd (cc)

  -- ---- displays

  list_suits : (known : List ℕ) (es : TypedExprs) (t : Sort) → rule m vs init known (ListOf es) t ≡ true → (u : Sort) × (t ≡ sort.ListOf u)
  list_suits known es (sort.ListOf u) r = (u, refl)
  list_suits known es _ r = absurd (cc)

  count_types : (es : TypedExprs) → length (types_of m vs init es) ≡ count_of es
  count_types no_exprs = refl
  count_types (expr_then e more) = ap (λ n. suc n) (count_types more)

  tuple_suits : (known : List ℕ) (es : TypedExprs) (t : Sort) → rule m vs init known (TupleOf es) t ≡ true → (us : Sorts) × (t ≡ sort.TupleOf us) × (1 ≤ count_of es) × (count_of es ≤ 16)
  tuple_suits known es (sort.TupleOf us) r =
      let n : ℕ = length (types_of m vs init es) in
      let fits : Bool = row_fits m vs init (types_of m vs init es) (listed_sorts us) in
      let some = ltb-true 0 n (and_right fits (nat_lt 0 n) (and_left (fits && nat_lt 0 n) (nat_lt n 17) (and_left (fits && nat_lt 0 n && nat_lt n 17) _ r))) in
      let few = few_parts (fits && nat_lt 0 n) (not (list_any is_nothing (types_of m vs init es))) n r in
      (us, refl, omega (arith, count_types es), omega (arith, count_types es))
  tuple_suits known es _ r = absurd (cc)

  -- ---- calls

  signed_by : (o : Option Signature) (ss : List Sort) (t : Sort) → call_fits m vs init o ss t ≡ true → (s : Signature) × (o ≡ Some s) × (ss ≡ s.params) × (s.ret ≡ t)
  signed_by None ss t h = absurd (cc)
  signed_by (Some s) ss t h = (s, refl, same_sorts ss s.params (and_left _ _ h), one_type s.ret t (and_right _ _ h))

  function_by : (o : Option TypedFunc) → is_function o ≡ true → (g : TypedFunc) × (o ≡ Some g)
  function_by None h = absurd (cc)
  function_by (Some g) h = (g, refl)

  call_suits : AllSigned → (f : ℕ) (ss : List Sort) (t : Sort) → is_function (slice_get m.funcs f) ≡ true → call_fits m vs init (slice_get m.classes.signatures f) ss t ≡ true → (g : TypedFunc) × (slice_get m.funcs f ≡ Some g) × (g.ret ≡ t) × (ss ≡ parameter_sorts g)
  call_suits signed f ss t h k =
      let g = function_by (slice_get m.funcs f) h in
      let s = signed_by (slice_get m.classes.signatures f) ss t k in
      let same = signed f g.0 s.0 g.1 (subst (λ o. is_function o ≡ true) g.1 h) s.1 in
      (g.0, g.1, sym same.1 ∙ s.3, s.2 ∙ same.0)

  module _ (signed : AllSigned) where
    mutual
      pub well_typed_suits : (testing : Bool) (known : List ℕ) (e : TypedExpr) → stands m vs init testing known e ≡ true → expression_forms e ≡ [] → Suits m vs e
      well_typed_suits testing known (typed n t place) h q =
          let here = and_left _ _ (and_left _ _ (and_left _ _ h)) in
          let own = compiled (is_form n t) _ _ q in
          well_typed_node testing known n t (and_left _ _ here) (and_right _ _ here) (and_right _ _ (and_left _ _ h)) own.0 own.1

      pub well_typed_node : (testing : Bool) (known : List ℕ) (n : TypedNode) (t : Sort) → parts_typed m vs init testing known n ≡ true → rule m vs init known n t ≡ true → is_result_type (length m.classes.classes) t ≡ true → is_form n t ≡ true → part_forms n ≡ [] → NodeSuits m vs n t
      well_typed_node testing known (Int n) t p r g f q = (int_is t f, literal_within n (and_left _ _ r))
      well_typed_node testing known (Str text) t p r g f q = text_is t f
      well_typed_node testing known (Flag b) t p r g f q = bool_is t f
      well_typed_node testing known Nothing t p r g f q = nothing_is t r
      well_typed_node testing known (Local i) t p r g f q = local_suits known i t r
      well_typed_node testing known (Global i) t p r g f q = declared_as (slice_get m.globals i) t r
      well_typed_node testing known (Neg e) t p r g f q = ((f, and_left _ _ r), well_typed_suits false known e p q)
      well_typed_node testing known (Not e) t p r g f q = ((bool_is t f, one_type (type_of e) sort.Bool (and_left _ _ r)), well_typed_suits true known e p q)
      well_typed_node testing known (Truth e) t p r g f q = ((bool_is t (and_left _ _ f), and_right (is_bool t) _ f), well_typed_suits false known e p q)
      well_typed_node testing known (Arith op a b) t p r g f q =
          let parts = both (well_typed_suits false known a) (well_typed_suits false known b) p q in
          let numbers = and_left _ _ r in
          ((and_left _ _ f, and_right (is_whole t) _ f, and_left _ _ numbers, and_right _ _ numbers), parts.0, parts.1)
      well_typed_node testing known (Concat a b) t p r g f q =
          let parts = both (well_typed_suits false known a) (well_typed_suits false known b) p q in
          let texts = and_left _ _ r in
          ((text_is t f, one_type (type_of a) sort.Str (and_left _ _ texts), one_type (type_of b) sort.Str (and_right _ _ texts)), parts.0, parts.1)
      well_typed_node testing known (Compare e more) t p r g f q =
          let first = well_typed_suits false known e (and_left _ _ p) (none_left _ _ q) in
          let is = bool_is t (and_left _ _ f) in
          ⊎_elim (λ a. asked_suits e more t a is first (asked_behind known e more a (and_right _ _ p)))
          (λ pairs. chain_suits m vs e more t is (and_left _ _ pairs) first (well_typed_chain known e more (and_right _ _ p) (and_right _ _ pairs) (none_right _ _ q)))
          (or_cases (is_asked more) (is_scalar (type_of e) && are_pairs (type_of e) more) (and_right (is_bool t) _ f))
      well_typed_node testing known (And a b) t p r g f q =
          let parts = both (well_typed_suits testing known a) (well_typed_suits testing (facts true a ++ known) b) p q in
          (and_right (is_value t) _ f, one_type (type_of a) t (and_left _ _ r), one_type (type_of b) t (and_right _ _ r), parts.0, parts.1)
      well_typed_node testing known (Or a b) t p r g f q =
          let parts = both (well_typed_suits testing known a) (well_typed_suits testing (facts false a ++ known) b) p q in
          (and_right (is_value t) _ f, one_type (type_of a) t (and_left _ _ r), one_type (type_of b) t (and_right _ _ r), parts.0, parts.1)
      well_typed_node testing known (Cond a test b) t p r g f q =
          let two = and_left _ _ p in
          let behind = none_right _ _ q in (
            one_type (type_of a) t (and_right _ _ (and_left _ _ r)),
            one_type (type_of test) sort.Bool (and_left _ _ (and_left _ _ r)),
            one_type (type_of b) t (and_right _ _ r),
            well_typed_suits false (facts true test ++ known) a (and_right _ _ two) (none_left _ _ q),
            well_typed_suits true known test (and_left _ _ two) (none_left _ _ behind),
            well_typed_suits false (facts false test ++ known) b (and_right _ _ p) (none_right _ _ behind),
          )
      well_typed_node testing known (ListOf es) t p r g f q = let u = list_suits known es t r in (u.0, u.1, well_typed_row known es p q)
      well_typed_node testing known (TupleOf es) t p r g f q = let us = tuple_suits known es t r in (us.0, us.1, us.2, us.3, well_typed_row known es p q)
      well_typed_node testing known (At a b) t p r g f q =
          let parts = both (well_typed_suits false known a) (well_typed_suits false known b) p q in
          (item_suits (type_of a) (type_of b) t f r, parts.0, parts.1)
      well_typed_node testing known (TupleAt e i) t p r g f q =
          (part_suits (length m.classes.classes) i (type_of e) t (result_type false known e p) r, well_typed_suits false known e p q)
      well_typed_node testing known (Call c es) t p r g f q =
          let h = call_suits signed c (types_of m vs init es) t (and_left _ _ r) (and_right _ _ r) in
          (h.0, h.1, h.2, subst (λ ts. ArgumentsSuit m vs ts es) h.3 (well_typed_arguments known es p q))
      well_typed_node testing known Input t p r g f q = text_is t f
      well_typed_node testing known (Len e) t p r g f q = ((one_type t sort.Int (and_right _ _ r), f), well_typed_suits false known e p q)
      well_typed_node testing known (ToStr e) t p r g f q = ((one_type t sort.Str (and_right _ _ r), f), well_typed_suits false known e p q)
      well_typed_node testing known (Append a b) t p r g f q =
          let parts = both (well_typed_suits false known a) (well_typed_suits false known b) p q in
          ((nothing_is t (and_right _ _ r), one_type (type_of a) (sort.ListOf (type_of b)) (and_left _ _ r)), parts.0, parts.1)
      well_typed_node testing known (Pop e) t p r g f q = (one_type (type_of e) (sort.ListOf t) r, well_typed_suits false known e p q)
      well_typed_node testing known (Coerce e) t p r g f q =
          ((m.classes.classes, and_left _ _ r, flat_result (length m.classes.classes) t g), well_typed_suits false known e p q)
      well_typed_node testing known _ t p r g f q = absurd (cc)

      well_typed_arguments : (known : List ℕ) (es : TypedExprs) → are_values m vs init known es ≡ true → row_forms es ≡ [] → ArgumentsSuit m vs (types_of m vs init es) es
      well_typed_arguments known no_exprs p q = tt
      well_typed_arguments known (expr_then e more) p q =
          let parts = both (well_typed_suits false known e) (well_typed_arguments known more) p q in (refl, parts.0, parts.1)

      well_typed_row : (known : List ℕ) (es : TypedExprs) → are_values m vs init known es ≡ true → row_forms es ≡ [] → AllSuit m vs es
      well_typed_row known no_exprs p q = tt
      well_typed_row known (expr_then e more) p q = both (well_typed_suits false known e) (well_typed_row known more) p q

      well_typed_chain : (known : List ℕ) (a : TypedExpr) (more : Comparisons) → chain_typed m vs init known a more ≡ true → are_pairs (type_of a) more ≡ true → chain_forms more ≡ [] → ComparisonsSuit m vs (type_of a) more
      well_typed_chain known a no_comparisons p f q = tt
      well_typed_chain known a (comparison_then op e more) p f q =
          let h = and_left _ _ (and_left _ _ p) in
          let pairs = and_right (is_ordering op) _ f in
          let part = none_left _ _ q in
          (and_left _ _ f, and_left _ _ pairs, pair_scalar (type_of a) (type_of e) (and_left _ _ pairs), well_typed_suits false known e h part, well_typed_chain known e more (and_right _ _ p) (and_right _ _ pairs) (none_right _ _ q))

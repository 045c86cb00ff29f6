-- Which typed expressions are well typed (PEP 484): each has the parts and the type that its rule asks for.
use Rattle.std.specs.Prelude.{ℕ, ◌^◌, ℤ, pos, negsuc, Bool, true, false, not, ◌==◌, ◌&&◌, ◌||◌, if◌then◌else◌, nat_lt, List, [], ◌∷◌, ◌++◌, length, drop, Option, Some, None, slice_get, codes}
use Rattle.std.specs.List.{list_any, list_all}
use Rattle.std.specs.Option.{option_and_then, option_map}
use Rattle.std.specs.Str.{is_utf8, bytes_eq}
use Rattle.py_syntax.specs.declared.expression.BinOp.{BinOp}
use Rattle.py_syntax.specs.declared.expression.BinOp.TheVariants as op
use Rattle.py_syntax.specs.declared.expression.CmpOp.{CmpOp}
use Rattle.py_syntax.specs.declared.expression.CmpOp.TheVariants as compare
use Rattle.py_typed.specs.Sorts as sort
use Rattle.py_typed.specs.Sorts.{Sort, I64, Instance, Exc, Optional, Sorts, no_sorts, sort_then, sorts_of, listed_sorts}
use Rattle.py_typed.specs.Classes.{ClassEntry, Signature}
use Rattle.py_typed.specs.Fits.{is_same_type, are_same_types, is_number, is_nothing, number_join, fits}
use Rattle.py_typed.specs.Order.{order, listed_order, method_along, method_of, attribute_of}
use Rattle.py_typed.specs.Expressions.{TypedExpr, typed, TypedNode, Int, Str, Flag, Nothing, Local, Global, Neg, Not, Truth, Arith, Concat, Compare, And, Or, Cond, ListOf, DictOf, TupleOf, Attr, At, TupleAt, Call, Make, MakeExc, Method, SuperInit, Print, Input, Len, ToStr, Append, Pop, Coerce, TypedExprs, no_exprs, expr_then, Comparisons, no_comparisons, comparison_then, Entries, no_entries, entry_then, MaybeExpr, no_expr, some_expr, type_of}
use Rattle.py_typed.specs.Statements.{Variable, TypedFunc, TypedModule}
use Rattle.py_typed.specs.Narrowing.{is_in, facts}

-- ---- types of one kind

abbrev pub is_key_type : Sort → Bool
is_key_type sort.Str = true
is_key_type t = is_number t

-- a type that a variable, an item or a parameter may have, where there are so many classes
abbrev mutual
  pub is_value_type : ℕ → Sort → Bool
  is_value_type classes sort.Nothing = false
  is_value_type classes (sort.ListOf t) = is_value_type classes t
  is_value_type classes (sort.DictOf k t) = is_key_type k && is_value_type classes t
  is_value_type classes (sort.TupleOf ts) = nat_lt 0 (length (listed_sorts ts)) && nat_lt (length (listed_sorts ts)) 17 && are_value_types classes ts
  is_value_type classes (Optional (Optional t)) = false
  is_value_type classes (Optional t) = is_value_type classes t
  is_value_type classes (Instance c) = nat_lt c classes
  is_value_type classes t = true

  pub are_value_types : ℕ → Sorts → Bool
  are_value_types classes no_sorts = true
  are_value_types classes (sort_then t ts) = is_value_type classes t && are_value_types classes ts

abbrev pub is_result_type : ℕ → Sort → Bool
is_result_type classes t = is_nothing t || is_value_type classes t

abbrev pub is_exception : Sort → Bool
is_exception (Exc c) = true
is_exception t = false

-- what `print` and `str` take
abbrev pub is_printable : Sort → Bool
is_printable sort.Str = true
is_printable t = is_number t || is_exception t

-- what `len` takes
abbrev pub is_sized : Sort → Bool
is_sized sort.Str = true
is_sized (sort.ListOf t) = true
is_sized (sort.DictOf k t) = true
is_sized (sort.TupleOf ts) = true
is_sized t = false

abbrev pub is_type : Option Sort → Sort → Bool
is_type None t = false
is_type (Some s) t = is_same_type s t

-- of two texts, and of two numbers
abbrev pub are_texts : Sort → Sort → Bool
are_texts s t = is_same_type s sort.Str && is_same_type t sort.Str

abbrev pub are_numbers : Sort → Sort → Bool
are_numbers s t = is_number s && is_number t

abbrev pub is_bar : BinOp → Bool
is_bar op.Bar = true
is_bar o = false

-- the type of `a o b`
abbrev pub operation_sort : BinOp → Sort → Sort → Option Sort
operation_sort op.Add s t = if are_texts s t then Some sort.Str else if are_numbers s t then Some (number_join s t) else None
operation_sort o s t = if are_numbers s t && not (is_bar o) then Some (number_join s t) else None

-- the type of an item, by the types of what is indexed and of the index
abbrev pub indexed : Sort → Sort → Option Sort
indexed (sort.ListOf t) i = if is_same_type i sort.Int then Some t else None
indexed sort.Str i = if is_same_type i sort.Int then Some sort.Str else None
indexed (sort.DictOf k t) i = if is_same_type i k then Some t else None
indexed t i = None

abbrev pub instance_of : Sort → Option ℕ
instance_of (Instance c) = Some c
instance_of t = None

abbrev pub tuple_sort : Sort → ℕ → Option Sort
tuple_sort (sort.TupleOf ts) i = slice_get (listed_sorts ts) i
tuple_sort t i = None

-- a value of a type that may be None reads as one that is not, where that is known
abbrev pub reads_as : Bool → Sort → Sort
reads_as true (Optional t) = t
reads_as known t = t

abbrev pub declared : List Variable → ℕ → Option Sort
declared variables i = option_map (λ x. x.1) (slice_get variables i)

-- a number as it stands in a text: below zero there is none
abbrev pub is_literal : ℤ → Bool
is_literal (pos n) = nat_lt n (2 ^ 127)
is_literal (negsuc n) = false

-- in a condition place stands a bool, and only there is the truth of a value asked for
abbrev pub suits : Bool → TypedNode → Sort → Bool
suits true e t = is_same_type t sort.Bool
suits false (Truth e) t = false
suits false e t = true

-- a call that gives no value
abbrev pub is_empty_call : TypedNode → Sort → Bool
is_empty_call (Call f es) t = is_nothing t
is_empty_call (Method e name es) t = is_nothing t
is_empty_call (SuperInit f es) t = true
is_empty_call (Print es) t = true
is_empty_call (Append a b) t = true
is_empty_call e t = false

abbrev pub is_none_literal : TypedExpr → Bool
is_none_literal (typed Nothing t place) = true
is_none_literal e = false

abbrev pub is_trait_in : Option ClassEntry → Bool
is_trait_in None = true
is_trait_in (Some c) = c.is_trait

abbrev pub is_function : Option TypedFunc → Bool
is_function None = false
is_function (Some f) = function_of f.class
  where
    function_of : Option ℕ → Bool
    function_of None = true
    function_of (Some c) = false

-- the class whose `__init__` this is
abbrev pub init_class : TypedFunc → Option ℕ
init_class f = if bytes_eq f.name (codes "__init__") then f.class else None

abbrev pub is_same_place : Option ℕ → Option ℕ → Bool
is_same_place None None = true
is_same_place (Some f) (Some g) = f == g
is_same_place o p = false

-- ---- expressions, in a function with these locals; `init` is the class whose `__init__` it is

module _ (m : TypedModule) (locals : List Variable) (init : Option ℕ) where
  abbrev pub entries_of_classes : List ClassEntry
  entries_of_classes = m.classes.classes

  abbrev pub signature_at : ℕ → Option Signature
  signature_at f = slice_get m.classes.signatures f

  abbrev pub row_fits : List Sort → List Sort → Bool
  row_fits ss ts = are_same_types (sorts_of ss) (sorts_of ts)

  -- arguments of these types, and a result of this one
  abbrev pub call_fits : Option Signature → List Sort → Sort → Bool
  call_fits None ss t = false
  call_fits (Some s) ss t = row_fits ss s.params && is_same_type s.ret t

  -- arguments of the `__init__` that is called, where there is one
  abbrev pub init_fits : Option ℕ → List Sort → Bool
  init_fits None [] = true
  init_fits None (s ∷ ss) = false
  init_fits (Some f) ss = call_fits (signature_at f) ss sort.Nothing

  abbrev pub make_fits : ℕ → List Sort → Bool
  make_fits c ss = not (is_trait_in (slice_get entries_of_classes c)) && init_fits (method_of entries_of_classes c (codes "__init__")) ss

  abbrev pub method_fits : Option ℕ → List ℕ → List Sort → Sort → Bool
  method_fits None name ss t = false
  method_fits (Some c) name ss t =
      not (bytes_eq name (codes "__init__")) && found_fits (method_of entries_of_classes c name)
    where
      found_fits : Option ℕ → Bool
      found_fits None = false
      found_fits (Some f) = call_fits (signature_at f) ss t

  -- `super().__init__`: the next one along the order of the class
  abbrev pub super_fits : Option ℕ → Option ℕ → List Sort → Bool
  super_fits None f ss = false
  super_fits (Some c) f ss =
      not (is_trait_in (slice_get entries_of_classes c)) && is_same_place f (method_along entries_of_classes (codes "__init__") (drop 1 (listed_order (order entries_of_classes c)))) && init_fits f ss

  abbrev pub pair_fits : CmpOp → TypedExpr → TypedExpr → Bool
  pair_fits compare.Is a b = is_none_literal b
  pair_fits compare.IsNot a b = is_none_literal b
  pair_fits compare.Member a b = in_dict (type_of b)
    where
      in_dict : Sort → Bool
      in_dict (sort.DictOf k t) = fits entries_of_classes (type_of a) k
      in_dict t = false
  pair_fits compare.NotMember a b = in_dict (type_of b)
    where
      in_dict : Sort → Bool
      in_dict (sort.DictOf k t) = fits entries_of_classes (type_of a) k
      in_dict t = false
  pair_fits o a b = are_texts (type_of a) (type_of b) || are_numbers (type_of a) (type_of b)

  abbrev pub exception_text : MaybeExpr → Bool
  exception_text no_expr = true
  exception_text (some_expr e) = is_same_type (type_of e) sort.Str

  -- the types of a row
  abbrev pub types_of : TypedExprs → List Sort
  types_of no_exprs = []
  types_of (expr_then e more) = type_of e ∷ types_of more

  abbrev pub all_of : Sort → List Sort → Bool
  all_of t ss = list_all (λ s. is_same_type s t) ss

  abbrev pub keys_of : Entries → List Sort
  keys_of no_entries = []
  keys_of (entry_then a b more) = type_of a ∷ keys_of more

  abbrev pub values_of : Entries → List Sort
  values_of no_entries = []
  values_of (entry_then a b more) = type_of b ∷ values_of more

  -- the rule of a node whose parts are well typed; the names known not to be None come first
  abbrev pub rule : List ℕ → TypedNode → Sort → Bool
  rule known (Int n) t = is_literal n && is_same_type t sort.Int
  rule known (Str text) t = is_utf8 text && is_same_type t sort.Str
  rule known (Flag b) t = is_same_type t sort.Bool
  rule known Nothing t = is_nothing t
  -- as it is declared, or where it is known not to be None as what is not
  rule known (Local i) t = is_type (declared locals i) t || is_type (option_map (reads_as (is_in known i)) (declared locals i)) t
  rule known (Global i) t = is_type (declared m.globals i) t
  rule known (Neg e) t = is_number (type_of e) && is_same_type t (number_join (type_of e) sort.Int)
  rule known (Not e) t = is_same_type (type_of e) sort.Bool && is_same_type t sort.Bool
  rule known (Truth e) t = not (is_same_type (type_of e) sort.Bool) && is_same_type t sort.Bool
  rule known (Arith o a b) t = are_numbers (type_of a) (type_of b) && is_type (operation_sort o (type_of a) (type_of b)) t
  rule known (Concat a b) t = are_texts (type_of a) (type_of b) && is_same_type t sort.Str
  rule known (Compare e no_comparisons) t = false
  rule known (Compare e more) t = is_same_type t sort.Bool
  rule known (And a b) t = is_same_type (type_of a) t && is_same_type (type_of b) t
  rule known (Or a b) t = is_same_type (type_of a) t && is_same_type (type_of b) t
  rule known (Cond a test b) t = is_same_type (type_of test) sort.Bool && is_same_type (type_of a) t && is_same_type (type_of b) t
  rule known (ListOf es) (sort.ListOf t) = not (is_nothing t) && all_of t (types_of es)
  rule known (ListOf es) t = false
  rule known (DictOf es) (sort.DictOf k t) = is_key_type k && not (is_nothing t) && all_of k (keys_of es) && all_of t (values_of es)
  rule known (DictOf es) t = false
  rule known (TupleOf es) (sort.TupleOf ts) =
      row_fits (types_of es) (listed_sorts ts) && nat_lt 0 (length (types_of es)) && nat_lt (length (types_of es)) 17 && not (list_any is_nothing (types_of es))
  rule known (TupleOf es) t = false
  rule known (Attr e name) t = is_type (option_and_then (λ c. attribute_of entries_of_classes c name) (instance_of (type_of e))) t
  rule known (At e i) t = is_type (indexed (type_of e) (type_of i)) t
  rule known (TupleAt e i) t = is_type (tuple_sort (type_of e) i) t
  rule known (Call f es) t = is_function (slice_get m.funcs f) && call_fits (signature_at f) (types_of es) t
  rule known (Make c es) t = make_fits c (types_of es) && is_same_type t (Instance c)
  rule known (MakeExc c e) t = exception_text e && is_same_type t (Exc c)
  rule known (Method e name es) t = method_fits (instance_of (type_of e)) name (types_of es) t
  rule known (SuperInit f es) t = super_fits init f (types_of es) && is_nothing t
  rule known (Print es) t = list_all is_printable (types_of es) && is_nothing t
  rule known Input t = is_same_type t sort.Str
  rule known (Len e) t = is_sized (type_of e) && is_same_type t sort.Int
  rule known (ToStr e) t = is_printable (type_of e) && is_same_type t sort.Str
  rule known (Append a b) t = is_same_type (type_of a) (sort.ListOf (type_of b)) && is_nothing t
  rule known (Pop e) t = is_same_type (type_of e) (sort.ListOf t)
  rule known (Coerce e) t = fits entries_of_classes (type_of e) t && not (is_same_type (type_of e) t)

  -- what gives a value, in a condition place or not: all parts are well typed, and so is the node. The operand of `not` and the
  -- test of a conditional stand in condition places, and so do the operands of `and` and `or` where these stand in one. What a
  -- test says holds behind it
  abbrev mutual
    pub stands : Bool → List ℕ → TypedExpr → Bool
    stands testing known (typed e t place) =
        parts_typed testing known e && rule known e t && suits testing e t && is_result_type (length entries_of_classes) t && not (is_empty_call e t)

    pub parts_typed : Bool → List ℕ → TypedNode → Bool
    parts_typed testing known (Neg e) = stands false known e
    parts_typed testing known (Not e) = stands true known e
    parts_typed testing known (Truth e) = stands false known e
    parts_typed testing known (Arith o a b) = stands false known a && stands false known b
    parts_typed testing known (Concat a b) = stands false known a && stands false known b
    parts_typed testing known (Compare e more) = stands false known e && chain_typed known e more
    parts_typed testing known (And a b) = stands testing known a && stands testing (facts true a ++ known) b
    parts_typed testing known (Or a b) = stands testing known a && stands testing (facts false a ++ known) b
    parts_typed testing known (Cond a test b) = stands true known test && stands false (facts true test ++ known) a && stands false (facts false test ++ known) b
    parts_typed testing known (ListOf es) = are_values known es
    parts_typed testing known (DictOf es) = entries_typed known es
    parts_typed testing known (TupleOf es) = are_values known es
    parts_typed testing known (Attr e name) = stands false known e
    parts_typed testing known (At e i) = stands false known e && stands false known i
    parts_typed testing known (TupleAt e i) = stands false known e
    parts_typed testing known (Call f es) = are_values known es
    parts_typed testing known (Make c es) = are_values known es
    parts_typed testing known (MakeExc c e) = maybe_value known e
    parts_typed testing known (Method e name es) = stands false known e && are_values known es
    parts_typed testing known (SuperInit f es) = are_values known es
    parts_typed testing known (Print es) = are_values known es
    parts_typed testing known (Len e) = stands false known e
    parts_typed testing known (ToStr e) = stands false known e
    parts_typed testing known (Append a b) = stands false known a && stands false known b
    parts_typed testing known (Pop e) = stands false known e
    parts_typed testing known (Coerce e) = stands false known e
    parts_typed testing known e = true

    pub are_values : List ℕ → TypedExprs → Bool
    are_values known no_exprs = true
    are_values known (expr_then e more) = stands false known e && are_values known more

    pub chain_typed : List ℕ → TypedExpr → Comparisons → Bool
    chain_typed known a no_comparisons = true
    chain_typed known a (comparison_then o b more) = stands false known b && pair_fits o a b && chain_typed known b more

    pub entries_typed : List ℕ → Entries → Bool
    entries_typed known no_entries = true
    entries_typed known (entry_then a b more) = stands false known a && stands false known b && entries_typed known more

    pub maybe_value : List ℕ → MaybeExpr → Bool
    maybe_value known no_expr = true
    maybe_value known (some_expr e) = stands false known e

  -- an expression that gives a value, a test, and an expression that stands alone and need not give one
  abbrev pub is_value : List ℕ → TypedExpr → Bool
  is_value known e = stands false known e

  abbrev pub is_test : List ℕ → TypedExpr → Bool
  is_test known e = stands true known e

  abbrev pub is_typed : List ℕ → TypedExpr → Bool
  is_typed known (typed e t place) = parts_typed false known e && rule known e t && suits false e t && is_result_type (length entries_of_classes) t

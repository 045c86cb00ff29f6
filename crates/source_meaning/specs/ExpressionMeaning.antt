-- What an expression does (Python Language Reference, "Expressions"): parts go from left to right, and each part only where it is needed.
use Rattle.std.specs.Prelude.{ℕ, true, false, not, nat_lt, List, [], ◌∷◌, ◌++◌, length, replicate, Option, Some, None, slice_get, slice_set, if◌then◌else◌, codes}
use Rattle.std.specs.List.{list_all}
use Rattle.value_core.specs.declared.exception.ExcClass.TheVariants.{AttributeError, NameError, UnboundLocalError}
use Rattle.value_core.specs.Exceptions.{thrown}
use Rattle.value_core.specs.Value.{Value, IntVal, BoolVal, NoneVal, StrVal, TupleVal, ExcVal, tupled, ListObj, DictObj, InstObj}
use Rattle.py_typed.specs.Sorts.{Sort}
use Rattle.py_typed.specs.Classes.{ClassEntry}
use Rattle.py_typed.specs.Order.{method_of, attributes, place_in}
use Rattle.py_typed.specs.TypeTexts.{name_in}
use Rattle.py_typed.specs.Expressions.{TypedExpr, typed, TypedNode, Int, Str, Flag, Nothing, Local, Global, Neg, Not, Truth, Arith, Concat, Compare, And, Or, Cond, ListOf, DictOf, TupleOf, Attr, At, TupleAt, Call, Make, MakeExc, Method, SuperInit, Print, Input, Len, ToStr, Append, Pop, Coerce, TypedExprs, no_exprs, expr_then, Comparisons, no_comparisons, comparison_then, Entries, no_entries, entry_then, MaybeExpr, no_expr, some_expr, type_of}
use Rattle.py_typed.specs.Statements.{Variable}
use Rattle.source_meaning.specs.State.{Stuck, Does, Calls, ◌>>=◌, ◌>>◌, give, stop, raise_new, look, sure, needs, make, put, write}
use Rattle.source_meaning.specs.Operations.{coerced, arithmetic, negated, joined, holds, with_instance, item_at, tuple_part, append_item, pop_item, entered, has_text, text_of, line_of, truth_of, length_of, next_line}

-- ---- variables

abbrev pub name_at : List Variable → ℕ → List ℕ
name_at variables i = name_in_pair (slice_get variables i)
  where
    name_in_pair : Option Variable → List ℕ
    name_in_pair None = []
    name_in_pair (Some x) = x.0

-- a variable's value, or what comes where it is unset
abbrev pub value_in : Does Value → Option (Option Value) → Does Value
value_in unset None = stop Stuck
value_in unset (Some None) = unset
value_in unset (Some (Some v)) = give v

abbrev pub read_local : List Variable → ℕ → Does Value
read_local locals i =
    look (λ s. slice_get s.locals i) (value_in (raise_new UnboundLocalError (codes "local variable '" ++ name_at locals i ++ codes "' referenced before assignment")))

abbrev pub read_global : List Variable → ℕ → Does Value
read_global globals i =
    look (λ s. slice_get s.globals i) (value_in (raise_new NameError (codes "name '" ++ name_at globals i ++ codes "' is not defined")))

-- ---- instances

module _ (classes : List ClassEntry) where
  -- an unset attribute is told with the object's own class
  abbrev pub unset_attribute : ℕ → List ℕ → Does Value
  unset_attribute c name = raise_new AttributeError (codes "attribute '" ++ name ++ codes "' of '" ++ name_in (slice_get classes c) ++ codes "' undefined")

  abbrev pub attribute : List ℕ → Value → Does Value
  attribute name o =
      with_instance o (λ k c vs. sure (place_in name (attributes classes c)) >>= λ i. value_in (unset_attribute c name) (slice_get vs i))

  abbrev pub set_attribute : List ℕ → Value → Value → Does (Unit {0})
  set_attribute name o v =
      with_instance o (λ k c vs. sure (place_in name (attributes classes c)) >>= λ i. needs (nat_lt i (length vs)) (put k (InstObj c (slice_set vs i (Some v)))))

  module _ (call : Calls) where
    -- a function on an object, if there is one; its result is dropped
    abbrev pub start_with : Option ℕ → Value → List Value → Does Value
    start_with None o args = give o
    start_with (Some f) o args = call f (o ∷ args) >> give o

    -- an instance without attributes, and then the first `__init__` of the class's order on it
    abbrev pub new_instance : ℕ → List Value → Does Value
    new_instance c args =
        make (InstObj c (replicate (length (attributes classes c)) None)) >>= λ o. start_with (method_of classes c (codes "__init__")) o args

    -- a method goes by the object's class
    abbrev pub call_method : List ℕ → Value → List Value → Does Value
    call_method name o args = with_instance o (λ k c vs. sure (method_of classes c name) >>= λ f. call f (o ∷ args))

    abbrev pub call_next : Option ℕ → Value → List Value → Does Value
    call_next None o args = give NoneVal
    call_next (Some f) o args = call f (o ∷ args)

    -- ---- expressions, in a function with these locals

    module _ (globals locals : List Variable) where
      abbrev mutual
        pub expression : TypedExpr → Does Value
        expression (typed e t place) = node e t

        pub node : TypedNode → Sort → Does Value
        node (Int n) t = give (IntVal n)
        node (Str text) t = give (StrVal text)
        node (Flag b) t = give (BoolVal b)
        node Nothing t = give NoneVal
        node (Local i) t = read_local locals i
        node (Global i) t = read_global globals i
        node (Neg e) t = do
          x ← expression e
          negated t x
        node (Not e) t = do
          x ← expression e
          b ← truth_of x
          give (BoolVal (not b))
        node (Truth e) t = do
          x ← expression e
          b ← truth_of x
          give (BoolVal b)
        node (Arith op a b) t = do
          x ← expression a
          y ← expression b
          arithmetic t op x y
        node (Concat a b) t = do
          x ← expression a
          y ← expression b
          joined x y
        node (Compare e more) t = do
          x ← expression e
          chain (type_of e) x more
        node (And a b) t = do
          x ← expression a
          h ← truth_of x
          if h then expression b else give x
        node (Or a b) t = do
          x ← expression a
          h ← truth_of x
          if h then give x else expression b
        node (Cond a test b) t = do
          x ← expression test
          h ← truth_of x
          if h then expression a else expression b
        node (ListOf es) t = do
          vs ← expressions es
          make (ListObj vs)
        node (DictOf es) t = do
          ps ← entries es
          make (DictObj (entered ps []))
        node (TupleOf es) t = do
          vs ← expressions es
          give (TupleVal (tupled vs))
        node (Attr e name) t = do
          o ← expression e
          attribute name o
        node (At e i) t = do
          x ← expression e
          j ← expression i
          item_at (type_of e) x j
        node (TupleAt e i) t = do
          x ← expression e
          tuple_part i x
        node (Call f es) t = do
          vs ← expressions es
          call f vs
        node (Make c es) t = do
          vs ← expressions es
          new_instance c vs
        node (MakeExc c e) t = do
          text ← text_or_empty e
          needs (has_text text) (give (ExcVal (thrown c (text_of text))))
        node (Method e name es) t = do
          o ← expression e
          vs ← expressions es
          call_method name o vs
        node (SuperInit f es) t = do
          o ← read_local locals 0
          vs ← expressions es
          call_next f o vs
        node (Print es) t = do
          vs ← expressions es
          needs (list_all has_text vs) (write (line_of vs))
        node Input t = look (λ s. s.items) next_line
        node (Len e) t = do
          x ← expression e
          length_of x
        node (ToStr e) t = do
          x ← expression e
          needs (has_text x) (give (StrVal (text_of x)))
        node (Append a b) t = do
          l ← expression a
          v ← expression b
          append_item l v
        node (Pop e) t = do
          l ← expression e
          pop_item l
        node (Coerce e) t = do
          x ← expression e
          coerced t x

        -- one after another
        pub expressions : TypedExprs → Does (List Value)
        expressions no_exprs = give []
        expressions (expr_then e more) = do
          v ← expression e
          vs ← expressions more
          give (v ∷ vs)

        -- each pair in turn, up to the first that does not hold; the operand between two pairs is evaluated once
        pub chain : Sort → Value → Comparisons → Does Value
        chain s x no_comparisons = give (BoolVal true)
        chain s x (comparison_then op e more) = do
          y ← expression e
          h ← holds op s (type_of e) x y
          if h then chain (type_of e) y more else give (BoolVal false)

        -- a key comes before its value
        pub entries : Entries → Does (List (Value × Value))
        entries no_entries = give []
        entries (entry_then a b more) = do
          key ← expression a
          v ← expression b
          ps ← entries more
          give ((key, v) ∷ ps)

        pub text_or_empty : MaybeExpr → Does Value
        text_or_empty no_expr = give (StrVal [])
        text_or_empty (some_expr e) = expression e

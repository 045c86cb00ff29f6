-- What an expression does is alike to itself, where calls are.
use Rattle.std.proofs.Common.{ℕ, List, ◌∷◌, Option, Some, None, refl, length, nat_lt, slice_get, codes}
use Rattle.std.specs.List.{list_all}
use Rattle.value_core.specs.Value.{Value}
use Rattle.py_typed.specs.Sorts.{Sort}
use Rattle.py_typed.specs.Classes.{ClassEntry}
use Rattle.py_typed.specs.Order.{method_of, attributes, place_in}
use Rattle.py_typed.specs.Expressions.{TypedExpr, typed, TypedNode, Int, Str, Flag, Nothing, Local, Global, Neg, Not, Truth, Arith, Concat, Compare, And, Or, Cond, ListOf, DictOf, TupleOf, Attr, At, TupleAt, Call, Make, MakeExc, Method, SuperInit, Print, Input, Len, ToStr, Append, Pop, Coerce, TypedExprs, no_exprs, expr_then, Comparisons, no_comparisons, comparison_then, Entries, no_entries, entry_then, MaybeExpr, no_expr, some_expr, type_of}
use Rattle.py_typed.specs.Statements.{Variable}
use Rattle.source_meaning.specs.State.{Stuck, Does, Calls}
use Rattle.source_meaning.specs.Operations.{has_text}
use Rattle.source_meaning.specs.ExpressionMeaning.{value_in, read_local, read_global, attribute, set_attribute, start_with, new_instance, call_method, call_next, expression, node, expressions, chain, entries, text_or_empty}
use Rattle.source_meaning.proofs.Closed.{Closed}
use Rattle.source_meaning.proofs.OperationsAlike.{either, sures, needed, coercions, arithmetics, negates, joins, instances, items_at, appends, pops, parts, truths, lengths, relations}

module _ {R : ℕ → (A : Type 0) → Does A → Does A → Type 0} {Allowed : ℕ → ℕ → ℕ → Type 0} (k : Closed R Allowed) (t : ℕ) where
  values : {d : Does Value} → R t _ d d → (o : Option (Option Value)) → R t _ (value_in d o) (value_in d o)
  values p None = k.stops t Stuck
  values p (Some None) = p
  values p (Some (Some v)) = k.gives t v

  pub locals_read : (locals : List Variable) (i : ℕ) → R t _ (read_local locals i) (read_local locals i)
  locals_read locals i = k.looks t (λ s. slice_get s.locals i) (λ s n. refl) (values (k.raises t _))

  pub globals_read : (globals : List Variable) (i : ℕ) → R t _ (read_global globals i) (read_global globals i)
  globals_read globals i = k.looks t (λ s. slice_get s.globals i) (λ s n. refl) (values (k.raises t _))

  module _ (classes : List ClassEntry) where
    pub attributes_read : (name : List ℕ) (o : Value) → R t _ (attribute classes name o) (attribute classes name o)
    attributes_read name o = instances k t o (λ j c vs. k.binds t (sures k t (place_in name (attributes classes c))) (λ i. values (k.raises t _) (slice_get vs i)))

    pub attributes_set : (name : List ℕ) (o v : Value) → R t _ (set_attribute classes name o v) (set_attribute classes name o v)
    attributes_set name o v = instances k t o (λ j c vs. k.binds t (sures k t (place_in name (attributes classes c))) (λ i. needed k t (nat_lt i (length vs)) (k.puts t j _)))

    module _ (c c' : Calls) (calls : (f : ℕ) (args : List Value) → R t _ (c f args) (c' f args)) where
      starts : (f : Option ℕ) (o : Value) (args : List Value) → R t _ (start_with classes c f o args) (start_with classes c' f o args)
      starts None o args = k.gives t o
      starts (Some f) o args = k.binds t (calls f (o ∷ args)) (λ _. k.gives t o)

      news : (n : ℕ) (args : List Value) → R t _ (new_instance classes c n args) (new_instance classes c' n args)
      news n args = k.binds t (k.makes t _) (λ o. starts (method_of classes n (codes "__init__")) o args)

      methods : (name : List ℕ) (o : Value) (args : List Value) → R t _ (call_method classes c name o args) (call_method classes c' name o args)
      methods name o args = instances k t o (λ j n vs. k.binds t (sures k t (method_of classes n name)) (λ f. calls f (o ∷ args)))

      nexts : (f : Option ℕ) (o : Value) (args : List Value) → R t _ (call_next classes c f o args) (call_next classes c' f o args)
      nexts None o args = k.gives t _
      nexts (Some f) o args = calls f (o ∷ args)

      module _ (globals locals : List Variable) where
        mutual
          pub expression_alike : (e : TypedExpr) → R t _ (expression classes c globals locals e) (expression classes c' globals locals e)
          expression_alike (typed e s place) = node_alike e s

          node_alike : (e : TypedNode) (s : Sort) → R t _ (node classes c globals locals e s) (node classes c' globals locals e s)
          node_alike (Int n) s = k.gives t _
          node_alike (Str text) s = k.gives t _
          node_alike (Flag b) s = k.gives t _
          node_alike Nothing s = k.gives t _
          node_alike (Local i) s = locals_read locals i
          node_alike (Global i) s = globals_read globals i
          node_alike (Neg e) s = k.binds t (expression_alike e) (λ x. negates k t s x)
          node_alike (Not e) s = k.binds t (expression_alike e) (λ x. k.binds t (truths k t x) (λ b. k.gives t _))
          node_alike (Truth e) s = k.binds t (expression_alike e) (λ x. k.binds t (truths k t x) (λ b. k.gives t _))
          node_alike (Arith op a b) s = k.binds t (expression_alike a) (λ x. k.binds t (expression_alike b) (λ y. arithmetics k t s op x y))
          node_alike (Concat a b) s = k.binds t (expression_alike a) (λ x. k.binds t (expression_alike b) (λ y. joins k t x y))
          node_alike (Compare e more) s = k.binds t (expression_alike e) (λ x. chain_alike (type_of e) x more)
          node_alike (And a b) s = k.binds t (expression_alike a) (λ x. k.binds t (truths k t x) (λ h. either k t h (expression_alike b) (k.gives t x)))
          node_alike (Or a b) s = k.binds t (expression_alike a) (λ x. k.binds t (truths k t x) (λ h. either k t h (k.gives t x) (expression_alike b)))
          node_alike (Cond a test b) s = k.binds t (expression_alike test) (λ x. k.binds t (truths k t x) (λ h. either k t h (expression_alike a) (expression_alike b)))
          node_alike (ListOf es) s = k.binds t (expressions_alike es) (λ vs. k.makes t _)
          node_alike (DictOf es) s = k.binds t (entries_alike es) (λ ps. k.makes t _)
          node_alike (TupleOf es) s = k.binds t (expressions_alike es) (λ vs. k.gives t _)
          node_alike (Attr e name) s = k.binds t (expression_alike e) (λ o. attributes_read name o)
          node_alike (At e i) s = k.binds t (expression_alike e) (λ x. k.binds t (expression_alike i) (λ j. items_at k t (type_of e) x j))
          node_alike (TupleAt e i) s = k.binds t (expression_alike e) (λ x. parts k t i x)
          node_alike (Call f es) s = k.binds t (expressions_alike es) (λ vs. calls f vs)
          node_alike (Make n es) s = k.binds t (expressions_alike es) (λ vs. news n vs)
          node_alike (MakeExc x e) s = k.binds t (text_alike e) (λ text. needed k t (has_text text) (k.gives t _))
          node_alike (Method e name es) s = k.binds t (expression_alike e) (λ o. k.binds t (expressions_alike es) (λ vs. methods name o vs))
          node_alike (SuperInit f es) s = k.binds t (locals_read locals 0) (λ o. k.binds t (expressions_alike es) (λ vs. nexts f o vs))
          node_alike (Print es) s = k.binds t (expressions_alike es) (λ vs. needed k t (list_all has_text vs) (k.writes t _))
          node_alike Input s = k.looks t (λ s. s.items) (λ s n. refl) (k.reads t)
          node_alike (Len e) s = k.binds t (expression_alike e) (λ x. lengths k t x)
          node_alike (ToStr e) s = k.binds t (expression_alike e) (λ x. needed k t (has_text x) (k.gives t _))
          node_alike (Append a b) s = k.binds t (expression_alike a) (λ l. k.binds t (expression_alike b) (λ v. appends k t l v))
          node_alike (Pop e) s = k.binds t (expression_alike e) (λ l. pops k t l)
          node_alike (Coerce e) s = k.binds t (expression_alike e) (λ x. coercions k t s x)

          expressions_alike : (es : TypedExprs) → R t _ (expressions classes c globals locals es) (expressions classes c' globals locals es)
          expressions_alike no_exprs = k.gives t _
          expressions_alike (expr_then e more) = k.binds t (expression_alike e) (λ v. k.binds t (expressions_alike more) (λ vs. k.gives t _))

          chain_alike : (s : Sort) (x : Value) (more : Comparisons) → R t _ (chain classes c globals locals s x more) (chain classes c' globals locals s x more)
          chain_alike s x no_comparisons = k.gives t _
          chain_alike s x (comparison_then op e more) = k.binds t (expression_alike e) (λ y. k.binds t (relations k t op s (type_of e) x y) (λ h. either k t h (chain_alike (type_of e) y more) (k.gives t _)))

          entries_alike : (es : Entries) → R t _ (entries classes c globals locals es) (entries classes c' globals locals es)
          entries_alike no_entries = k.gives t _
          entries_alike (entry_then a b more) = k.binds t (expression_alike a) (λ key. k.binds t (expression_alike b) (λ v. k.binds t (entries_alike more) (λ ps. k.gives t _)))

          text_alike : (e : MaybeExpr) → R t _ (text_or_empty classes c globals locals e) (text_or_empty classes c' globals locals e)
          text_alike no_expr = k.gives t _
          text_alike (some_expr e) = expression_alike e

-- What a statement does (Python Language Reference, "Simple statements" and "Compound statements").
use Rattle.std.specs.Prelude.{ℕ, suc, ℤ, pos, ◌+ℤ◌, Bool, List, [], ◌∷◌, length, map, Option, Some, None, slice_get, nat_lt, int_lt, ◌==◌, if◌then◌else◌, codes}
use Rattle.value_core.specs.declared.exception.ExcClass.TheVariants.{AssertionError, RuntimeError}
use Rattle.value_core.specs.Value.{Value, IntVal, NoneVal, TupleVal, listed}
use Rattle.py_syntax.specs.declared.expression.BinOp.{BinOp}
use Rattle.py_typed.specs.Sorts.{Sort}
use Rattle.py_typed.specs.Classes.{ClassEntry}
use Rattle.py_typed.specs.Fits.{fits}
use Rattle.py_typed.specs.Expressions.{TypedExpr, type_of}
use Rattle.py_typed.specs.Statements.{Variable, TypedTarget, LocalTarget, GlobalTarget, AttrTarget, ItemTarget, TypedStmt, on_line, TypedAct, Do, Assign, Aug, Del, If, While, ForRange, ForList, ForDict, Try, Raise, Return, Break, Continue, Assert, Pass, TypedSuite, no_stmts, stmt_then, Arms, no_arms, arm_then, Handlers, no_handlers, handler_then, MaybeSuite, no_suite, some_suite}
use Rattle.py_typed.specs.TargetTypes.{sort_at, attribute_sort, key_sort, item_sort}
use Rattle.source_meaning.specs.State.{Stuck, Does, Calls, ◌>>=◌, ◌>>◌, give, raise, stop, raise_new, look, sure, needs, set_local, set_global}
use Rattle.source_meaning.specs.Operations.{coerced, combined, with_number, with_list, with_dict, item_at, set_item, delete_entry, truth_of, has_text, text_of, counted}
use Rattle.source_meaning.specs.ExpressionMeaning.{expression, read_local, read_global, attribute, set_attribute}
use Rattle.source_meaning.specs.WaysOut.{Flow, Goes, Breaks, Continues, Returns, flow_on, catch, finally, handling, raise_again, raise_value, catches, unset_after, loop}

module _ (classes : List ClassEntry) (call : Calls) (globals locals : List Variable) where
  abbrev pub target_sort : TypedTarget → Sort
  target_sort (LocalTarget i) = sort_at locals i
  target_sort (GlobalTarget i) = sort_at globals i
  target_sort (AttrTarget e name) = attribute_sort classes (type_of e) name
  target_sort (ItemTarget e i) = item_sort (type_of e)

  abbrev pub value_of : TypedExpr → Does Value
  value_of e = expression classes call globals locals e

  -- ---- assignment

  -- the parts of the target are evaluated after the value
  abbrev pub assign : TypedTarget → Value → Does (Unit {0})
  assign (LocalTarget i) v = set_local i (Some v)
  assign (GlobalTarget i) v = set_global i (Some v)
  assign (AttrTarget e name) v = value_of e >>= λ o. set_attribute classes name o v
  assign (ItemTarget e i) v = value_of e >>= λ x. value_of i >>= λ j. set_item (type_of e) x j v

  -- values as ones of the targets' types, and values to targets, one after another
  abbrev pub coerce_each : List TypedTarget → List Value → Does (List Value)
  coerce_each [] [] = give []
  coerce_each (t ∷ ts) (v ∷ vs) = coerced (target_sort t) v >>= λ w. coerce_each ts vs >>= λ ws. give (w ∷ ws)
  coerce_each ts vs = stop Stuck

  abbrev pub assign_each : List TypedTarget → List Value → Does (Unit {0})
  assign_each [] [] = give tt
  assign_each (t ∷ ts) (v ∷ vs) = assign t v >> assign_each ts vs
  assign_each ts vs = stop Stuck

  -- all parts of a tuple are coerced before the first target is written
  abbrev pub unpack : List TypedTarget → Value → Does (Unit {0})
  unpack ts (TupleVal vs) = coerce_each ts (listed vs) >>= assign_each ts
  unpack ts v = stop Stuck

  -- one target takes a value that fits it; else the targets take the parts
  abbrev pub bind : List TypedTarget → Sort → Value → Does (Unit {0})
  bind (t ∷ []) s v = if fits classes s (target_sort t) then coerced (target_sort t) v >>= assign t else unpack (t ∷ []) v
  bind ts s v = unpack ts v

  -- the target's parts, the read, what is made of the value, the write
  abbrev pub update : TypedTarget → (Value → Does Value) → Does (Unit {0})
  update (LocalTarget i) f = read_local locals i >>= f >>= λ v. set_local i (Some v)
  update (GlobalTarget i) f = read_global globals i >>= f >>= λ v. set_global i (Some v)
  update (AttrTarget e name) f = value_of e >>= λ o. attribute classes name o >>= f >>= λ v. set_attribute classes name o v
  update (ItemTarget e i) f =
      value_of e >>= λ x. value_of i >>= λ j. item_at (type_of e) x j >>= f >>= λ v. set_item (type_of e) x j v

  -- of the old value: the operand, the operation in its result's type, the coercion to the target's type
  abbrev pub changed : TypedTarget → BinOp → TypedExpr → Sort → Value → Does Value
  changed t op e s old = value_of e >>= λ y. combined s op old y >>= coerced (target_sort t)

  -- ---- parts of statements

  abbrev pub test_of : TypedExpr → Does Bool
  test_of e = value_of e >>= truth_of

  abbrev pub value_or : Value → Option TypedExpr → Does Value
  value_or v None = give v
  value_or v (Some e) = value_of e

  abbrev pub raised_by : Option TypedExpr → Does Flow
  raised_by None = look (λ s. s.handled) raise_again
  raised_by (Some e) = value_of e >>= raise_value

  abbrev pub fail_with : Option TypedExpr → Does Flow
  fail_with None = raise_new AssertionError []
  fail_with (Some e) = value_of e >>= λ v. needs (has_text v) (raise_new AssertionError (text_of v))

  abbrev pub name_bound : Option TypedTarget → Value → Does (Unit {0})
  name_bound None e = give tt
  name_bound (Some t) e = assign t e

  -- a handler's body, with the exception under its name up to its end
  abbrev pub handled_by : Option TypedTarget → Does Flow → Value → Does Flow
  handled_by name body e = handling e (unset_after name (name_bound name e >> body))

  -- ---- loops: whether there is a next item, and the item

  abbrev pub list_goes_on : Value → ℕ → Does Bool
  list_goes_on l i = with_list l (λ k vs. give (nat_lt i (counted (length vs))))

  abbrev pub list_next : Value → ℕ → Does Value
  list_next l i = with_list l (λ k vs. sure (slice_get vs i))

  -- a dict that has grown or shrunk since the loop began cannot be gone over further
  abbrev pub dict_goes_on : Value → ℕ → ℕ → Does Bool
  dict_goes_on d size i =
      with_dict d (λ k ps. if counted (length ps) == counted size then give (nat_lt i (counted (length ps))) else raise_new RuntimeError (codes "dictionary changed size during iteration"))

  abbrev pub dict_next : Value → ℕ → Does Value
  dict_next d i = with_dict d (λ k ps. sure (slice_get (map (λ p. p.0) ps) i))

  -- ---- statements; n bounds the repetitions of each loop

  module _ (n : ℕ) where
    abbrev mutual
      pub statement : TypedStmt → Does Flow
      statement (on_line a line) = act a

      pub act : TypedAct → Does Flow
      act (Do e) = value_of e >> give Goes
      act (Assign ts e) = do
        v ← value_of e
        bind ts (type_of e) v
        give Goes
      act (Aug t op e s) = update t (changed t op e s) >> give Goes
      act (Del e i) = do
        d ← value_of e
        key ← value_of i
        delete_entry d key
        give Goes
      act (If arms other) = first_arm arms (suite other)
      act (While test body) = loop {X = ℕ} (suc n) (λ i. test_of test) (λ i. suite body) (λ i. i) 0
      act (ForRange ts a b body) = do
        x ← value_or (IntVal (pos 0)) a
        y ← value_of b
        with_number x (λ i. with_number y (λ j. loop {X = ℤ} (suc n) (λ k. give (int_lt k j)) (λ k. bind ts (type_of b) (IntVal k) >> suite body) (λ k. k +ℤ pos 1) i))
      act (ForList ts e body) = do
        l ← value_of e
        loop {X = ℕ} (suc n) (list_goes_on l) (λ i. list_next l i >>= bind ts (item_sort (type_of e)) >> suite body) suc 0
      act (ForDict ts e body) = do
        d ← value_of e
        with_dict d (λ k ps. loop {X = ℕ} (suc n) (dict_goes_on d (length ps)) (λ i. dict_next d i >>= bind ts (key_sort (type_of e)) >> suite body) suc 0)
      act (Try body handlers last) = finally (catch (suite body) (handle handlers)) (last_part last)
      act (Raise e) = raised_by e
      act (Return e) = do
        v ← value_or NoneVal e
        give (Returns v)
      act Break = give Breaks
      act Continue = give Continues
      act (Assert test message) = do
        h ← test_of test
        if h then give Goes else fail_with message
      act Pass = give Goes

      pub suite : TypedSuite → Does Flow
      suite no_stmts = give Goes
      suite (stmt_then s more) = statement s >>= flow_on (suite more)

      pub first_arm : Arms → Does Flow → Does Flow
      first_arm no_arms other = other
      first_arm (arm_then test body more) other = do
        h ← test_of test
        if h then suite body else first_arm more other

      pub handle : Handlers → Value → Does Flow
      handle no_handlers e = raise e
      handle (handler_then classes' name body more) e = (if catches classes' e then handled_by name (suite body) e else handle more e)

      pub last_part : MaybeSuite → Does Flow
      last_part no_suite = give Goes
      last_part (some_suite body) = suite body

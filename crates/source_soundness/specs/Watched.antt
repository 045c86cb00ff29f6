-- The meaning of a module once more, with a watcher that sees each value as it is read or made, and the type that it is read at.
-- It is `ExpressionMeaning`, `StatementMeaning` and `SourceRun` of `source_meaning` clause by clause; the watcher is called at an
-- expression's value, at an item of a loop, at what an augmented assignment reads, and at the arguments of a call. With `give` for the
-- watcher it is the meaning itself; with a test of values a run is stuck at the first value that fails it. Nobody has to trust it: the
-- laws say of what is watched that it is `source_run`.
use Rattle.std.specs.Prelude.{ℕ, zero, suc, ◌-◌, ℤ, pos, ◌+ℤ◌, Bool, true, false, not, List, [], ◌∷◌, ◌++◌, length, map, replicate, Option, Some, None, slice_get, int_lt, ◌==◌, if◌then◌else◌}
use Rattle.std.specs.List.{list_all}
use Rattle.value_core.specs.declared.exception.ExcClass.TheVariants.{AssertionError}
use Rattle.value_core.specs.Exceptions.{thrown}
use Rattle.value_core.specs.Items.{Items}
use Rattle.value_core.specs.Value.{Value, IntVal, BoolVal, NoneVal, StrVal, TupleVal, ExcVal, listed, tupled, ListObj, DictObj}
use Rattle.py_syntax.specs.declared.expression.BinOp.{BinOp}
use Rattle.py_typed.specs.Sorts.{Sort, Optional}
use Rattle.py_typed.specs.Classes.{ClassEntry}
use Rattle.py_typed.specs.Fits.{fits}
use Rattle.py_typed.specs.Expressions.{TypedExpr, typed, TypedNode, Int, Str, Flag, Nothing, Local, Global, Neg, Not, Truth, Arith, Concat, Compare, And, Or, Cond, ListOf, DictOf, TupleOf, Attr, At, TupleAt, Call, Make, MakeExc, Method, SuperInit, Print, Input, Len, ToStr, Append, Pop, Coerce, TypedExprs, no_exprs, expr_then, Comparisons, no_comparisons, comparison_then, Entries, no_entries, entry_then, MaybeExpr, no_expr, some_expr, type_of}
use Rattle.py_typed.specs.Statements.{Variable, TypedTarget, LocalTarget, GlobalTarget, AttrTarget, ItemTarget, TypedStmt, on_line, TypedAct, Do, Assign, Aug, Del, If, While, ForRange, ForList, ForDict, Try, Raise, Return, Break, Continue, Assert, Pass, TypedSuite, no_stmts, stmt_then, Arms, no_arms, arm_then, Handlers, no_handlers, handler_then, MaybeSuite, no_suite, some_suite, TypedFunc, TypedModule}
use Rattle.py_typed.specs.TargetTypes.{item_sort, key_sort}
use Rattle.source_meaning.specs.State.{Stuck, Does, Calls, ◌>>=◌, ◌>>◌, give, raise, stop, raise_new, look, needs, make, write, set_local, set_global, spend}
use Rattle.source_meaning.specs.State as state
use Rattle.source_meaning.specs.Operations.{coerced, arithmetic, negated, joined, holds, with_number, with_dict, item_at, set_item, tuple_part, append_item, pop_item, entered, delete_entry, has_text, text_of, line_of, truth_of, length_of, next_line, combined}
use Rattle.source_meaning.specs.ExpressionMeaning.{read_local, read_global, attribute, set_attribute, new_instance, call_method, call_next}
use Rattle.source_meaning.specs.StatementMeaning as official
use Rattle.source_meaning.specs.WaysOut.{Flow, Goes, Breaks, Continues, Returns, flow_on, catch, finally, handling, raise_again, raise_value, catches, unset_after, loop, answer, inside}
use Rattle.source_meaning.specs.SourceRun.{ModuleStop, start, stop_of}

-- the type at which a number or a text is read, which is no Optional
abbrev pub bare : Sort → Sort
bare (Optional t) = t
bare t = t

-- what is done with a value of this type: it is given on, or the run is stuck
abbrev pub Watch : Type 0
Watch = Sort → Value → Does Value

-- ---- expressions, in a function with these locals

module _ (watch : Watch) (classes : List ClassEntry) (call : Calls) (globals locals : List Variable) where
  abbrev mutual
    -- what the node gives is seen at the expression's type
    pub expression : TypedExpr → Does Value
    expression (typed e t place) = node e t >>= watch t

    -- what a node does with its parts
    pub node : TypedNode → Sort → Does Value
    node (Int n) t = give (IntVal n)
    node (Str text) t = give (StrVal text)
    node (Flag b) t = give (BoolVal b)
    node Nothing t = give NoneVal
    node (Local i) t = read_local locals i
    node (Global i) t = read_global globals i
    node (Neg e) t = do
      x ← expression e
      negated t x
    node (Not e) t = do
      x ← expression e
      b ← truth_of x
      give (BoolVal (not b))
    node (Truth e) t = do
      x ← expression e
      b ← truth_of x
      give (BoolVal b)
    node (Arith op a b) t = do
      x ← expression a
      y ← expression b
      arithmetic t op x y
    node (Concat a b) t = do
      x ← expression a
      y ← expression b
      joined x y
    node (Compare e more) t = do
      x ← expression e
      chain (type_of e) x more
    node (And a b) t = do
      x ← expression a
      h ← truth_of x
      if h then expression b else give x
    node (Or a b) t = do
      x ← expression a
      h ← truth_of x
      if h then give x else expression b
    node (Cond a test b) t = do
      x ← expression test
      h ← truth_of x
      if h then expression a else expression b
    node (ListOf es) t = do
      vs ← expressions es
      make (ListObj vs)
    node (DictOf es) t = do
      ps ← entries es
      make (DictObj (entered ps []))
    node (TupleOf es) t = do
      vs ← expressions es
      give (TupleVal (tupled vs))
    node (Attr e name) t = do
      o ← expression e
      attribute classes name o
    node (At e i) t = do
      x ← expression e
      j ← expression i
      item_at (type_of e) x j
    node (TupleAt e i) t = do
      x ← expression e
      tuple_part i x
    node (Call f es) t = do
      vs ← expressions es
      call f vs
    node (Make c es) t = do
      vs ← expressions es
      new_instance classes call c vs
    node (MakeExc c e) t = do
      text ← text_or_empty e
      needs (has_text text) (give (ExcVal (thrown c (text_of text))))
    node (Method e name es) t = do
      o ← expression e
      vs ← expressions es
      call_method classes call name o vs
    node (SuperInit f es) t = do
      o ← read_local locals 0
      vs ← expressions es
      call_next classes call f o vs
    node (Print es) t = do
      vs ← expressions es
      needs (list_all has_text vs) (write (line_of vs))
    node Input t = look (λ s. s.items) next_line
    node (Len e) t = do
      x ← expression e
      length_of x
    node (ToStr e) t = do
      x ← expression e
      needs (has_text x) (give (StrVal (text_of x)))
    node (Append a b) t = do
      l ← expression a
      v ← expression b
      append_item l v
    node (Pop e) t = do
      l ← expression e
      pop_item l
    node (Coerce e) t = do
      x ← expression e
      coerced t x

    -- one after another
    pub expressions : TypedExprs → Does (List Value)
    expressions no_exprs = give []
    expressions (expr_then e more) = do
      v ← expression e
      vs ← expressions more
      give (v ∷ vs)

    -- each pair in turn, up to the first that does not hold; the operand between two pairs is evaluated once
    pub chain : Sort → Value → Comparisons → Does Value
    chain s x no_comparisons = give (BoolVal true)
    chain s x (comparison_then op e more) = do
      y ← expression e
      h ← holds op s (type_of e) x y
      if h then chain (type_of e) y more else give (BoolVal false)

    -- a key comes before its value
    pub entries : Entries → Does (List (Value × Value))
    entries no_entries = give []
    entries (entry_then a b more) = do
      key ← expression a
      v ← expression b
      ps ← entries more
      give ((key, v) ∷ ps)

    -- the text of an exception that is made
    pub text_or_empty : MaybeExpr → Does Value
    text_or_empty no_expr = give (StrVal [])
    text_or_empty (some_expr e) = expression e

  -- the value of an expression in a statement
  abbrev pub value_of : TypedExpr → Does Value
  value_of e = expression e

  -- ---- assignment

  -- the parts of the target are evaluated after the value
  abbrev pub assign : TypedTarget → Value → Does (Unit {0})
  assign (LocalTarget i) v = set_local i (Some v)
  assign (GlobalTarget i) v = set_global i (Some v)
  assign (AttrTarget e name) v = value_of e >>= λ o. set_attribute classes name o v
  assign (ItemTarget e i) v = value_of e >>= λ x. value_of i >>= λ j. set_item (type_of e) x j v

  -- values to targets, one after another
  abbrev pub assign_each : List TypedTarget → List Value → Does (Unit {0})
  assign_each [] [] = give tt
  assign_each (t ∷ ts) (v ∷ vs) = assign t v >> assign_each ts vs
  assign_each ts vs = stop Stuck

  -- all parts of a tuple are coerced before the first target is written
  abbrev pub unpack : List TypedTarget → Value → Does (Unit {0})
  unpack ts (TupleVal vs) = official.coerce_each classes call globals locals ts (listed vs) >>= assign_each ts
  unpack ts v = stop Stuck

  -- one target takes a value that fits it; else the targets take the parts
  abbrev pub bind : List TypedTarget → Sort → Value → Does (Unit {0})
  bind (t ∷ []) s v = if fits classes s (official.target_sort classes call globals locals t) then coerced (official.target_sort classes call globals locals t) v >>= assign t else unpack (t ∷ []) v
  bind ts s v = unpack ts v

  -- the type at which an augmented assignment reads its target
  abbrev pub read_sort : TypedTarget → Sort
  read_sort t = bare (official.target_sort classes call globals locals t)

  -- the target's parts, the read, what is made of the value, the write
  abbrev pub update : TypedTarget → (Value → Does Value) → Does (Unit {0})
  update (LocalTarget i) f = read_local locals i >>= watch (read_sort (LocalTarget i)) >>= f >>= λ v. set_local i (Some v)
  update (GlobalTarget i) f = read_global globals i >>= watch (read_sort (GlobalTarget i)) >>= f >>= λ v. set_global i (Some v)
  update (AttrTarget e name) f = value_of e >>= λ o. attribute classes name o >>= watch (read_sort (AttrTarget e name)) >>= f >>= λ v. set_attribute classes name o v
  update (ItemTarget e i) f =
      value_of e >>= λ x. value_of i >>= λ j. item_at (type_of e) x j >>= watch (read_sort (ItemTarget e i)) >>= f >>= λ v. set_item (type_of e) x j v

  -- of the old value: the operand, the operation in its result's type, the coercion to the target's type
  abbrev pub changed : TypedTarget → BinOp → TypedExpr → Sort → Value → Does Value
  changed t op e s old = value_of e >>= λ y. combined s op old y >>= coerced (official.target_sort classes call globals locals t)

  -- ---- parts of statements

  -- the truth of an expression
  abbrev pub test_of : TypedExpr → Does Bool
  test_of e = value_of e >>= truth_of

  -- the value of an expression, where there is one
  abbrev pub value_or : Value → Option TypedExpr → Does Value
  value_or v None = give v
  value_or v (Some e) = value_of e

  -- the exception that is raised, or the innermost that is being handled
  abbrev pub raised_by : Option TypedExpr → Does Flow
  raised_by None = look (λ s. s.handled) raise_again
  raised_by (Some e) = value_of e >>= raise_value

  -- an assertion that failed, with its message
  abbrev pub fail_with : Option TypedExpr → Does Flow
  fail_with None = raise_new AssertionError []
  fail_with (Some e) = value_of e >>= λ v. needs (has_text v) (raise_new AssertionError (text_of v))

  -- the name that a handler gives its exception
  abbrev pub name_bound : Option TypedTarget → Value → Does (Unit {0})
  name_bound None e = give tt
  name_bound (Some t) e = assign t e

  -- a handler's body, with the exception under its name up to its end
  abbrev pub handled_by : Option TypedTarget → Does Flow → Value → Does Flow
  handled_by name body e = handling e (unset_after name (name_bound name e >> body))

  -- ---- statements; n bounds the repetitions of each loop

  module _ (n : ℕ) where
    abbrev mutual
      -- a statement, on whatever line
      pub statement : TypedStmt → Does Flow
      statement (on_line a line) = act a

      -- what a statement does; an item of a loop is seen before it is bound
      pub act : TypedAct → Does Flow
      act (Do e) = value_of e >> give Goes
      act (Assign ts e) = do
        v ← value_of e
        bind ts (type_of e) v
        give Goes
      act (Aug t op e s) = update t (changed t op e s) >> give Goes
      act (Del e i) = do
        d ← value_of e
        key ← value_of i
        delete_entry d key
        give Goes
      act (If arms other) = first_arm arms (suite other)
      act (While test body) = loop {X = ℕ} (suc n) (λ i. test_of test) (λ i. suite body) (λ i. i) 0
      act (ForRange ts a b body) = do
        x ← value_or (IntVal (pos 0)) a
        y ← value_of b
        with_number x (λ i. with_number y (λ j. loop {X = ℤ} (suc n) (λ k. give (int_lt k j)) (λ k. bind ts (type_of b) (IntVal k) >> suite body) (λ k. k +ℤ pos 1) i))
      act (ForList ts e body) = do
        l ← value_of e
        loop {X = ℕ} (suc n) (official.list_goes_on classes call globals locals l) (λ i. official.list_next classes call globals locals l i >>= watch (item_sort (type_of e)) >>= bind ts (item_sort (type_of e)) >> suite body) suc 0
      act (ForDict ts e body) = do
        d ← value_of e
        with_dict d (λ k ps. loop {X = ℕ} (suc n) (official.dict_goes_on classes call globals locals d (length ps)) (λ i. official.dict_next classes call globals locals d i >>= watch (key_sort (type_of e)) >>= bind ts (key_sort (type_of e)) >> suite body) suc 0)
      act (Try body handlers last) = finally (catch (suite body) (handle handlers)) (last_part last)
      act (Raise e) = raised_by e
      act (Return e) = do
        v ← value_or NoneVal e
        give (Returns v)
      act Break = give Breaks
      act Continue = give Continues
      act (Assert test message) = do
        h ← test_of test
        if h then give Goes else fail_with message
      act Pass = give Goes

      -- one after another, up to one that leaves
      pub suite : TypedSuite → Does Flow
      suite no_stmts = give Goes
      suite (stmt_then s more) = statement s >>= flow_on (suite more)

      -- the first arm whose test holds, or else
      pub first_arm : Arms → Does Flow → Does Flow
      first_arm no_arms other = other
      first_arm (arm_then test body more) other = do
        h ← test_of test
        if h then suite body else first_arm more other

      -- the first handler that catches the exception, which is raised on where none does
      pub handle : Handlers → Value → Does Flow
      handle no_handlers e = raise e
      handle (handler_then classes' name body more) e = (if catches classes' e then handled_by name (suite body) e else handle more e)

      -- what stands behind `finally`
      pub last_part : MaybeSuite → Does Flow
      last_part no_suite = give Goes
      last_part (some_suite body) = suite body

-- ---- calls and modules

-- each argument is seen at its parameter's type
abbrev pub watch_each : Watch → List Variable → List Value → Does (Unit {0})
watch_each watch [] vs = give tt
watch_each watch (x ∷ xs) [] = give tt
watch_each watch (x ∷ xs) (v ∷ vs) = watch x.1 v >> watch_each watch xs vs

module _ (watch : Watch) (m : TypedModule) where
  -- the body of a function on its arguments
  abbrev pub enter : Calls → ℕ → Option TypedFunc → List Value → Does Value
  enter call n None args = stop Stuck
  enter call n (Some f) args =
      (if length args == f.params
      then watch_each watch f.locals args >> inside (map Some args ++ replicate (length f.locals - length args) None) (suite watch m.classes.classes call m.globals f.locals n f.body >>= answer NoneVal)
      else stop Stuck)

  -- what a call does once its turn is spent
  abbrev pub body_of : ℕ → Calls
  body_of zero f args = stop state.Cut
  body_of (suc n) f args = enter (λ g vs. spend >> body_of n g vs) n (slice_get m.funcs f) args

  -- a call: a turn, and then that
  abbrev pub call_of : ℕ → Calls
  call_of n f args = spend >> body_of n f args

  -- the module's own statements
  abbrev pub top_of : ℕ → Does Flow
  top_of n = suite watch m.classes.classes (call_of n) m.globals [] n m.top

  -- the run of a module for n turns on these lines of input, as it is watched
  unfoldable pub watched_run : ℕ → Items → ModuleStop
  watched_run n items = stop_of (top_of n (start m n items))

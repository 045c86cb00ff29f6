-- What a statement does is alike within two allowed bounds, where calls are.
use Rattle.std.proofs.Common.{ℕ, zero, suc, pos, ◌+ℤ◌, Bool, List, [], ◌∷◌, length, map, Option, Some, None, refl, slice_get, int_lt, ◌==◌}
use Rattle.value_core.specs.Value.{Value, IntVal, TupleVal, ExcVal, listed}
use Rattle.py_syntax.specs.declared.expression.BinOp.{BinOp}
use Rattle.py_typed.specs.Sorts.{Sort}
use Rattle.py_typed.specs.Classes.{ClassEntry}
use Rattle.py_typed.specs.Fits.{fits}
use Rattle.py_typed.specs.Expressions.{TypedExpr, type_of}
use Rattle.py_typed.specs.Statements.{Variable, TypedTarget, LocalTarget, GlobalTarget, AttrTarget, ItemTarget, TypedStmt, on_line, TypedAct, Do, Assign, Aug, Del, If, While, ForRange, ForList, ForDict, Try, Raise, Return, Break, Continue, Assert, Pass, TypedSuite, no_stmts, stmt_then, Arms, no_arms, arm_then, Handlers, no_handlers, handler_then, MaybeSuite, no_suite, some_suite}
use Rattle.source_meaning.specs.State.{Stuck, Does, Calls, ◌>>◌, give, spend}
use Rattle.source_meaning.specs.Operations.{has_text, counted}
use Rattle.py_typed.specs.TargetTypes.{item_sort, key_sort}
use Rattle.source_meaning.specs.WaysOut.{Flow, Goes, Breaks, Continues, Returns, flow_on, raise_again, raise_value, catches, after_body, loop}
use Rattle.source_meaning.specs.StatementMeaning.{target_sort, value_of, assign, coerce_each, assign_each, unpack, bind, update, changed, test_of, value_or, raised_by, fail_with, name_bound, handled_by, list_goes_on, list_next, dict_goes_on, dict_next, statement, act, suite, first_arm, handle, last_part}
use Rattle.source_meaning.proofs.Closed.{Closed}
use Rattle.source_meaning.proofs.OperationsAlike.{either, sures, needed, sets_local, sets_global, with_numbers, coercions, combines, lists, dicts, items_at, sets_item, deletes, truths}
use Rattle.source_meaning.proofs.ExpressionAlike.{locals_read, globals_read, attributes_read, attributes_set, expression_alike}

module _ {R : ℕ → (A : Type 0) → Does A → Does A → Type 0} {Allowed : ℕ → ℕ → ℕ → Type 0} (k : Closed R Allowed) where
  pub flows : (t : ℕ) {d e : Does Flow} → R t _ d e → (f : Flow) → R t _ (flow_on d f) (flow_on e f)
  flows t p Goes = p
  flows t p Breaks = k.gives t _
  flows t p Continues = k.gives t _
  flows t p (Returns v) = k.gives t _

  after : (t : ℕ) {d e : Does Flow} → R t _ (spend >> d) (spend >> e) → (f : Flow) → R t _ (after_body d f) (after_body e f)
  after t p Goes = p
  after t p Continues = p
  after t p Breaks = k.gives t _
  after t p (Returns v) = k.gives t _

  module _ {X : Type 0} (test test' : X → Does Bool) (body body' : X → Does Flow) (next : X → X) where
    pub loops : (t n m : ℕ) → Allowed t n m → ((x : X) → R t _ (test x) (test' x)) → ((x : X) → R t _ (body x) (body' x)) → (x : X) → R t _ (loop (suc n) test body next x) (loop (suc m) test' body' next x)
    loops t zero zero ok p q x = k.binds t (p x) (λ h. either k t h (k.binds t (q x) (after t (k.both_ends t ok))) (k.gives t _))
    loops t zero (suc m) ok p q x = k.binds t (p x) (λ h. either k t h (k.binds t (q x) (after t (k.left_ends t m ok))) (k.gives t _))
    loops t (suc n) zero ok p q x = k.binds t (p x) (λ h. either k t h (k.binds t (q x) (after t (k.right_ends t n ok))) (k.gives t _))
    loops t (suc n) (suc m) ok p q x =
        k.binds t (p x) (λ h. either k t h
        (k.binds t (q x) (after t (k.spends t n m ok (λ u le ok'. loops u n m ok' (λ y. k.fewer t u le (p y)) (λ y. k.fewer t u le (q y)) (next x)))))
        (k.gives t _))

  module _ (t n m : ℕ) (ok : Allowed t n m) (classes : List ClassEntry) (c c' : Calls) (calls : (f : ℕ) (args : List Value) → R t _ (c f args) (c' f args)) (globals locals : List Variable) where
    expressions : (e : TypedExpr) → R t _ (value_of classes c globals locals e) (value_of classes c' globals locals e)
    expressions e = expression_alike k t classes c c' calls globals locals e

    assigns : (x : TypedTarget) (v : Value) → R t _ (assign classes c globals locals x v) (assign classes c' globals locals x v)
    assigns (LocalTarget i) v = sets_local k t i _
    assigns (GlobalTarget i) v = sets_global k t i _
    assigns (AttrTarget e name) v = k.binds t (expressions e) (λ o. attributes_set k t classes name o v)
    assigns (ItemTarget e i) v = k.binds t (expressions e) (λ x. k.binds t (expressions i) (λ j. sets_item k t (type_of e) x j v))

    coerces_each : (xs : List TypedTarget) (vs : List Value) → R t _ (coerce_each classes c globals locals xs vs) (coerce_each classes c' globals locals xs vs)
    coerces_each [] [] = k.gives t _
    coerces_each (x ∷ xs) (v ∷ vs) = k.binds t (coercions k t (target_sort classes c globals locals x) v) (λ w. k.binds t (coerces_each xs vs) (λ ws. k.gives t _))
    coerces_each [] (v ∷ vs) = k.stops t Stuck
    coerces_each (x ∷ xs) [] = k.stops t Stuck

    assigns_each : (xs : List TypedTarget) (vs : List Value) → R t _ (assign_each classes c globals locals xs vs) (assign_each classes c' globals locals xs vs)
    assigns_each [] [] = k.gives t _
    assigns_each (x ∷ xs) (v ∷ vs) = k.binds t (assigns x v) (λ _. assigns_each xs vs)
    assigns_each [] (v ∷ vs) = k.stops t Stuck
    assigns_each (x ∷ xs) [] = k.stops t Stuck

    unpacks : (xs : List TypedTarget) (v : Value) → R t _ (unpack classes c globals locals xs v) (unpack classes c' globals locals xs v)
    unpacks xs (TupleVal vs) = k.binds t (coerces_each xs (listed vs)) (λ ws. assigns_each xs ws)
    unpacks xs (IntVal i) = k.stops t Stuck
    unpacks xs _ = k.stops t Stuck

    binds_all : (xs : List TypedTarget) (s : Sort) (v : Value) → R t _ (bind classes c globals locals xs s v) (bind classes c' globals locals xs s v)
    binds_all [] s v = unpacks [] v
    binds_all (x ∷ []) s v =
        either k t (fits classes s (target_sort classes c globals locals x)) (k.binds t (coercions k t (target_sort classes c globals locals x) v) (assigns x)) (unpacks (x ∷ []) v)
    binds_all (x ∷ y ∷ xs) s v = unpacks (x ∷ y ∷ xs) v

    updates : (x : TypedTarget) {f g : Value → Does Value} → ((v : Value) → R t _ (f v) (g v)) → R t _ (update classes c globals locals x f) (update classes c' globals locals x g)
    updates (LocalTarget i) h = k.binds t (k.binds t (locals_read k t locals i) h) (λ v. sets_local k t i _)
    updates (GlobalTarget i) h = k.binds t (k.binds t (globals_read k t globals i) h) (λ v. sets_global k t i _)
    updates (AttrTarget e name) h = k.binds t (expressions e) (λ o. k.binds t (k.binds t (attributes_read k t classes name o) h) (λ v. attributes_set k t classes name o v))
    updates (ItemTarget e i) h =
        k.binds t (expressions e) (λ x. k.binds t (expressions i) (λ j. k.binds t (k.binds t (items_at k t (type_of e) x j) h) (λ v. sets_item k t (type_of e) x j v)))

    changes : (x : TypedTarget) (op : BinOp) (e : TypedExpr) (s : Sort) (old : Value) → R t _ (changed classes c globals locals x op e s old) (changed classes c' globals locals x op e s old)
    changes x op e s old = k.binds t (expressions e) (λ y. k.binds t (combines k t s op old y) (coercions k t (target_sort classes c globals locals x)))

    tests : (e : TypedExpr) → R t _ (test_of classes c globals locals e) (test_of classes c' globals locals e)
    tests e = k.binds t (expressions e) (truths k t)

    values_or : (v : Value) (e : Option TypedExpr) → R t _ (value_or classes c globals locals v e) (value_or classes c' globals locals v e)
    values_or v None = k.gives t _
    values_or v (Some e) = expressions e

    again : (es : List Value) → R t _ (raise_again es) (raise_again es)
    again [] = k.stops t Stuck
    again (e ∷ es) = k.raises t e

    raises_value : (v : Value) → R t _ (raise_value v) (raise_value v)
    raises_value (ExcVal e) = k.raises t _
    raises_value (IntVal n) = k.stops t Stuck
    raises_value _ = k.stops t Stuck

    raises_by : (e : Option TypedExpr) → R t _ (raised_by classes c globals locals e) (raised_by classes c' globals locals e)
    raises_by None = k.looks t (λ s. s.handled) (λ s n. refl) again
    raises_by (Some e) = k.binds t (expressions e) raises_value

    fails : (e : Option TypedExpr) → R t _ (fail_with classes c globals locals e) (fail_with classes c' globals locals e)
    fails None = k.raises t _
    fails (Some e) = k.binds t (expressions e) (λ v. needed k t (has_text v) (k.raises t _))

    names : (x : Option TypedTarget) (v : Value) → R t _ (name_bound classes c globals locals x v) (name_bound classes c' globals locals x v)
    names None v = k.gives t _
    names (Some x) v = assigns x v

    handlers : (x : Option TypedTarget) {d e : Does Flow} (v : Value) → R t _ d e → R t _ (handled_by classes c globals locals x d v) (handled_by classes c' globals locals x e v)
    handlers x v p = k.handles t v (k.unsets t x (k.binds t (names x v) (λ _. p)))

    lists_go : (l : Value) (i : ℕ) → R t _ (list_goes_on classes c globals locals l i) (list_goes_on classes c' globals locals l i)
    lists_go l i = lists k t l (λ j vs. k.gives t _)

    lists_next : (l : Value) (i : ℕ) → R t _ (list_next classes c globals locals l i) (list_next classes c' globals locals l i)
    lists_next l i = lists k t l (λ j vs. sures k t (slice_get vs i))

    dicts_go : (d : Value) (size i : ℕ) → R t _ (dict_goes_on classes c globals locals d size i) (dict_goes_on classes c' globals locals d size i)
    dicts_go d size i = dicts k t d (λ j ps. either k t (counted (length ps) == counted size) (k.gives t _) (k.raises t _))

    dicts_next : (d : Value) (i : ℕ) → R t _ (dict_next classes c globals locals d i) (dict_next classes c' globals locals d i)
    dicts_next d i = dicts k t d (λ j ps. sures k t (slice_get (map (λ p. p.0) ps) i))

    mutual
      pub statement_alike : (s : TypedStmt) → R t _ (statement classes c globals locals n s) (statement classes c' globals locals m s)
      statement_alike (on_line a line) = act_alike a

      act_alike : (a : TypedAct) → R t _ (act classes c globals locals n a) (act classes c' globals locals m a)
      act_alike (Do e) = k.binds t (expressions e) (λ _. k.gives t _)
      act_alike (Assign xs e) = k.binds t (expressions e) (λ v. k.binds t (binds_all xs (type_of e) v) (λ _. k.gives t _))
      act_alike (Aug x op e s) = k.binds t (updates x (changes x op e s)) (λ _. k.gives t _)
      act_alike (Del e i) = k.binds t (expressions e) (λ d. k.binds t (expressions i) (λ key. k.binds t (deletes k t d key) (λ _. k.gives t _)))
      act_alike (If arms other) = arms_alike arms (suite_alike other)
      act_alike (While test body) = loops _ _ _ _ _ t n m ok (λ i. tests test) (λ i. suite_alike body) 0
      act_alike (ForRange xs a b body) =
          k.binds t (values_or _ a) (λ x. k.binds t (expressions b) (λ y. with_numbers k t x (λ i. with_numbers k t y (λ j.
          loops (λ l. give (int_lt l j)) (λ l. give (int_lt l j)) _ _ (λ l. l +ℤ pos 1) t n m ok (λ l. k.gives t (int_lt l j)) (λ l. k.binds t (binds_all xs (type_of b) (IntVal l)) (λ _. suite_alike body)) i))))
      act_alike (ForList xs e body) =
          k.binds t (expressions e) (λ l. loops _ _ _ _ _ t n m ok (lists_go l)
          (λ i. k.binds t (k.binds t (lists_next l i) (binds_all xs (item_sort (type_of e)))) (λ _. suite_alike body)) 0)
      act_alike (ForDict xs e body) =
          k.binds t (expressions e) (λ d. dicts k t d (λ j ps. loops _ _ _ _ _ t n m ok (dicts_go d (length ps))
          (λ i. k.binds t (k.binds t (dicts_next d i) (binds_all xs (key_sort (type_of e)))) (λ _. suite_alike body)) 0))
      act_alike (Try body hs last) = k.finals t (k.catching t (suite_alike body) (handle_alike hs)) (last_alike last)
      act_alike (Raise e) = raises_by e
      act_alike (Return e) = k.binds t (values_or _ e) (λ v. k.gives t _)
      act_alike Break = k.gives t _
      act_alike Continue = k.gives t _
      act_alike (Assert test message) = k.binds t (tests test) (λ h. either k t h (k.gives t _) (fails message))
      act_alike Pass = k.gives t _

      pub suite_alike : (b : TypedSuite) → R t _ (suite classes c globals locals n b) (suite classes c' globals locals m b)
      suite_alike no_stmts = k.gives t _
      suite_alike (stmt_then s more) = k.binds t (statement_alike s) (flows t (suite_alike more))

      arms_alike : (arms : Arms) {d e : Does Flow} → R t _ d e → R t _ (first_arm classes c globals locals n arms d) (first_arm classes c' globals locals m arms e)
      arms_alike no_arms p = p
      arms_alike (arm_then test body more) p = k.binds t (tests test) (λ h. either k t h (suite_alike body) (arms_alike more p))

      handle_alike : (hs : Handlers) (v : Value) → R t _ (handle classes c globals locals n hs v) (handle classes c' globals locals m hs v)
      handle_alike no_handlers v = k.raises t v
      handle_alike (handler_then caught name body more) v = either k t (catches caught v) (handlers name v (suite_alike body)) (handle_alike more v)

      last_alike : (last : MaybeSuite) → R t _ (last_part classes c globals locals n last) (last_part classes c' globals locals m last)
      last_alike no_suite = k.gives t _
      last_alike (some_suite body) = suite_alike body

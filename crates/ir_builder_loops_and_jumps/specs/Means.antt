-- What statements mean, by the bound of the calls and turns.
use Rattle.std.specs.Prelude.{ℕ, suc, ℤ, pos, ◌+ℤ◌, int_lt, List, Option, Some, None}
use Rattle.value_core.specs.Value.{Value, IntVal, NoneVal}
use Rattle.py_syntax.specs.declared.expression.BinOp.{BinOp}
use Rattle.py_typed.specs.Sorts as sort
use Rattle.py_typed.specs.Sorts.{Sort}
use Rattle.py_typed.specs.Expressions.{TypedExpr, type_of}
use Rattle.py_typed.specs.Statements.{TypedTarget, TypedStmt, on_line, While, ForRange, ForList, TypedSuite}
use Rattle.source_meaning.specs.State.{◌>>=◌, ◌>>◌, give}
use Rattle.py_typed.specs.TargetTypes.{item_sort}
use Rattle.source_meaning.specs.Operations.{with_number}
use Rattle.source_meaning.specs.StatementMeaning.{list_goes_on, list_next}
use Rattle.source_soundness.specs.Watched.{bind, update, changed, test_of, value_or, statement, suite}
use Rattle.source_meaning.specs.WaysOut.{Flow, Goes, Returns, loop}
use Rattle.ir_builder_frames.specs.Settings.{Setting}
use Rattle.ir_builder_frames.specs.Watching.{watch, calls_in}
use Rattle.ir_builder_frames.specs.Computing.{Meaning, means}

-- the type of what a return gives
abbrev pub returned_type : Option TypedExpr → Sort
returned_type None = sort.Nothing
returned_type (Some e) = type_of e

module _ (x : Setting) where
  abbrev pub means_statement : TypedStmt → Meaning Flow
  means_statement t n = statement (watch x.source) x.source.classes.classes (calls_in x.source n) x.source.globals x.variables n t

  abbrev pub means_suite : TypedSuite → Meaning Flow
  means_suite ts n = suite (watch x.source) x.source.classes.classes (calls_in x.source n) x.source.globals x.variables n ts

  abbrev pub means_alone : TypedExpr → Meaning Flow
  means_alone e n = means x e n >> give Goes

  abbrev pub means_assignment : List TypedTarget → TypedExpr → Meaning Flow
  means_assignment ts e n =
      means x e n >>= λ v. bind (watch x.source) x.source.classes.classes (calls_in x.source n) x.source.globals x.variables ts (type_of e) v >> give Goes

  -- in a type
  abbrev pub means_update : TypedTarget → BinOp → TypedExpr → Sort → Meaning Flow
  means_update t op e s n =
      update (watch x.source) x.source.classes.classes (calls_in x.source n) x.source.globals x.variables t (changed (watch x.source) x.source.classes.classes (calls_in x.source n) x.source.globals x.variables t op e s) >> give Goes

  abbrev pub means_returned : Option TypedExpr → Meaning Value
  means_returned o n = value_or (watch x.source) x.source.classes.classes (calls_in x.source n) x.source.globals x.variables NoneVal o

  abbrev pub means_return : Option TypedExpr → Meaning Flow
  means_return o n = means_returned o n >>= λ v. give (Returns v)

  -- where a range begins, at 0 where nothing else is said
  abbrev pub means_start : Option TypedExpr → Meaning Value
  means_start o n = value_or (watch x.source) x.source.classes.classes (calls_in x.source n) x.source.globals x.variables (IntVal (pos 0)) o

  -- a value of a type is bound to targets
  abbrev pub means_bound : List TypedTarget → Sort → Value → Meaning (Unit {0})
  means_bound ts t v n = bind (watch x.source) x.source.classes.classes (calls_in x.source n) x.source.globals x.variables ts t v

  -- the numbers from one up to another, of the type of that, and what is done with each
  abbrev pub means_range : List TypedTarget → Option TypedExpr → TypedExpr → Meaning Flow → Meaning Flow
  means_range ts a b body n =
      means_start a n >>= λ v. means x b n >>= λ w. with_number v (λ i. with_number w (λ j. loop {X = ℤ} (suc n) (λ k. give (int_lt k j)) (λ k. means_bound ts (type_of b) (IntVal k) n >> body n) (λ k. k +ℤ pos 1) i))

  -- the items of a list, and what is done with each
  abbrev pub means_list : List TypedTarget → TypedExpr → Meaning Flow → Meaning Flow
  means_list ts e body n =
      means x e n >>= λ l. loop {X = ℕ} (suc n) (list_goes_on x.source.classes.classes (calls_in x.source n) x.source.globals x.variables l) (λ i. list_next x.source.classes.classes (calls_in x.source n) x.source.globals x.variables l i >>= watch x.source (item_sort (type_of e)) >>= (λ v. means_bound ts (item_sort (type_of e)) v n) >> body n) suc 0

  -- a loop, whatever its body means; of a statement that is none, the body
  abbrev pub means_loop : TypedStmt → Meaning Flow → Meaning Flow
  means_loop (on_line (While test b) line) body n =
      loop {X = ℕ} (suc n) (λ i. test_of (watch x.source) x.source.classes.classes (calls_in x.source n) x.source.globals x.variables test) (λ i. body n) (λ i. i) 0
  means_loop (on_line (ForRange ts a b suite) line) body n = means_range ts a b body n
  means_loop (on_line (ForList ts e suite) line) body n = means_list ts e body n
  means_loop s body n = body n

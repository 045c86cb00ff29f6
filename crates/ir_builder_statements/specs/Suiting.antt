-- What is asked of a statement that is built: its form is one of those that are compiled, and its parts have the types of a well
-- typed one.
use Rattle.std.specs.Prelude.{◌≡◌, ◌≤◌, ◌⊎◌, Bool, true, false, List, [], ◌∷◌, length, Option, Some, None, slice_get}
use Rattle.py_syntax.specs.declared.expression.BinOp.{BinOp}
use Rattle.py_syntax.specs.declared.expression.BinOp.TheVariants.{Add}
use Rattle.py_typed.specs.Sorts as sort
use Rattle.py_typed.specs.Sorts.{Sort, sorts_of}
use Rattle.py_typed.specs.Expressions.{TypedExpr, typed, Local, Global, Print, TypedExprs, no_exprs, expr_then, type_of}
use Rattle.py_typed.specs.Statements.{Variable, TypedModule, TypedTarget, LocalTarget, GlobalTarget, TypedStmt, on_line, TypedAct, Do, Assign, Aug, If, While, ForRange, ForList, Return, Break, Continue, Pass, TypedSuite, no_stmts, stmt_then, Arms, no_arms, arm_then, ItemTarget}
use Rattle.py_typed.specs.Fits.{fits}
use Rattle.py_typed.specs.TargetTypes.{item_sort}
use Rattle.ir_builder_operations.specs.Converting.{is_flat}
use Rattle.ir_builder_operations.specs.Selecting.{is_whole}
use Rattle.ir_builder_expressions.specs.declared.applying.Binary.TheVariants.{Arithmetic, Joined}
use Rattle.ir_builder_expressions.specs.Parts.{is_scalar}
use Rattle.ir_builder_expressions.specs.Applying.{BinarySuits}
use Rattle.source_soundness.specs.Watched.{bare}
use Rattle.ir_builder_expressions.specs.Suiting.{NodeSuits, Suits}

-- in a function with these variables, whose result is of a type; a module's own statements give none
module _ (m : TypedModule) (vs : List Variable) (gives : Option Sort) where
  -- values that are printed
  abbrev pub PrintSuits : TypedExprs → Type 0
  PrintSuits no_exprs = Unit {0}
  PrintSuits (expr_then e more) = (is_scalar (type_of e) ≡ true) × Suits m vs e × PrintSuits more

  -- an expression alone: `print`, or any that is built
  abbrev pub DoSuits : TypedExpr → Type 0
  DoSuits (typed (Print es) t place) = PrintSuits es
  DoSuits e = Suits m vs e

  -- the variable of a number, of the function or of the module, has this type
  abbrev pub IsVariable : TypedTarget → Sort → Type 0
  IsVariable (LocalTarget i) t = (v : Variable) × (slice_get vs i ≡ Some v) × (v.1 ≡ t)
  IsVariable (GlobalTarget i) t = (v : Variable) × (slice_get m.globals i ≡ Some v) × (v.1 ≡ t)
  IsVariable target t = ⊥

  -- a list whose items have a type, and an index
  abbrev pub ItemSuits : TypedExpr → TypedExpr → Sort → Type 0
  ItemSuits a i t = (type_of a ≡ sort.ListOf t) × (type_of i ≡ sort.Int) × Suits m vs a × Suits m vs i

  -- what a value of a type is assigned to: a variable of that type, or an item of a list of such values
  abbrev pub TakesValue : TypedTarget → Sort → Type 0
  TakesValue (ItemTarget a i) t = ItemSuits a i t
  TakesValue target t = IsVariable target t

  -- a value of a type, made one of the target's own type, goes to it
  abbrev pub TargetTakes : TypedTarget → Sort → Type 0
  TargetTakes target s = (u : Sort) × TakesValue target u × (fits m.classes.classes s u ≡ true) × (is_flat u ≡ true)

  -- values of types to as many targets
  abbrev pub TargetsTake : List TypedTarget → List Sort → Type 0
  TargetsTake [] [] = Unit {0}
  TargetsTake (target ∷ targets) (s ∷ ss) = TargetTakes target s × TargetsTake targets ss
  TargetsTake targets ss = ⊥

  -- one target takes a value that fits it
  abbrev pub OneSuits : List TypedTarget → Sort → Type 0
  OneSuits (target ∷ []) s = TargetTakes target s
  OneSuits targets s = ⊥

  -- no target stands alone, or the one that does has a type that the value does not fit
  abbrev pub NoneFits : List TypedTarget → Sort → Type 0
  NoneFits (target ∷ []) s = (u : Sort) × TakesValue target u × (fits m.classes.classes s u ≡ false)
  NoneFits targets s = Unit {0}

  -- else the parts of a tuple go to as many targets
  abbrev pub PartsSuit : List TypedTarget → Sort → Type 0
  PartsSuit targets s =
      (ss : List Sort) × (s ≡ sort.TupleOf (sorts_of ss)) × NoneFits targets s × TargetsTake targets ss × (length targets ≤ 16)

  -- what a value of a type is bound to, in an assignment or in a `for`
  abbrev pub TargetsSuit : List TypedTarget → Sort → Type 0
  TargetsSuit targets s = OneSuits targets s ⊎ PartsSuit targets s

  -- the operator of an update of what has the first type, done in the second type, by a value of the third: arithmetic, where the
  -- old value is a whole number, or two texts that are joined
  abbrev pub UpdateSuits : BinOp → Sort → Sort → Sort → Type 0
  UpdateSuits op u t s =
      ((is_whole u ≡ true) × BinarySuits (Arithmetic op) t u s) ⊎ ((op ≡ Add) × BinarySuits Joined t u s)

  -- a variable is read at a type
  abbrev pub IsRead : TypedTarget → Sort → Type 0
  IsRead (LocalTarget i) t = NodeSuits m vs (Local i) t
  IsRead (GlobalTarget i) t = NodeSuits m vs (Global i) t
  IsRead target t = ⊥

  -- a variable is updated so, which is read at its type, or at the one under it where that is an Optional; what is made fits its type
  abbrev pub VariableUpdates : TypedTarget → BinOp → Sort → Sort → Type 0
  VariableUpdates target op t s =
      (u : Sort) × IsVariable target u × IsRead target (bare u) × UpdateSuits op (bare u) t s × (fits m.classes.classes t u ≡ true) × (is_flat u ≡ true)

  -- so is an item of a list
  abbrev pub ItemUpdates : TypedExpr → TypedExpr → BinOp → Sort → Sort → Type 0
  ItemUpdates a i op t s = (u : Sort) × ItemSuits a i u × UpdateSuits op u t s

  -- and so is either of them
  abbrev pub TargetUpdates : TypedTarget → BinOp → Sort → Sort → Type 0
  TargetUpdates (ItemTarget a i) op t s = ItemUpdates a i op t s
  TargetUpdates target op t s = VariableUpdates target op t s

  -- a range begins at a number of a type, or at 0, and its numbers, of the type of the bound, are bound to targets
  abbrev pub StartSuits : Option TypedExpr → Sort → Type 0
  StartSuits None t = Unit {0}
  StartSuits (Some e) t = (type_of e ≡ t) × Suits m vs e

  abbrev pub RangeSuits : List TypedTarget → Option TypedExpr → TypedExpr → Type 0
  RangeSuits targets start stop =
      (is_whole (type_of stop) ≡ true) × StartSuits start (type_of stop) × Suits m vs stop × TargetsSuit targets (type_of stop)

  -- the items of a list are bound to targets
  abbrev pub ListSuits : List TypedTarget → TypedExpr → Type 0
  ListSuits targets e = (u : Sort) × (type_of e ≡ sort.ListOf u) × Suits m vs e × TargetsSuit targets (item_sort (type_of e))

  abbrev pub ReturnSuits : Option TypedExpr → Type 0
  ReturnSuits None = gives ≡ Some sort.Nothing
  ReturnSuits (Some e) = (gives ≡ Some (type_of e)) × Suits m vs e

  -- a test is a bool
  abbrev pub TestSuits : TypedExpr → Type 0
  TestSuits e = (type_of e ≡ sort.Bool) × Suits m vs e

  abbrev mutual
    -- whether a loop is around
    pub StatementSuits : Bool → TypedStmt → Type 0
    StatementSuits looping (on_line a line) = ActSuits looping a

    pub ActSuits : Bool → TypedAct → Type 0
    ActSuits looping (Do e) = DoSuits e
    ActSuits looping (Assign targets e) = TargetsSuit targets (type_of e) × Suits m vs e
    ActSuits looping (Aug target op e t) = TargetUpdates target op t (type_of e) × Suits m vs e
    ActSuits looping (If arms other) = ArmsSuit looping arms × SuiteSuits looping other
    ActSuits looping (While test body) = TestSuits test × SuiteSuits true body
    ActSuits looping (ForRange targets start stop body) = RangeSuits targets start stop × SuiteSuits true body
    ActSuits looping (ForList targets e body) = ListSuits targets e × SuiteSuits true body
    ActSuits looping (Return e) = ReturnSuits e
    ActSuits looping Break = looping ≡ true
    ActSuits looping Continue = looping ≡ true
    ActSuits looping Pass = Unit {0}
    ActSuits looping a = ⊥

    pub SuiteSuits : Bool → TypedSuite → Type 0
    SuiteSuits looping no_stmts = Unit {0}
    SuiteSuits looping (stmt_then s more) = StatementSuits looping s × SuiteSuits looping more

    pub ArmsSuit : Bool → Arms → Type 0
    ArmsSuit looping no_arms = Unit {0}
    ArmsSuit looping (arm_then test body more) = TestSuits test × SuiteSuits looping body × ArmsSuit looping more

  -- a loop with this body
  abbrev pub LoopSuits : TypedStmt → TypedSuite → Type 0
  LoopSuits (on_line (While test b) line) body = (b ≡ body) × TestSuits test × SuiteSuits true b
  LoopSuits (on_line (ForRange targets start stop b) line) body = (b ≡ body) × RangeSuits targets start stop × SuiteSuits true b
  LoopSuits (on_line (ForList targets e b) line) body = (b ≡ body) × ListSuits targets e × SuiteSuits true b
  LoopSuits s body = ⊥

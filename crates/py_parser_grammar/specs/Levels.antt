-- How deep expressions are nested.
use Rattle.std.specs.Prelude.{ℕ, ◌+◌, ◌≤◌, max, nat_le, Bool, true, List, [], ◌∷◌, Option, Some, None}
use Rattle.py_syntax.specs.declared.token.Span.{Span}
use Rattle.py_syntax.specs.Expressions.{ExprTree, at, ExprNode, Int, Str, True, False, Nothing, Name, Neg, Plus, Not, Bin, Compare, And, Or, Cond, ListOf, DictOf, TupleOf, Attr, Index, Call, ExprTrees, no_exprs, expr_then, Comparisons, no_comparisons, comparison_then, Entries, no_entries, entry_then, Arguments, no_arguments, argument_then, keyed_then}
use Rattle.py_syntax.specs.Statements as s
use Rattle.py_syntax.specs.Statements.{StmtTree, StmtNode, Suite, Arms, Handlers, MaybeSuite}

-- A name, a literal, an empty display and `()` have level 1. Any other expression has 1 more than the greatest of its
-- parts; the key of an argument is such a part.
abbrev mutual
  pub level : ExprTree → ℕ
  level (at node span) = node_level node

  pub node_level : ExprNode → ℕ
  node_level (Int n) = 1
  node_level (Str text) = 1
  node_level True = 1
  node_level False = 1
  node_level Nothing = 1
  node_level (Name name) = 1
  node_level (Neg e) = level e + 1
  node_level (Plus e) = level e + 1
  node_level (Not e) = level e + 1
  node_level (Bin op a b) = max (level a) (level b) + 1
  node_level (Compare e cs) = max (level e) (comparisons_level cs) + 1
  node_level (And a b) = max (level a) (level b) + 1
  node_level (Or a b) = max (level a) (level b) + 1
  node_level (Cond a test b) = max (level a) (max (level test) (level b)) + 1
  node_level (ListOf es) = exprs_level es + 1
  node_level (DictOf es) = entries_level es + 1
  node_level (TupleOf es) = exprs_level es + 1
  node_level (Attr e name) = level e + 1
  node_level (Index e i) = max (level e) (level i) + 1
  node_level (Call f more) = max (level f) (arguments_level more) + 1

  -- the greatest level of some, and 0 of none
  pub exprs_level : ExprTrees → ℕ
  exprs_level no_exprs = 0
  exprs_level (expr_then e es) = max (level e) (exprs_level es)

  pub comparisons_level : Comparisons → ℕ
  comparisons_level no_comparisons = 0
  comparisons_level (comparison_then op e cs) = max (level e) (comparisons_level cs)

  pub entries_level : Entries → ℕ
  entries_level no_entries = 0
  entries_level (entry_then key value es) = max (max (level key) (level value)) (entries_level es)

  pub arguments_level : Arguments → ℕ
  arguments_level no_arguments = 0
  arguments_level (argument_then value more) = max (level value) (arguments_level more)
  arguments_level (keyed_then key value more) = max (max (level key) (level value)) (arguments_level more)

abbrev pub maybe_level : Option ExprTree → ℕ
maybe_level None = 0
maybe_level (Some e) = level e

abbrev pub list_level : List ExprTree → ℕ
list_level [] = 0
list_level (e ∷ es) = max (level e) (list_level es)

abbrev pub params_level : List (List ℕ × Option ExprTree) → ℕ
params_level [] = 0
params_level (p ∷ ps) = max (maybe_level p.1) (params_level ps)

-- the greatest level of the expressions in a statement, or in some, and 0 where there are none
abbrev mutual
  pub stmt_level : StmtTree → ℕ
  stmt_level (s.at node span) = body_level node

  pub body_level : StmtNode → ℕ
  body_level (s.Do e) = level e
  body_level (s.Assign target e) = max (level target) (level e)
  body_level (s.Annot target mark e) = max (level target) (max (level mark) (maybe_level e))
  body_level (s.Aug target op e) = max (level target) (level e)
  body_level (s.Del e) = level e
  body_level s.Pass = 0
  body_level s.Break = 0
  body_level s.Continue = 0
  body_level (s.Return e) = maybe_level e
  body_level (s.Raise e) = maybe_level e
  body_level (s.Global names) = 0
  body_level (s.Assert e message) = max (level e) (maybe_level message)
  body_level (s.Import name other) = 0
  body_level (s.From name names) = 0
  body_level (s.If arms other) = max (arms_level arms) (suite_level other)
  body_level (s.While e body) = max (level e) (suite_level body)
  body_level (s.For target e body) = max (level target) (max (level e) (suite_level body))
  body_level (s.Try body handlers last) = max (suite_level body) (max (handlers_level handlers) (maybe_suite_level last))
  body_level (s.Def name params ret body marks) =
      max (params_level params) (max (maybe_level ret) (max (suite_level body) (list_level marks)))
  body_level (s.ClassDef name bases body marks) = max (list_level bases) (max (suite_level body) (list_level marks))

  pub suite_level : Suite → ℕ
  suite_level s.no_stmts = 0
  suite_level (s.stmt_then stmt more) = max (stmt_level stmt) (suite_level more)

  pub arms_level : Arms → ℕ
  arms_level s.no_arms = 0
  arms_level (s.arm_then test body more) = max (max (level test) (suite_level body)) (arms_level more)

  pub handlers_level : Handlers → ℕ
  handlers_level s.no_handlers = 0
  handlers_level (s.handler_then class name body span more) =
      max (max (maybe_level class) (suite_level body)) (handlers_level more)

  pub maybe_suite_level : MaybeSuite → ℕ
  maybe_suite_level s.no_suite = 0
  maybe_suite_level (s.some_suite body) = suite_level body

-- no expression of a module has a level above 100
abbrev pub IsShallow : Suite → Type 0
IsShallow body = suite_level body ≤ 100

-- what is asked of each expression that is finished: nothing, or a level of at most 100
abbrev pub Limit : Type 0
Limit = ExprTree → Bool

abbrev pub free : Limit
free e = true

abbrev pub shallow : Limit
shallow e = nat_le (level e) 100

-- an expression as it is read: its tree, and the place of the first token that it was read from, which may be a bracket
-- that only groups
pub record Piece : Type 0 where
  pub tree : ExprTree
  pub begins : Span

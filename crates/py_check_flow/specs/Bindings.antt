-- The names that statements bind, in the order of the text, each as often as it is bound, with its annotation where it has one
-- (Python Language Reference, "Naming and binding").
--
-- A target binds its name, or those in its tuples and lists, at any depth. `for` binds its target and then what its body does,
-- a handler its name. An annotation binds with or without a value; a name alone can have one. Imports, `def` and `class` bind
-- no variable, and what a function binds is its own.
use Rattle.std.specs.Prelude.{ℕ, List, [], ◌∷◌, ◌++◌, map, Option, Some, None}
use Rattle.std.specs.Option.{option_map}
use Rattle.py_syntax.specs.Expressions as e
use Rattle.py_syntax.specs.Expressions.{ExprTree, ExprNode, ExprTrees, expr_tree}
use Rattle.py_syntax.specs.Statements.{StmtTree, at, StmtNode, Assign, Annot, Aug, If, While, For, Try, Suite, no_stmts, stmt_then, Arms, no_arms, arm_then, Handlers, no_handlers, handler_then, MaybeSuite, no_suite, some_suite}
use Rattle.py_check_flow.specs.declared.bindings.Binding as found

pub record Binding : Type 0 where
  pub name : List ℕ
  pub mark : Option ExprTree

abbrev pub bound : List ℕ → Option ExprTree → List Binding
bound name mark = record { name = name; mark = mark } ∷ []

abbrev mutual
  pub target_bindings : ExprTree → List Binding
  target_bindings (e.at node span) = node_bindings node

  pub node_bindings : ExprNode → List Binding
  node_bindings (e.Name x) = bound x None
  node_bindings (e.TupleOf items) = targets_bindings items
  node_bindings (e.ListOf items) = targets_bindings items
  node_bindings node = []

  pub targets_bindings : ExprTrees → List Binding
  targets_bindings e.no_exprs = []
  targets_bindings (e.expr_then a more) = target_bindings a ++ targets_bindings more

-- the name that an expression is
abbrev pub name_in : ExprTree → Option (List ℕ)
name_in (e.at (e.Name x) span) = Some x
name_in _ = None

-- an annotated target, by the name that it is
abbrev pub marked : Option (List ℕ) → ExprTree → ExprTree → List Binding
marked None target mark = target_bindings target
marked (Some x) target mark = bound x (Some mark)

-- the name of a handler
abbrev pub caught : Option (List ℕ) → List Binding
caught None = []
caught (Some x) = bound x None

abbrev mutual
  pub stmt_bindings : StmtTree → List Binding
  stmt_bindings (at node span) = act_bindings node

  pub act_bindings : StmtNode → List Binding
  act_bindings (Assign target a) = target_bindings target
  act_bindings (Annot target mark a) = marked (name_in target) target mark
  act_bindings (Aug target op a) = target_bindings target
  act_bindings (If arms other) = arms_bindings arms ++ suite_bindings other
  act_bindings (While test body) = suite_bindings body
  act_bindings (For target a body) = target_bindings target ++ suite_bindings body
  act_bindings (Try body handlers last) = suite_bindings body ++ (handlers_bindings handlers ++ last_bindings last)
  act_bindings node = []

  -- THE BINDINGS of statements
  pub suite_bindings : Suite → List Binding
  suite_bindings no_stmts = []
  suite_bindings (stmt_then s more) = stmt_bindings s ++ suite_bindings more

  pub arms_bindings : Arms → List Binding
  arms_bindings no_arms = []
  arms_bindings (arm_then test body more) = suite_bindings body ++ arms_bindings more

  pub handlers_bindings : Handlers → List Binding
  handlers_bindings no_handlers = []
  handlers_bindings (handler_then class name body span more) = caught name ++ (suite_bindings body ++ handlers_bindings more)

  pub last_bindings : MaybeSuite → List Binding
  last_bindings no_suite = []
  last_bindings (some_suite body) = suite_bindings body

abbrev pub bound_names : List Binding → List (List ℕ)
bound_names bindings = map (λ b. b.name) bindings

-- what the program's bindings stand for
abbrev pub binding_of : found.Binding → Binding
binding_of b = record { name = b.name.now; mark = option_map (λ mark. expr_tree mark.now) b.mark }

abbrev pub bindings_of : List found.Binding → List Binding
bindings_of bs = map binding_of bs

-- What the text of a class does with the names of its members, in the order of the text (Python Language Reference, "Class
-- definitions", "Assignment statements" and "Annotated assignment statements").
--
-- Its body defines methods, and declares attributes by annotations of names without a value. Its `__init__` declares attributes too, and
-- sets them: there, an assignment to `a` of the first parameter, under any name of that, at any depth of the statements. What stands
-- in the body of `__init__` comes behind the def of that. Nothing else in a class names a member.
use Rattle.std.specs.Prelude.{ℕ, ◌+◌, Bool, false, ◌==◌, if◌then◌else◌, List, [], ◌∷◌, ◌++◌, length, Option, Some, None, is_some}
use Rattle.std.specs.List.{flat_map}
use Rattle.std.specs.Map.{lookup}
use Rattle.std.specs.Option.{option_or, option_map}
use Rattle.std.specs.Str.{bytes_eq}
use Rattle.py_syntax.specs.declared.token.Span.{Span}
use Rattle.py_syntax.specs.Expressions as e
use Rattle.py_syntax.specs.Expressions.{ExprTree, ExprNode, ExprTrees}
use Rattle.py_syntax.specs.Statements.{StmtTree, at, StmtNode, Assign, Annot, Aug, If, While, For, Try, Def, Suite, no_stmts, stmt_then, Arms, no_arms, arm_then, Handlers, no_handlers, handler_then, MaybeSuite, no_suite, some_suite, FuncTree}
use Rattle.py_typed.specs.Sorts as sort
use Rattle.py_typed.specs.Sorts.{Sort}
use Rattle.py_check_flow.specs.Bindings.{name_in}
use Rattle.py_check_names.specs.Builtins.{builtin_meaning}
use Rattle.py_check_names.specs.Outline.{method_in}
use Rattle.py_check_classes.specs.Bodies.{declared_name, defined_name, is_init}

abbrev pub is_builtin_name : List ℕ → Bool
is_builtin_name name = is_some (builtin_meaning name)

-- what tells the type of an attribute that is set without an annotation: the object itself, a parameter by its annotation, which may be
-- missing, or a literal of this type
pub data Source : Type 0 where
  itself : Source
  annotated : Option ExprTree → Source
  literal : Sort → Source

pub data Deed : Type 0 where
  -- a def in the body, with the number of its function
  defines : ℕ → Deed
  -- `a: T` in the body
  declares : ExprTree → Deed
  -- `self.a: T` in `__init__`, with a value or without
  annotates : ExprTree → Deed
  -- `self.a = e` in `__init__`, where e tells the type
  gives : Source → Deed
  -- every other assignment to `self.a` there: of another value, to several targets, or an augmented one, also of several
  sets : Deed

-- with its place: of a target that gives or sets its own, and of everything else that of the statement
pub record Event : Type 0 where
  pub name : List ℕ
  pub deed : Deed
  pub place : Span

abbrev pub event : List ℕ → Deed → Span → Event
event name deed place = record { name = name; deed = deed; place = place }

-- where there is a name
abbrev pub event_of : Option (List ℕ) → Deed → Span → List Event
event_of None deed place = []
event_of (Some a) deed place = event a deed place ∷ []

-- ---- in `__init__`

abbrev mutual
  pub stmt_assignments : StmtTree → List StmtTree
  stmt_assignments (at node span) = node_assignments node span

  pub node_assignments : StmtNode → Span → List StmtTree
  node_assignments (Assign target a) span = at (Assign target a) span ∷ []
  node_assignments (Annot target mark a) span = at (Annot target mark a) span ∷ []
  node_assignments (Aug target op a) span = at (Aug target op a) span ∷ []
  node_assignments (If arms other) span = arms_assignments arms ++ suite_assignments other
  node_assignments (While test body) span = suite_assignments body
  node_assignments (For target a body) span = suite_assignments body
  node_assignments (Try body handlers last) span = suite_assignments body ++ (handlers_assignments handlers ++ last_assignments last)
  node_assignments node span = []

  -- THE ASSIGNMENTS among statements, at any depth, in the order of the text
  pub suite_assignments : Suite → List StmtTree
  suite_assignments no_stmts = []
  suite_assignments (stmt_then s more) = stmt_assignments s ++ suite_assignments more

  pub arms_assignments : Arms → List StmtTree
  arms_assignments no_arms = []
  arms_assignments (arm_then test body more) = suite_assignments body ++ arms_assignments more

  pub handlers_assignments : Handlers → List StmtTree
  handlers_assignments no_handlers = []
  handlers_assignments (handler_then class name body span more) = suite_assignments body ++ handlers_assignments more

  pub last_assignments : MaybeSuite → List StmtTree
  last_assignments no_suite = []
  last_assignments (some_suite body) = suite_assignments body

abbrev pub place_of : ExprTree → Span
place_of (e.at node span) = span

abbrev pub assigned : Option Source → Deed
assigned None = sets
assigned (Some s) = gives s

abbrev pub is_named : List ℕ → Option (List ℕ) → Bool
is_named name None = false
is_named name (Some x) = bytes_eq x name

-- of the object of this name, among these parameters
module _ (self : List ℕ) (params : List (List ℕ × Option ExprTree)) where
  -- the attribute of it that an expression is
  abbrev pub attribute_in : ExprTree → Option (List ℕ)
  attribute_in (e.at (e.Attr of a) span) = if is_named self (name_in of) then Some a else None
  attribute_in _ = None

  -- a parameter under the name of a builtin is never meant by it
  abbrev pub named_source : List ℕ → Option Source
  named_source x =
      if is_builtin_name x then None else
      if bytes_eq x self then Some itself
      else option_map annotated (lookup (bytes_eq x) params)

  -- what an expression tells of the type of what it is assigned to. A negative number is no literal
  abbrev pub source_in : ExprTree → Option Source
  source_in (e.at (e.Int n) span) = Some (literal sort.Int)
  source_in (e.at (e.Str text) span) = Some (literal sort.Str)
  source_in (e.at e.True span) = Some (literal sort.Bool)
  source_in (e.at e.False span) = Some (literal sort.Bool)
  source_in (e.at (e.Name x) span) = named_source x
  source_in _ = None

  abbrev pub set_in : ExprTree → List Event
  set_in target = event_of (attribute_in target) sets (place_of target)

  -- the targets in a tuple or a list, at any depth
  abbrev mutual
    pub targets_in : ExprTree → List Event
    targets_in (e.at node span) = node_targets span node

    pub node_targets : Span → ExprNode → List Event
    node_targets span (e.TupleOf items) = row_targets items
    node_targets span (e.ListOf items) = row_targets items
    node_targets span node = set_in (e.at node span)

    pub row_targets : ExprTrees → List Event
    row_targets e.no_exprs = []
    row_targets (e.expr_then a more) = targets_in a ++ row_targets more

  -- an assignment to one attribute, or to something else
  abbrev pub assignment : Option (List ℕ) → ExprTree → ExprTree → List Event
  assignment None target a = targets_in target
  assignment (Some name) target a = event name (assigned (source_in a)) (place_of target) ∷ []

  abbrev pub act_events : Span → StmtNode → List Event
  act_events span (Assign target a) = assignment (attribute_in target) target a
  act_events span (Annot target mark a) = event_of (attribute_in target) (annotates mark) span
  act_events span (Aug target op a) = targets_in target
  act_events span node = []

  -- what an assignment does
  abbrev pub stmt_events : StmtTree → List Event
  stmt_events (at node span) = act_events span node

-- a function without parameters has no object
abbrev pub init_events : List (List ℕ × Option ExprTree) → Suite → List Event
init_events [] body = []
init_events (p ∷ others) body = flat_map (stmt_events p.0 (p ∷ others)) (suite_assignments body)

-- ---- in the body of a class

-- the name that a statement takes: that of a def, or of a declaration
abbrev pub taken_name : StmtTree → Option (List ℕ)
taken_name s = option_or (defined_name s) (declared_name s)

-- where the next function has this number, the function that is the `__init__` of the class: none where a declaration of that name
-- stands before the first def of it
abbrev pub init_function : ℕ → Suite → Option ℕ
init_function next no_stmts = None
init_function next (stmt_then s more) =
    if is_init (defined_name s) then Some next else
    if is_init (declared_name s) then None
    else init_function (next + length (method_in s)) more

abbrev pub is_number : ℕ → Option ℕ → Bool
is_number f None = false
is_number f (Some init) = f == init

-- where this is the `__init__` of the class
module _ (init : Option ℕ) where
  abbrev pub method_events : ℕ → FuncTree → Span → List Event
  method_events next f span = event f.name (defines next) span ∷ (if is_number next init then init_events f.params f.body else [])

  abbrev pub member_events : ℕ → StmtTree → List Event
  member_events next (at (Def name params ret body marks) span) =
      method_events next (record { name = name; params = params; ret = ret; body = body; marks = marks }) span
  member_events next (at (Annot target mark None) span) = event_of (name_in target) (declares mark) span
  member_events next _ = []

  abbrev pub body_events : ℕ → Suite → List Event
  body_events next no_stmts = []
  body_events next (stmt_then s more) = member_events next s ++ body_events (next + length (method_in s)) more

-- WHAT THE TEXT OF A CLASS DOES, where the first of its functions has this number
abbrev pub class_events : ℕ → Suite → List Event
class_events next body = body_events (init_function next body) next body

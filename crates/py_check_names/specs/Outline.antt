-- The definitions and imports of a module, and what they make of names (Python Language Reference, "Naming and binding").
--
-- Functions are numbered in the order of the text, methods at the place of their class. Whether a class has a type is not asked here.
-- An import of a name that may be imported, under its own name, means what that is; a statement that imports anything else is
-- refused whole, and its names have no type.
use Rattle.std.specs.Prelude.{ℕ, ◌+◌, Bool, true, false, ◌&&◌, List, [], ◌∷◌, ◌++◌, map, length, Option, is_some, is_none, unwrap_or}
use Rattle.std.specs.List.{list_all}
use Rattle.py_syntax.specs.declared.token.Span.{Span}
use Rattle.py_syntax.specs.Statements.{StmtTree, at, StmtNode, Import, From, If, While, For, Try, Def, ClassDef, Suite, no_stmts, stmt_then, Arms, no_arms, arm_then, Handlers, no_handlers, handler_then, MaybeSuite, no_suite, some_suite, FuncTree}
use Rattle.py_binder.specs.Sights.{bound_as, first_part}
use Rattle.py_check_context.specs.declared.scope.Meaning.{Meaning}
use Rattle.py_check_context.specs.declared.scope.Meaning.TheVariants.{Function, UntypedClass, Untyped}
use Rattle.py_check_names.specs.Builtins.{import_meaning}

abbrev mutual
  pub stmt_definitions : StmtTree → List StmtTree
  stmt_definitions (at node span) = node_definitions node span

  pub node_definitions : StmtNode → Span → List StmtTree
  node_definitions (Def name params ret body marks) span = at (Def name params ret body marks) span ∷ []
  node_definitions (ClassDef name bases body marks) span = at (ClassDef name bases body marks) span ∷ []
  node_definitions (Import name other) span = at (Import name other) span ∷ []
  node_definitions (From name names) span = at (From name names) span ∷ []
  node_definitions (If arms other) span = arms_definitions arms ++ suite_definitions other
  node_definitions (While test body) span = suite_definitions body
  node_definitions (For target a body) span = suite_definitions body
  node_definitions (Try body handlers last) span = suite_definitions body ++ (handlers_definitions handlers ++ last_definitions last)
  node_definitions node span = []

  -- THE DEFINITIONS and imports of a module, in the order of the text
  pub suite_definitions : Suite → List StmtTree
  suite_definitions no_stmts = []
  suite_definitions (stmt_then s more) = stmt_definitions s ++ suite_definitions more

  pub arms_definitions : Arms → List StmtTree
  arms_definitions no_arms = []
  arms_definitions (arm_then test body more) = suite_definitions body ++ arms_definitions more

  pub handlers_definitions : Handlers → List StmtTree
  handlers_definitions no_handlers = []
  handlers_definitions (handler_then class name body span more) = suite_definitions body ++ handlers_definitions more

  pub last_definitions : MaybeSuite → List StmtTree
  last_definitions no_suite = []
  last_definitions (some_suite body) = suite_definitions body

-- ---- functions

abbrev pub method_in : StmtTree → List FuncTree
method_in (at (Def name params ret body marks) span) =
    record { name = name; params = params; ret = ret; body = body; marks = marks } ∷ []
method_in _ = []

abbrev pub methods_in : Suite → List FuncTree
methods_in no_stmts = []
methods_in (stmt_then s more) = method_in s ++ methods_in more

-- the functions that a definition holds: itself, or the methods of a class
abbrev pub held_by : StmtTree → List FuncTree
held_by (at (Def name params ret body marks) span) =
    record { name = name; params = params; ret = ret; body = body; marks = marks } ∷ []
held_by (at (ClassDef name bases body marks) span) = methods_in body
held_by _ = []

-- ---- names

-- a name that a statement imports from a module, where it may: under its own name
abbrev pub may_import : List ℕ → List ℕ × Option (List ℕ) → Bool
may_import from a = is_none a.1 && is_some (import_meaning from a.0)

abbrev pub may_import_all : List ℕ → List (List ℕ × Option (List ℕ)) → Bool
may_import_all from names = list_all (may_import from) names

abbrev pub what_is_imported : Bool → List ℕ → List ℕ → Meaning
what_is_imported true from name = unwrap_or (import_meaning from name) Untyped
what_is_imported false from name = Untyped

abbrev pub imported_as : Bool → List ℕ → List ℕ × Option (List ℕ) → List ℕ × Meaning
imported_as allowed from a = (bound_as a.0 a.1, what_is_imported allowed from a.0)

-- what a definition makes of names, where the function that comes next has this number
abbrev pub said_by : ℕ → StmtTree → List (List ℕ × Meaning)
said_by next (at (Def name params ret body marks) span) = (name, Function next) ∷ []
said_by next (at (ClassDef name bases body marks) span) = (name, UntypedClass) ∷ []
said_by next (at (Import name other) span) = (bound_as (first_part name) other, Untyped) ∷ []
said_by next (at (From name names) span) = map (imported_as (may_import_all name names) name) names
said_by next _ = []

abbrev pub said_from : ℕ → List StmtTree → List (List ℕ × Meaning)
said_from next [] = []
said_from next (s ∷ more) = said_by next s ++ said_from (next + length (held_by s)) more

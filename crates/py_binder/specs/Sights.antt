-- The names that stand in a module or in a function's body, one by one in the order of the text, with what each does there
-- (Python Language Reference, "Naming and binding").
--
-- In an assignment the target stands first, and `a if c else b` has a, c, b. A name behind a dot and the key of an argument
-- are not seen. The names in the decorators and annotations of a def, in the decorators and bases of a class and in its
-- `a: T` belong to the module, those in a function's body to the function. A class's body holds defs and `a: T`, and nothing
-- is seen of any other statement there; nor of an import, a def or a class inside a function.
use Rattle.std.specs.Prelude.{ℕ, Bool, true, false, ◌==◌, List, [], ◌∷◌, ◌++◌, Option, Some, None}
use Rattle.std.specs.List.{before_first}
use Rattle.py_syntax.specs.declared.token.Span.{Span}
use Rattle.py_syntax.specs.Expressions as e
use Rattle.py_syntax.specs.Expressions.{ExprTree, ExprNode, ExprTrees, Comparisons, Entries, Arguments}
use Rattle.py_syntax.specs.Statements as s
use Rattle.py_syntax.specs.Statements.{StmtTree, StmtNode, Suite, Arms, Handlers, MaybeSuite, FuncTree, ClassTree}
use Rattle.py_lexer_words.specs.Words.{name_in_quotes}
use Rattle.py_binder.specs.declared.sight.Manner.{Manner}
use Rattle.py_binder.specs.declared.sight.Manner.TheVariants.{Value, Annotation}
use Rattle.py_binder.specs.declared.sight.Home.{Home}
use Rattle.py_binder.specs.declared.sight.Home.TheVariants.{InModule, InFunction}
use Rattle.py_binder.specs.declared.scope.Role.{Role}
use Rattle.py_binder.specs.declared.scope.Role.TheVariants.{Function, Class, Import}

-- What is seen of a name: it is looked up; a statement binds it; a def, a class or an import says what it is. A `global`
-- statement lists names, and none of them is seen by that. And where a function's body stands, the function.
pub data Use : Type 0 where
  Reads : (name : List ℕ) → Use
  Binds : (name : List ℕ) → Use
  Defines : (role : Role) (name : List ℕ) → Use
  Declares : (names : List (List ℕ)) → Use
  Holds : (function : FuncTree) → Use

-- and the place of the node that has the name, of an import, a def or a class that of the statement
pub record Sight : Type 0 where
  pub does : Use
  pub span : Span

abbrev pub sight : Use → Span → Sight
sight does span = record { does = does; span = span }

-- ---- expressions

-- An expression is read as a value, or as an annotation, in which a text in quotes stands for the name that it is.
abbrev pub maybe_read : Option (List ℕ) → Span → List Sight
maybe_read None span = []
maybe_read (Some name) span = sight (Reads name) span ∷ []

abbrev pub text_reads : Manner → List ℕ → Span → List Sight
text_reads Value text span = []
text_reads Annotation text span = maybe_read (name_in_quotes text) span

abbrev mutual
  pub reads : Manner → ExprTree → List Sight
  reads m (e.at node span) = node_reads m node span

  pub node_reads : Manner → ExprNode → Span → List Sight
  node_reads m (e.Int n) span = []
  node_reads m (e.Str text) span = text_reads m text span
  node_reads m e.True span = []
  node_reads m e.False span = []
  node_reads m e.Nothing span = []
  node_reads m (e.Name name) span = sight (Reads name) span ∷ []
  node_reads m (e.Neg a) span = reads m a
  node_reads m (e.Plus a) span = reads m a
  node_reads m (e.Not a) span = reads m a
  node_reads m (e.Bin op a b) span = reads m a ++ reads m b
  node_reads m (e.Compare a more) span = reads m a ++ comparisons_reads m more
  node_reads m (e.And a b) span = reads m a ++ reads m b
  node_reads m (e.Or a b) span = reads m a ++ reads m b
  node_reads m (e.Cond a test b) span = reads m a ++ (reads m test ++ reads m b)
  node_reads m (e.ListOf items) span = exprs_reads m items
  node_reads m (e.DictOf entries) span = entries_reads m entries
  node_reads m (e.TupleOf items) span = exprs_reads m items
  node_reads m (e.Attr a name) span = reads m a
  node_reads m (e.Index a i) span = reads m a ++ reads m i
  node_reads m (e.Call callee more) span = reads m callee ++ arguments_reads m more

  pub exprs_reads : Manner → ExprTrees → List Sight
  exprs_reads m e.no_exprs = []
  exprs_reads m (e.expr_then a more) = reads m a ++ exprs_reads m more

  pub comparisons_reads : Manner → Comparisons → List Sight
  comparisons_reads m e.no_comparisons = []
  comparisons_reads m (e.comparison_then op a more) = reads m a ++ comparisons_reads m more

  pub entries_reads : Manner → Entries → List Sight
  entries_reads m e.no_entries = []
  entries_reads m (e.entry_then key value more) = reads m key ++ (reads m value ++ entries_reads m more)

  pub arguments_reads : Manner → Arguments → List Sight
  arguments_reads m e.no_arguments = []
  arguments_reads m (e.argument_then value more) = reads m value ++ arguments_reads m more
  arguments_reads m (e.keyed_then key value more) = reads m value ++ arguments_reads m more

abbrev pub maybe_reads : Manner → Option ExprTree → List Sight
maybe_reads m None = []
maybe_reads m (Some a) = reads m a

abbrev pub list_reads : Manner → List ExprTree → List Sight
list_reads m [] = []
list_reads m (a ∷ more) = reads m a ++ list_reads m more

-- A target binds its name, or the names in its tuples and lists, at any depth; in any other target names are looked up.
abbrev mutual
  pub target_sights : ExprTree → List Sight
  target_sights (e.at node span) = target_node_sights node span

  pub target_node_sights : ExprNode → Span → List Sight
  target_node_sights (e.Name name) span = sight (Binds name) span ∷ []
  target_node_sights (e.TupleOf items) span = targets_sights items
  target_node_sights (e.ListOf items) span = targets_sights items
  target_node_sights node span = node_reads Value node span

  pub targets_sights : ExprTrees → List Sight
  targets_sights e.no_exprs = []
  targets_sights (e.expr_then a more) = target_sights a ++ targets_sights more

-- ---- statements

-- the name that an import binds: the one behind `as`, or else the one that it names, of `import a.b` its first part
abbrev pub bound_as : List ℕ → Option (List ℕ) → List ℕ
bound_as name None = name
bound_as name (Some other) = other

abbrev pub first_part : List ℕ → List ℕ
first_part name = before_first (λ b. b == 46) name

abbrev pub aliases_sights : List (List ℕ × Option (List ℕ)) → Span → List Sight
aliases_sights [] span = []
aliases_sights (a ∷ more) span = sight (Defines Import (bound_as a.0 a.1)) span ∷ aliases_sights more span

-- the annotations of parameters
abbrev pub params_reads : List (List ℕ × Option ExprTree) → List Sight
params_reads [] = []
params_reads (p ∷ ps) = maybe_reads Annotation p.1 ++ params_reads ps

-- a function behind its name: its annotations, and then its body
abbrev pub header_sights : FuncTree → Span → List Sight
header_sights f span = params_reads f.params ++ (maybe_reads Annotation f.ret ++ sight (Holds f) span ∷ [])

-- a declaration of an attribute is a name with its annotation, and no value
abbrev pub is_name : ExprTree → Bool
is_name (e.at (e.Name name) span) = true
is_name _ = false

abbrev pub attribute_sights : Bool → ExprTree → List Sight
attribute_sights true mark = reads Annotation mark
attribute_sights false mark = []

-- what a class's body may hold: a def, whose name is none of the module's, and a declaration
abbrev pub member_sights : StmtTree → List Sight
member_sights (s.at (s.Def name params ret body marks) span) =
    list_reads Value marks ++ header_sights (record { name = name; params = params; ret = ret; body = body; marks = marks }) span
member_sights (s.at (s.Annot target mark None) span) = attribute_sights (is_name target) mark
member_sights _ = []

abbrev pub members_sights : Suite → List Sight
members_sights s.no_stmts = []
members_sights (s.stmt_then stmt more) = member_sights stmt ++ members_sights more

-- a def and a class, which are seen only in a module
abbrev pub def_sights : Home → FuncTree → Span → List Sight
def_sights InModule f span = list_reads Value f.marks ++ (sight (Defines Function f.name) span ∷ header_sights f span)
def_sights InFunction f span = []

abbrev pub class_sights : Home → ClassTree → Span → List Sight
class_sights InModule c span =
    list_reads Value c.marks ++ (sight (Defines Class c.name) span ∷ (list_reads Value c.bases ++ members_sights c.body))
class_sights InFunction c span = []

-- an import, of a module and of names
abbrev pub import_sights : Home → List ℕ → Option (List ℕ) → Span → List Sight
import_sights InModule name other span = sight (Defines Import (bound_as (first_part name) other)) span ∷ []
import_sights InFunction name other span = []

abbrev pub from_sights : Home → List (List ℕ × Option (List ℕ)) → Span → List Sight
from_sights InModule names span = aliases_sights names span
from_sights InFunction names span = []

-- the name behind `as` in an `except`
abbrev pub caught_sights : Option (List ℕ) → Span → List Sight
caught_sights None span = []
caught_sights (Some name) span = sight (Binds name) span ∷ []

abbrev mutual
  pub stmt_sights : Home → StmtTree → List Sight
  stmt_sights h (s.at node span) = stmt_node_sights h node span

  pub stmt_node_sights : Home → StmtNode → Span → List Sight
  stmt_node_sights h (s.Do a) span = reads Value a
  stmt_node_sights h (s.Assign target a) span = target_sights target ++ reads Value a
  stmt_node_sights h (s.Annot target mark a) span = target_sights target ++ (reads Annotation mark ++ maybe_reads Value a)
  stmt_node_sights h (s.Aug target op a) span = target_sights target ++ reads Value a
  stmt_node_sights h (s.Del a) span = reads Value a
  stmt_node_sights h s.Pass span = []
  stmt_node_sights h s.Break span = []
  stmt_node_sights h s.Continue span = []
  stmt_node_sights h (s.Return a) span = maybe_reads Value a
  stmt_node_sights h (s.Raise a) span = maybe_reads Value a
  stmt_node_sights h (s.Global names) span = sight (Declares names) span ∷ []
  stmt_node_sights h (s.Assert a message) span = reads Value a ++ maybe_reads Value message
  stmt_node_sights h (s.Import name other) span = import_sights h name other span
  stmt_node_sights h (s.From name names) span = from_sights h names span
  stmt_node_sights h (s.If arms other) span = arms_sights h arms ++ suite_sights h other
  stmt_node_sights h (s.While test body) span = reads Value test ++ suite_sights h body
  stmt_node_sights h (s.For target a body) span = target_sights target ++ (reads Value a ++ suite_sights h body)
  stmt_node_sights h (s.Try body handlers last) span =
      suite_sights h body ++ (handlers_sights h handlers ++ maybe_suite_sights h last)
  stmt_node_sights h (s.Def name params ret body marks) span =
      def_sights h (record { name = name; params = params; ret = ret; body = body; marks = marks }) span
  stmt_node_sights h (s.ClassDef name bases body marks) span =
      class_sights h (record { name = name; bases = bases; body = body; marks = marks }) span

  pub suite_sights : Home → Suite → List Sight
  suite_sights h s.no_stmts = []
  suite_sights h (s.stmt_then stmt more) = stmt_sights h stmt ++ suite_sights h more

  pub arms_sights : Home → Arms → List Sight
  arms_sights h s.no_arms = []
  arms_sights h (s.arm_then test body more) = reads Value test ++ (suite_sights h body ++ arms_sights h more)

  pub handlers_sights : Home → Handlers → List Sight
  handlers_sights h s.no_handlers = []
  handlers_sights h (s.handler_then class name body span more) =
      maybe_reads Value class ++ (caught_sights name span ++ (suite_sights h body ++ handlers_sights h more))

  pub maybe_suite_sights : Home → MaybeSuite → List Sight
  maybe_suite_sights h s.no_suite = []
  maybe_suite_sights h (s.some_suite body) = suite_sights h body

-- what is seen in a module, and in a function's body
abbrev pub module_sights : Suite → List Sight
module_sights m = suite_sights InModule m

abbrev pub body_sights : FuncTree → List Sight
body_sights f = suite_sights InFunction f.body

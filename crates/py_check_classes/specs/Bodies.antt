-- What the body of a class has of its own (Python Language Reference, "Class definitions" and "Annotated assignment statements").
--
-- An attribute is declared by a name with an annotation and without a value. One behind a method of its name is refused, and
-- declares nothing; a method with the name of a builtin is refused itself, and is none.
use Rattle.std.specs.Prelude.{ℕ, Bool, false, not, ◌||◌, List, [], codes, Option, Some, None, if◌then◌else◌, is_some}
use Rattle.indexmap.specs.IndexSet.{insert_key}
use Rattle.std.specs.Str.{bytes_eq}
use Rattle.py_syntax.specs.Statements.{StmtTree, at, Annot, Def, Suite, no_stmts, stmt_then}
use Rattle.py_binder.specs.Scope.{contains}
use Rattle.py_check_flow.specs.Bindings.{name_in}
use Rattle.py_check_names.specs.Builtins.{builtin_meaning}

-- the name of the attribute that a statement declares, and of the method that it defines
abbrev pub declared_name : StmtTree → Option (List ℕ)
declared_name (at (Annot target mark None) span) = name_in target
declared_name _ = None

abbrev pub defined_name : StmtTree → Option (List ℕ)
defined_name (at (Def name params ret body marks) span) = Some name
defined_name _ = None

-- the names of methods, with one more where it may be a method's
abbrev pub with_method : List (List ℕ) → Option (List ℕ) → List (List ℕ)
with_method methods None = methods
with_method methods (Some name) = if is_some (builtin_meaning name) then methods else insert_key bytes_eq methods name

-- a declaration that stands behind these methods
abbrev pub is_declared : List (List ℕ) → Option (List ℕ) → Bool
is_declared methods None = false
is_declared methods (Some name) = not (contains methods name)

abbrev pub declares_behind : List (List ℕ) → Suite → Bool
declares_behind methods no_stmts = false
declares_behind methods (stmt_then s more) =
    is_declared methods (declared_name s) || declares_behind (with_method methods (defined_name s)) more

-- the body declares an attribute
abbrev pub has_attributes : Suite → Bool
has_attributes body = declares_behind [] body

abbrev pub is_init : Option (List ℕ) → Bool
is_init None = false
is_init (Some name) = bytes_eq name (codes "__init__")

abbrev pub has_init : Suite → Bool
has_init no_stmts = false
has_init (stmt_then s more) = is_init (defined_name s) || has_init more

-- The classes, statements, expressions and functions of a typed module that are not compiled, and the lines on which they stand. A
-- statement stands on its own line, and what stands inside of one on no line before it.
use Rattle.std.specs.Prelude.{ℕ, suc, Bool, true, false, ◌&&◌, nat_le, List, [], ◌∷◌, ◌++◌, length, Option, Some, None, slice_get}
use Rattle.std.specs.List.{list_all, flat_map}
use Rattle.py_syntax.specs.Statements as tree
use Rattle.py_syntax.specs.Statements.{StmtTree, at, Def, ClassDef, Suite}
use Rattle.py_typed.specs.Sorts as sort
use Rattle.py_typed.specs.Sorts.{Sort}
use Rattle.py_typed.specs.Expressions.{TypedExpr, typed, Print, type_of}
use Rattle.py_typed.specs.Statements.{Variable, TypedFunc, TypedModule, TypedTarget, AttrTarget, ItemTarget, TypedStmt, on_line, TypedAct, Do, Assign, Aug, Del, If, While, ForRange, ForList, ForDict, Try, Raise, Return, Break, Continue, Assert, Pass, TypedSuite, no_stmts, stmt_then, Arms, no_arms, arm_then}
use Rattle.py_check_names.specs.Outline.{suite_definitions}
use Rattle.ir_builder_forms.specs.declared.form.Form.TheVariants as form
use Rattle.ir_builder_forms.specs.declared.form.Unbuilt.{Unbuilt}
use Rattle.ir_builder_forms.specs.Least.{least}
use Rattle.ir_builder_supported.specs.Forms.{is_value, is_result, unbuilt, kind, is_none, function_form}
use Rattle.ir_builder_supported.specs.Expressions.{or_parts, expression_forms, row_forms}

-- `print` writes any number of values
abbrev pub alone_forms : TypedExpr → List Unbuilt
alone_forms (typed (Print es) t place) = row_forms es
alone_forms e = expression_forms e

-- of an expression that may be missing
abbrev pub maybe_forms : Option TypedExpr → List Unbuilt
maybe_forms None = []
maybe_forms (Some e) = expression_forms e

abbrev pub is_list : Sort → Bool
is_list (sort.ListOf t) = true
is_list t = false

-- of what is assigned to by a statement on a line: a name is compiled, and an item of a list where the parts are that say which item
-- it is; an attribute and an item of a dict are not
abbrev pub target_forms : ℕ → TypedTarget → List Unbuilt
target_forms line (AttrTarget e name) = unbuilt line form.Attribute ∷ []
target_forms line (ItemTarget e i) = or_parts (is_list (type_of e)) (unbuilt line (form.Index (kind (type_of e)))) (expression_forms e ++ expression_forms i)
target_forms line target = []

abbrev pub targets_forms : ℕ → List TypedTarget → List Unbuilt
targets_forms line [] = []
targets_forms line (t ∷ ts) = target_forms line t ++ targets_forms line ts

-- of a statement, whose targets come before what is bound to them
abbrev mutual
  pub statement_forms : TypedStmt → List Unbuilt
  statement_forms (on_line a line) = act_forms line a

  pub act_forms : ℕ → TypedAct → List Unbuilt
  act_forms line (Do e) = alone_forms e
  act_forms line (Assign ts e) = targets_forms line ts ++ expression_forms e
  act_forms line (Aug t op e s) = target_forms line t ++ expression_forms e
  act_forms line (If arms other) = arms_forms arms ++ suite_forms other
  act_forms line (While test body) = expression_forms test ++ suite_forms body
  act_forms line (Return e) = maybe_forms e
  act_forms line Break = []
  act_forms line Continue = []
  act_forms line Pass = []
  act_forms line (Del e i) = unbuilt line form.Del ∷ []
  act_forms line (ForRange ts a b body) = targets_forms line ts ++ (maybe_forms a ++ (expression_forms b ++ suite_forms body))
  act_forms line (ForList ts e body) = targets_forms line ts ++ (expression_forms e ++ suite_forms body)
  act_forms line (ForDict ts e body) = unbuilt line form.For ∷ []
  act_forms line (Try body others last) = unbuilt line form.Try ∷ []
  act_forms line (Raise e) = unbuilt line form.Raise ∷ []
  act_forms line (Assert test message) = unbuilt line form.Assert ∷ []

  pub suite_forms : TypedSuite → List Unbuilt
  suite_forms no_stmts = []
  suite_forms (stmt_then s more) = statement_forms s ++ suite_forms more

  pub arms_forms : Arms → List Unbuilt
  arms_forms no_arms = []
  arms_forms (arm_then test body more) = expression_forms test ++ (suite_forms body ++ arms_forms more)

-- ---- functions

abbrev pub hold_values : List Variable → Bool
hold_values vs = list_all (λ (v : Variable). is_value v.1) vs

-- a function that is no method, whose variables hold values that are compiled, with such a result or None
abbrev pub is_function : TypedFunc → Bool
is_function f = is_none f.class && (nat_le f.params (length f.locals) && (hold_values f.locals && is_result f.ret))

-- it stands on the line of its definition
abbrev pub line_or_none : Option ℕ → ℕ
line_or_none None = 0
line_or_none (Some line) = line

abbrev pub function_forms : ℕ → TypedFunc → List Unbuilt
function_forms line f = or_parts (is_function f) (unbuilt line (function_form f)) (suite_forms f.body)

-- functions from the one of this number on, where functions stand on these lines
abbrev pub functions_forms : List ℕ → ℕ → List TypedFunc → List Unbuilt
functions_forms lines n [] = []
functions_forms lines n (f ∷ more) = function_forms (line_or_none (slice_get lines n)) f ++ functions_forms lines (suc n) more

-- ---- definitions

-- the line of a definition of a function
abbrev pub def_line : StmtTree → List ℕ
def_line (at (Def name params ret body marks) span) = span.line ∷ []
def_line s = []

abbrev pub def_lines : Suite → List ℕ
def_lines tree.no_stmts = []
def_lines (tree.stmt_then s more) = def_line s ++ def_lines more

-- the lines of the functions that a definition holds: of itself, or of the methods of a class
abbrev pub lines_held : StmtTree → List ℕ
lines_held (at (Def name params ret body marks) span) = span.line ∷ []
lines_held (at (ClassDef name bases body marks) span) = def_lines body
lines_held s = []

-- THE LINES of a module's functions, by their numbers
abbrev pub function_lines : List StmtTree → List ℕ
function_lines definitions = flat_map lines_held definitions

-- a class, which stands where its first decorator does
abbrev pub class_form : StmtTree → List Unbuilt
class_form (at (ClassDef name bases body marks) span) = unbuilt span.line form.Class ∷ []
class_form s = []

-- THE CLASS, statement, expression or function of a module that is not compiled and stands on the first line with any, where there is
-- one: of several on that line the first, in the order here. The module has this tree and is this typed one. An import has no code
abbrev pub uncompiled_form : Suite → TypedModule → Option Unbuilt
uncompiled_form m t =
    least None (flat_map class_form (suite_definitions m) ++ (suite_forms t.top ++ functions_forms (function_lines (suite_definitions m)) 0 t.funcs))

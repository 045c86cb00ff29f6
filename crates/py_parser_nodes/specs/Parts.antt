-- Parts of statements as they are handed over, on the heap, and what is made of them.
use Rattle.std.specs.Global.{Box}
use Rattle.std.specs.Prelude.{ℕ, List, [], Option, Some, None}
use Rattle.py_syntax.specs.declared.expression.Expr.{Expr}
use Rattle.py_syntax.specs.declared.statement.Stmt.{Stmt}
use Rattle.py_syntax.specs.declared.token.Span.{Span}
use Rattle.py_syntax.specs.Expressions.{ExprTree, expr_tree}
use Rattle.py_syntax.specs.Statements.{Suite, HandlerTree, FuncTree, ClassTree, arm_tree}

-- an expression that may be missing
abbrev pub maybe_boxed : Option (Box Expr) → Option ExprTree
maybe_boxed None = None
maybe_boxed (Some x) = Some (expr_tree x.value)

-- a test with its body
abbrev pub arm_boxed : Box Expr × List Stmt → ExprTree × Suite
arm_boxed x = arm_tree (x.0.value, x.1)

-- a parameter with its annotation
abbrev pub param_boxed : List ℕ × Option (Box Expr) → List ℕ × Option ExprTree
param_boxed x = (x.0, maybe_boxed x.1)

-- a handler of these parts
abbrev pub handler_of : Option ExprTree → Option (List ℕ) → Suite → Span → HandlerTree
handler_of caught name body span = record { class = caught; name = name; body = body; span = span }

-- a function and a class of these parts, without decorators
abbrev pub plain_func : List ℕ → List (List ℕ × Option ExprTree) → Option ExprTree → Suite → FuncTree
plain_func name params ret body = record { name = name; params = params; ret = ret; body = body; marks = [] }

abbrev pub plain_class : List ℕ → List ExprTree → Suite → ClassTree
plain_class name bases body = record { name = name; bases = bases; body = body; marks = [] }

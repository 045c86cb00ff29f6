-- The size of an arm of an `if`, which is that of its body, and of the body of a `finally`, if there is one.
use Rattle.std.proofs.Common.{ℕ, List, max, Option, Some, None}
use denote.Param.Weighed.{most}
use Rattle.py_syntax.specs.declared.expression.Expr.{Expr}
use Rattle.py_syntax.specs.declared.statement.Stmt.{Stmt, size-Stmt}

abbrev pub arm_size : Expr × List Stmt → ℕ
arm_size a = max 0 (max (most size-Stmt a.1) 0)

abbrev pub last_size : Option (List Stmt) → ℕ
last_size None = 0
last_size (Some body) = most size-Stmt body

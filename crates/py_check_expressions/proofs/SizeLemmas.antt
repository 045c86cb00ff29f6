-- The size of an operand behind its operator, among those of a chain, and that of a key with its value, among those of a dict.
use Rattle.std.proofs.Common.{ℕ, max}
use Rattle.py_syntax.specs.declared.expression.CmpOp.{CmpOp}
use Rattle.py_syntax.specs.declared.expression.Expr.{Expr, size-Expr}

abbrev pub operand_size : CmpOp × Expr → ℕ
operand_size p = max 0 (max (size-Expr p.1) 0)

abbrev pub entry_size : Expr × Expr → ℕ
entry_size p = max (size-Expr p.0) (max (size-Expr p.1) 0)

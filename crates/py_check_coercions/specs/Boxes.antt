-- A typed expression in a box, and a pair with its operator.
use Rattle.std.specs.declared.boxed.Box.{Box}
use Rattle.std.specs.declared.alloc.Global.{Global}
use Rattle.py_syntax.specs.declared.expression.CmpOp.{CmpOp}
use Rattle.py_typed.specs.declared.expression.TExpr.{TExpr}
use Rattle.py_typed.specs.Expressions.{TypedExpr, typed_expr}

abbrev pub boxed : Box TExpr Global → TypedExpr
boxed e = typed_expr e.value

abbrev pub operand_pair : CmpOp × TExpr → CmpOp × TypedExpr
operand_pair p = (p.0, typed_expr p.1)

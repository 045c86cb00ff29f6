-- What the program's operands stand for.
use Rattle.std.specs.Prelude.{Option}
use Rattle.std.specs.Option.{option_map}
use Rattle.std.specs.declared.boxed.Box.{Box}
use Rattle.std.specs.declared.alloc.Global.{Global}
use Rattle.py_syntax.specs.declared.expression.CmpOp.{CmpOp}
use Rattle.py_typed.specs.declared.expression.TExpr.{TExpr}
use Rattle.py_typed.specs.Expressions.{TypedExpr}
use Rattle.py_check_coercions.specs.Boxes.{boxed}

-- an operand of a chain behind its operator, which may have no type
abbrev pub maybe_pair : CmpOp × Option (Box TExpr Global) → CmpOp × Option TypedExpr
maybe_pair p = (p.0, option_map boxed p.1)

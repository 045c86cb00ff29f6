-- The typing of expressions by what the program knows where they stand.
use Rattle.std.specs.Prelude.{Bool, List, ◌++◌, Option}
use Rattle.py_syntax.specs.declared.expression.CmpOp.{CmpOp}
use Rattle.py_syntax.specs.Expressions.{ExprTree, ExprNode, ExprTrees, Comparisons, Entries, Arguments}
use Rattle.py_typed.specs.Expressions.{TypedExpr}
use Rattle.py_check_context.specs.Context.{Context, context, var_sorts, Wanted, WantedRow}
use Rattle.py_check_messages.specs.Seen.{Seen}
use Rattle.py_check_operators.specs.Facts.{facts}
use Rattle.py_check_expressions.specs.declared.environments.Environment.{Environment}
use Rattle.py_check_expressions.specs.Typing.{typing, items, entries, operands, each_operand, arguments, part, receiver}

module _ (v : Environment) where
  abbrev pub context_in : Context
  context_in = context v.scope.now

  abbrev pub typing_in : Wanted → ExprTree → Seen TypedExpr
  typing_in w e = typing (context v.scope.now) (var_sorts v.vars.now) w v.known.now e

  -- where a test has this outcome
  abbrev pub typing_where : Bool → ExprTree → Wanted → ExprTree → Seen TypedExpr
  typing_where outcome test w e = typing (context v.scope.now) (var_sorts v.vars.now) w (facts (context v.scope.now) outcome test ++ v.known.now) e

  abbrev pub items_in : WantedRow → ExprTrees → Seen (List TypedExpr)
  items_in row es = items (context v.scope.now) (var_sorts v.vars.now) row 0 v.known.now es

  abbrev pub entries_in : Wanted → Wanted → Entries → Seen (List (TypedExpr × TypedExpr))
  entries_in key value es = entries (context v.scope.now) (var_sorts v.vars.now) key value v.known.now es

  abbrev pub operands_in : Comparisons → Seen (List (CmpOp × TypedExpr))
  operands_in cs = operands (context v.scope.now) (var_sorts v.vars.now) v.known.now cs

  abbrev pub each_operand_in : Comparisons → List (CmpOp × Option TypedExpr)
  each_operand_in cs = each_operand (context v.scope.now) (var_sorts v.vars.now) v.known.now cs

  abbrev pub arguments_in : WantedRow → Arguments → Seen (List TypedExpr)
  arguments_in row args = arguments (context v.scope.now) (var_sorts v.vars.now) row 0 v.known.now args

  abbrev pub part_in : ExprTree → Seen TypedExpr
  part_in f = part (context v.scope.now) (var_sorts v.vars.now) v.known.now f

  abbrev pub receiver_in : ExprNode → Seen TypedExpr
  receiver_in f = receiver (context v.scope.now) (var_sorts v.vars.now) v.known.now f

use Rattle.ir_builder_supported.proofs.Common.{arith}
use Rattle.py_typed.specs.declared.statement.TStmtKind as kind
use Rattle.py_typed.proofs.StatementLemmas.{typed_stmt-If, typed_stmt-While, typed_stmt_of, typed_act-Assign, typed_act-Aug, typed_act-ForRange, typed_act-ForList}
use Rattle.ir_builder_supported.proofs.FormLemmas.{least_append}
use Rattle.ir_builder_supported.proofs.lines.+statement.Goals as goal

pub in_statement-returns-in-Assign : goal.in_statement-returns-in-Assign
in_statement-returns-in-Assign t c =
    grind (arith, least_append, typed_stmt_of c.args.s.now (kind.Assign c.in-Assign.targets c.in-Assign.e) c.in-Assign.is, typed_act-Assign c.in-Assign.targets c.in-Assign.e)

pub in_statement-returns-in-Aug : goal.in_statement-returns-in-Aug
in_statement-returns-in-Aug t c =
    grind (arith, least_append, typed_stmt_of c.args.s.now (kind.Aug c.in-Aug.target c.in-Aug.field-1 c.in-Aug.e c.in-Aug.field-3) c.in-Aug.is, typed_act-Aug c.in-Aug.target c.in-Aug.field-1 c.in-Aug.e c.in-Aug.field-3)

pub in_statement-returns-in-If : goal.in_statement-returns-in-If
in_statement-returns-in-If t c = grind (arith, least_append, typed_stmt-If c.args.s.now c.in-If.arms c.in-If.other c.in-If.is)

pub in_statement-returns-in-While : goal.in_statement-returns-in-While
in_statement-returns-in-While t c = grind (arith, least_append, typed_stmt-While c.args.s.now c.in-While.test c.in-While.body c.in-While.is)

pub in_statement-returns-in-ForRange : goal.in_statement-returns-in-ForRange
in_statement-returns-in-ForRange t c =
    grind (arith, least_append, typed_stmt_of c.args.s.now (kind.ForRange c.in-ForRange.targets c.in-ForRange.start c.in-ForRange.stop c.in-ForRange.body) c.in-ForRange.is, typed_act-ForRange c.in-ForRange.targets c.in-ForRange.start c.in-ForRange.stop c.in-ForRange.body)

pub in_statement-returns-in-ForList : goal.in_statement-returns-in-ForList
in_statement-returns-in-ForList t c =
    grind (arith, least_append, typed_stmt_of c.args.s.now (kind.ForList c.in-ForList.targets c.in-ForList.e c.in-ForList.body) c.in-ForList.is, typed_act-ForList c.in-ForList.targets c.in-ForList.e c.in-ForList.body)

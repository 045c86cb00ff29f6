use Rattle.ir_builder_statements.proofs.Common.{arith, type_kept, BoolType}
use Rattle.ir_builder_statements.proofs.branch.end_arm.Goals as goal

pub patch-requires-clause-fits : goal.patch-requires-clause-fits
patch-requires-clause-fits c =
    let start = c.requires.start in
    let here = c.requires.here in
    let closes = c.in_ok-leave_by.ensures.closed in
    let next = c.here-next.ensures.number in
    (((start, omega arith), (omega arith, omega arith)), type_kept c.args.b.now c.leave_by.new.b c.args.test.condition.0 BoolType c.in_ok-leave_by.ensures.kept c.requires.flag)

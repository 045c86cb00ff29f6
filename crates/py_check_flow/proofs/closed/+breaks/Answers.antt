use Rattle.std.proofs.Common.{rules, ◌≡◌, true}
use Rattle.py_syntax.specs.Statements.{body_tree}
use Rattle.py_check_flow.specs.Closed.{breaks_suite}
use Rattle.py_check_flow.proofs.ArmLemmas.{arm_breaks, breaks_by_else}
use Rattle.py_check_flow.proofs.closed.+breaks.Goals as goal

pub breaks-returns-then-breaks_out : goal.breaks-returns-then-breaks_out
breaks-returns-then-breaks_out t c =
    let f : breaks_suite (body_tree c.arms-item.result.1) ≡ true = search (rules, c.breaks_out.ensures, c.as_slice.ensures) in
    arm_breaks c.args.s.now c.as_slice-arms.result.now c.in-If.other (rw c.as_slice-arms.ensures c.in-If.is) c.arms.body-index c.arms-item.result c.arms-test.true c.arms-item.is c.arms.invariant f

pub breaks-returns-after-arms : goal.breaks-returns-after-arms
breaks-returns-after-arms t c =
    let r : c.breaks_out-in-If.result ≡ breaks_suite (body_tree c.in-If.other) = search (rules, c.breaks_out-in-If.ensures, c.as_slice-in-If.ensures) in
    breaks_by_else c.args.s.now c.as_slice-arms.result.now c.in-If.other (rw c.as_slice-arms.ensures c.in-If.is) c.arms.body-index c.arms-test.false c.arms.invariant c.breaks_out-in-If.result r

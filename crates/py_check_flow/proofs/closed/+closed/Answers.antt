use Rattle.std.proofs.Common.{rules, ◌≡◌, false}
use Rattle.py_syntax.specs.Statements.{body_tree}
use Rattle.py_check_flow.specs.Closed.{is_closed}
use Rattle.py_check_flow.proofs.ArmLemmas.{open_arm, closes_by_else}
use Rattle.py_check_flow.proofs.closed.+closed.Goals as goal

pub closes-returns-then-not-is_closed : goal.closes-returns-then-not-is_closed
closes-returns-then-not-is_closed t c =
    let f : is_closed (body_tree c.arms-item.result.1) ≡ false = search (rules, c.is_closed.ensures, c.as_slice.ensures) in
    open_arm c.args.s.now c.as_slice-arms.result.now c.in-If.other (rw c.as_slice-arms.ensures c.in-If.is) c.arms.body-index c.arms-item.result c.arms-test.true c.arms-item.is c.arms.invariant f

pub closes-returns-after-arms : goal.closes-returns-after-arms
closes-returns-after-arms t c =
    let r : c.is_closed-in-If.result ≡ is_closed (body_tree c.in-If.other) = search (rules, c.is_closed-in-If.ensures, c.as_slice-in-If.ensures) in
    closes_by_else c.args.s.now c.as_slice-arms.result.now c.in-If.other (rw c.as_slice-arms.ensures c.in-If.is) c.arms.body-index c.arms-test.false c.arms.invariant c.is_closed-in-If.result r

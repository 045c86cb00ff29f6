use Rattle.std.proofs.Common.{◌≡◌, ◌∙◌, ◌+◌, length, sym, ap, subst, arith, get_or, true, false}
use Rattle.unset_tests.specs.Walk.{AreUnset}
use Rattle.unset_tests.proofs.Settling.{AreSettled, untested_settled, settled_more, all_settled}
use Rattle.unset_tests.proofs.sure.sure_tests.Goals as goal
use Rattle.unset_tests.proofs.sure.sure_tests.Goals.{then-is_tested+in_ok-marks, else-is_tested}

pub loop-r-preserved : goal.loop-r-preserved
loop-r-preserved c =
    let regs = c.args.regs.now in
    let blocks = c.args.blocks.now in
    let r = c.loop-r.r in
    elim c.if-is_tested.branch [
      | then-is_tested+in_ok-marks w ↦
          let marks = w.as_slice-then-is_tested.result.now in
          let unset = subst (AreUnset regs blocks r) (sym w.as_slice-then-is_tested.ensures.value) w.in_ok-marks.ensures in
          record {
            size = ap (λ v. length v.items) w.sure-is ∙ (w.settle.ensures.size ∙ c.loop-r.invariant.size);
            settled = subst (λ v. AreSettled regs blocks v.items (r + 1)) (sym w.sure-is)
                (settled_more regs blocks r c.loop-r-test.true marks unset c.loop-r.sure.items w.settle.new.sure.items w.settle.ensures.settled c.loop-r.invariant.settled);
          }
      | else-is_tested w ↦
          record {
            size = ap (λ v. length v.items) w.sure-is ∙ c.loop-r.invariant.size;
            settled = subst (λ v. AreSettled regs blocks v.items (r + 1)) (sym w.sure-is)
                (untested_settled regs blocks c.loop-r.sure.items r
                (λ k b at is. let g : true ≡ false = sym (c.in_ok-tested.ensures.tests k r b at is c.loop-r-test.true) ∙ (ap (λ xs. get_or xs r false) (sym c.as_slice.ensures.value) ∙ (sym c.is_marked-is_tested.ensures ∙ w.if-is_tested.false)) in absurd (cc))
                c.loop-r.invariant.settled);
          }
    ]

pub returns : goal.returns
returns c =
    let regs = c.args.regs.now in
    let blocks = c.args.blocks.now in
    let all : c.loop-r.r ≡ length c.args.regs.now = omega (arith, c.loop-r-test.false, c.loop-r.auto.r-end) in
    all_settled regs blocks c.loop-r.sure.items (subst (AreSettled regs blocks c.loop-r.sure.items) all c.loop-r.invariant.settled)

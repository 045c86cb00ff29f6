use Rattle.std.proofs.Common.{◌∙◌, ap, arith, get_or, false}
use Rattle.unset_tests.specs.Walk.{settled}
use Rattle.unset_tests.proofs.Walking.{there_within}
use Rattle.unset_tests.proofs.Marking.{set_size}
use Rattle.unset_tests.proofs.Settling.{settled_next}
use Rattle.unset_tests.proofs.sure.settle.Goals as goal

pub loop-k-preserved : goal.loop-k-preserved
loop-k-preserved c =
    let regs = c.args.regs.now in
    let blocks = c.args.blocks.now in
    let marks = c.args.marks.now in
    let k = c.loop-k.k in
    let block = c.index-blocks-k.result in
    let was = c.is_marked-was.result in
    let before = c.is_marked-was.ensures ∙ ap (λ z. get_or z k false) c.as_slice.ensures.value in
    let is = c.settled.ensures ∙ ap (λ m. settled regs c.args.r block m was) c.is_marked.ensures in
    record {
      size = set_size c.loop-k.sure.items k c.settled.result ∙ c.loop-k.invariant.size;
      settled = settled_next regs blocks c.args.r marks c.args.sure.now.items c.loop-k.sure.items k block c.settled.result was c.loop-k-test.true (c.loop-k.invariant.size ∙ c.requires) c.index-blocks-k.is before is c.loop-k.invariant.settled;
    }

pub returns-clause-settled : goal.returns-clause-settled
returns-clause-settled c k b at =
    let within = there_within c.args.blocks.now k b at in
    (c.loop-k.invariant.settled k b at).0 (omega (arith, within, c.loop-k-test.false))

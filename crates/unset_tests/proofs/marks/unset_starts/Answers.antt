use Rattle.std.proofs.Common.{subst}
use Rattle.unset_tests.specs.declared.marks.Followed.TheVariants.{Register}
use Rattle.unset_tests.specs.Walk.{AreUnset}
use Rattle.unset_tests.specs.Ways.{AreSpread}
use Rattle.unset_tests.proofs.Values.{if_ok}
use Rattle.unset_tests.proofs.Marking.{spread_unset}
use Rattle.unset_tests.proofs.marks.unset_starts.Goals as goal

pub returns : goal.returns
returns c =
    let regs = c.args.regs.now in
    let blocks = c.args.blocks.now in
    let r = c.args.r in
    let work = c.in_ok-work.work.items in
    if_ok c.spread.result (λ m. AreSpread regs blocks (Register r) work m.items) (λ m. AreUnset regs blocks r m.items)
    (λ m h. spread_unset regs blocks r c.requires.declared m.items (subst (λ w. AreSpread regs blocks (Register r) w m.items) c.in_ok-work.ensures h)) c.spread.ensures

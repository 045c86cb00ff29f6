use Rattle.ir_builder_expressions.proofs.Common.{extends_trans}
use Rattle.ir_builder_expressions.proofs.LinkLemmas.{begins_alike, begins_flag}
use Rattle.ir_builder_expressions.proofs.chain.meet_link.Goals as goal

pub turn-requires : goal.turn-requires
turn-requires c =
    let k = c.requires.begun in
    record { alike = begins_alike k.0 k.1 c.args.b.now c.args.link c.args.r k.2 k.3 c.requires.flag }

pub meet-requires-clause-alike : goal.meet-requires-clause-alike
meet-requires-clause-alike c =
    let k = c.requires.begun in
    let x = extends_trans k.1 c.args.b.now c.turn.new.b k.3 c.in_ok-end.ensures.kept in
    begins_alike k.0 k.1 c.turn.new.b c.args.link c.args.link.holds k.2 x (begins_flag k.0 k.1 c.turn.new.b c.args.link k.2 x)

pub meet-requires-clause-flag : goal.meet-requires-clause-flag
meet-requires-clause-flag c =
    let k = c.requires.begun in
    begins_flag k.0 k.1 c.turn.new.b c.args.link k.2 (extends_trans k.1 c.args.b.now c.turn.new.b k.3 c.in_ok-end.ensures.kept)

pub returns-clause-lined : goal.returns-clause-lined
returns-clause-lined c k i x other at = c.in_ok-end.ensures.lined k i x other (c.meet.ensures.lined k i x other at)

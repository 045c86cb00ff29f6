use Rattle.c_text.proofs.PartLemmas.{next_outside, stops_between}
use Rattle.c_text.proofs.part.behind_between.Goals as goal

pub returns-in_default : goal.returns-in_default
returns-in_default c =
    let n = rw c.in_default.is at c.in_ok-added.ensures in
    stops_between c.args.above c.args.piece.now n

pub returns : goal.returns
returns c =
    let k = rw c.in-Some.is at c.in_ok-added.ensures in
    next_outside c.args.above c.in-Some.added c.args.piece.now c.in_ok-part.part c.requires k c.in_ok-part.ensures

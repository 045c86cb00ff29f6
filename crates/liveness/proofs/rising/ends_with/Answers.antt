use Rattle.std.proofs.Common.{sym}
use Rattle.liveness.proofs.RisingLemmas.{last_among, no_last}
use Rattle.liveness.proofs.rising.ends_with.Goals as goal

pub returns-in-Some : goal.returns-in-Some
returns-in-Some c =
    last_among c.args.numbers.now c.args.number c.in-Some.last.now c.requires.rising c.requires.most (sym c.in-Some.ensures.value)

pub returns-in-None : goal.returns-in-None
returns-in-None c = no_last c.args.numbers.now c.args.number (sym c.in-None.ensures.value)

use Rattle.std.proofs.Common.{sym, ◌∙◌}
use Rattle.std.proofs.lemmas.Bool.{false≢true}
use Rattle.c_text.proofs.PartLemmas.{next_added, stops_inside}
use Rattle.c_text.proofs.part.behind_inside.Goals as goal

pub returns-in_default : goal.returns-in_default
returns-in_default c =
    let n = rw c.in_default.is at c.in_ok-added.ensures in
    stops_inside c.args.above c.args.begun c.args.piece.now c.requires.begun (λ q. false≢true (sym c.if-is.false ∙ c.is.ensures.1 q)) n.no_variable n.no_line

pub returns : goal.returns
returns c =
    let k = rw c.in-Some.is at c.in_ok-added.ensures in
    next_added c.args.above c.args.begun c.in_ok-grown.grown c.in-Some.added c.args.piece.now c.requires.above c.requires.begun k c.in_ok-grown.ensures

use Rattle.std.proofs.Common.{sym, ◌∙◌}
use Rattle.c_text.proofs.Bytes.{end_at, no_end_at}
use Rattle.c_text.proofs.word.up_to_end.Goals as goal

pub returns-in-Some-clause-finds : goal.returns-in-Some-clause-finds
returns-in-Some-clause-finds c = λ front rest no ends e.
    let p = end_at c.in-Some.place front rest c.args.bytes.now no ends e (sym c.place_of_end.ensures.value ∙ c.in-Some.is) in
    (c.split_at.ensures.front ∙ p.0, c.split_at.ensures.back ∙ p.1)

pub returns-in-None-clause-finds : goal.returns-in-None-clause-finds
returns-in-None-clause-finds c = λ front rest no ends e. absurd (no_end_at front rest c.args.bytes.now no ends e (sym c.place_of_end.ensures.value ∙ c.in-None.is))

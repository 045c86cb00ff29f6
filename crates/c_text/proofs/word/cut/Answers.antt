use Rattle.std.proofs.Common.{sym, ◌∙◌}
use Rattle.c_text.proofs.Bytes.{cut_is, not_found}
use Rattle.c_text.proofs.word.cut.Goals as goal

pub returns-in-Some : goal.returns-in-Some
returns-in-Some c = cut_is c.args.stop c.in-Some.place c.args.bytes.now (sym c.place_of.ensures.value ∙ c.in-Some.is)

pub returns-in-None : goal.returns-in-None
returns-in-None c = not_found c.args.stop 0 c.args.bytes.now (sym c.place_of.ensures.value ∙ c.in-None.is)

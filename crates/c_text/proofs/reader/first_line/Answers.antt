use Rattle.std.proofs.Common.{sym, ◌∙◌}
use Rattle.c_text.proofs.Bytes.{not_found}
use Rattle.c_text.proofs.ReadLemmas.{first_line_at}
use Rattle.c_text.proofs.reader.first_line.Goals as goal

pub returns-in-Some : goal.returns-in-Some
returns-in-Some c = first_line_at c.in-Some.place c.args.text.now (sym c.place_of.ensures.value ∙ c.in-Some.is)

pub returns-in-None : goal.returns-in-None
returns-in-None c = not_found 10 0 c.args.text.now (sym c.place_of.ensures.value ∙ c.in-None.is)

use Rattle.std.proofs.Common.{◌∙◌, sym}
use Rattle.std.proofs.lemmas.List.{append_cancel_left}
use Rattle.c_text.proofs.word.past.Goals as goal

pub returns-in-Some-clause-some : goal.returns-in-Some-clause-some
returns-in-Some-clause-some c = λ rest e. append_cancel_left c.args.prefix.now c.in-Some.rest.now rest (sym c.in-Some.ensures ∙ e)

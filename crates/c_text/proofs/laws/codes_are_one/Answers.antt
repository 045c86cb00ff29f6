use Rattle.c_text.proofs.OneText.{codes_are_one}
use Rattle.c_text.proofs.laws.codes_are_one.Goals as goal

pub returns : goal.returns
returns c = codes_are_one

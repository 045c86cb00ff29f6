use Rattle.value_core.proofs.ShiftLemmas.{one_shifted}
use Rattle.value_core.proofs.int.power_of_two.Goals as goal

pub returns : goal.returns
returns c = one_shifted c.args.n c.requires

use Rattle.value_core.proofs.ValueLemmas.{listed-tupled, tupled-listed}
use Rattle.value_core.proofs.laws.parts_are_a_list.Goals as goal

pub returns : goal.returns
returns c = (listed-tupled, tupled-listed)

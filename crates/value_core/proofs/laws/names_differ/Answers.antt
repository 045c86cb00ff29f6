use Rattle.value_core.proofs.ValueLemmas.{names_differ}
use Rattle.value_core.proofs.laws.names_differ.Goals as goal

pub returns : goal.returns
returns c = names_differ

use Rattle.value_core.proofs.RestLemmas.{rest_near}
use Rattle.value_core.proofs.laws.rest_is_near.Goals as goal

pub returns : goal.returns
returns c = rest_near

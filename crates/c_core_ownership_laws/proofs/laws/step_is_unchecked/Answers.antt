use Rattle.c_core_ownership_laws.proofs.Alike.{step_alike}
use Rattle.c_core_ownership_laws.proofs.laws.step_is_unchecked.Goals as goal

pub returns : goal.returns
returns c = step_alike

use Rattle.ir_core.proofs.ModeLemmas.{fit_is_calm}
use Rattle.ir_core.proofs.laws.fit_is_calm.Goals as goal

pub returns : goal.returns
returns c = fit_is_calm

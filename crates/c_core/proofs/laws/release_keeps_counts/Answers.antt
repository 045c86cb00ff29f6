use Rattle.c_core.specs.Machine.{refs_in}
use Rattle.c_core.proofs.ReleaseLemmas.{release_keeps}
use Rattle.c_core.proofs.laws.release_keeps_counts.Goals as goal

pub returns : goal.returns
returns c = release_keeps refs_in

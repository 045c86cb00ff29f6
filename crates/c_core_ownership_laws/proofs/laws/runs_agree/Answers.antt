use Rattle.c_core_ownership_laws.proofs.AlikeRuns as proof
use Rattle.c_core_ownership_laws.proofs.laws.runs_agree.Goals as goal

pub returns : goal.returns
returns c = proof.runs_agree

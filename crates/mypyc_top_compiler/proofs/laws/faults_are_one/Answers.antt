use Rattle.mypyc_top_compiler.proofs.FaultLemmas.{faults_are_one}
use Rattle.mypyc_top_compiler.proofs.laws.faults_are_one.Goals as goal

pub returns : goal.returns
returns c = faults_are_one

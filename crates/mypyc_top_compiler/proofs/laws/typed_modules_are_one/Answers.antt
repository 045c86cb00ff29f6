use Rattle.mypyc_top_compiler.proofs.FaultLemmas.{typed_modules_are_one}
use Rattle.mypyc_top_compiler.proofs.laws.typed_modules_are_one.Goals as goal

pub returns : goal.returns
returns c = typed_modules_are_one

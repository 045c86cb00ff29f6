use Rattle.ir_builder_supported.proofs.ModuleLemmas.{compiled_suits}
use Rattle.ir_builder_supported.proofs.laws.compiled_suits.Goals as goal

pub returns : goal.returns
returns c = compiled_suits

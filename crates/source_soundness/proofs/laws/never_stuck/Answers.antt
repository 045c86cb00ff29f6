use Rattle.source_soundness.proofs.Whole.{none_is_stuck}
use Rattle.source_soundness.proofs.laws.never_stuck.Goals as goal

pub returns : goal.returns
returns c = none_is_stuck

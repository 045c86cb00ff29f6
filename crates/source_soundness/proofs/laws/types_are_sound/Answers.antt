use Rattle.source_soundness.proofs.Whole.{types_sound}
use Rattle.source_soundness.proofs.laws.types_are_sound.Goals as goal

pub returns : goal.returns
returns c = types_sound

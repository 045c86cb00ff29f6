use Rattle.source_soundness.proofs.Places.{place_below}
use Rattle.source_soundness.proofs.laws.attributes_keep_places.Goals as goal

pub returns : goal.returns
returns c = place_below

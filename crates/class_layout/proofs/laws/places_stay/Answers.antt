use Rattle.class_layout.proofs.LawLemmas.{places_stay}
use Rattle.class_layout.proofs.laws.places_stay.Goals as goal

pub returns : goal.returns
returns c = places_stay

use Rattle.class_layout.proofs.LawLemmas.{places_are_numbered}
use Rattle.class_layout.proofs.laws.places_are_numbered.Goals as goal

pub returns : goal.returns
returns c = places_are_numbered

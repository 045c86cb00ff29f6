use Rattle.class_layout.proofs.LawLemmas.{names_have_places}
use Rattle.class_layout.proofs.laws.names_have_places.Goals as goal

pub returns : goal.returns
returns c = names_have_places

use Rattle.class_layout.proofs.LawLemmas.{lists_are_whole}
use Rattle.class_layout.proofs.laws.lists_are_whole.Goals as goal

pub returns : goal.returns
returns c = lists_are_whole

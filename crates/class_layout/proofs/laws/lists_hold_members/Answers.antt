use Rattle.class_layout.proofs.LawLemmas.{lists_hold_members}
use Rattle.class_layout.proofs.laws.lists_hold_members.Goals as goal

pub returns : goal.returns
returns c = lists_hold_members

use Rattle.ir_builder_choices.proofs.Common.{ok_join}
use Rattle.ir_builder_choices.proofs.BuildLemmas.{brings_by}
use Rattle.ir_builder_choices.proofs.choice.turn.Goals as goal

pub returns-clause-brings : goal.returns-clause-brings
returns-clause-brings c = ok_join _ _ _ _ (λ k number closed. brings_by _ _ _ _ _ k c.in_ok-push.ensures.pushed number closed) c.close.ensures.number c.close.ensures.closed

use Rattle.ir_builder_choices.proofs.BuildLemmas.{opens_by}
use Rattle.ir_builder_choices.proofs.choice.begin.Goals as goal

pub returns-clause-opens : goal.returns-clause-opens
returns-clause-opens c = opens_by _ _ _ _ _ _ _ c.in_ok-target.ensures.declared c.in_ok-test.ensures.number c.in_ok-test.ensures.closed c.here-first.ensures.number

use Rattle.std.proofs.Common.{subst}
use Rattle.std.specs.Prelude.{IfOk}
use Rattle.c_runner_deeds.specs.Deeds.{IsOurDeed}
use Rattle.c_runner_objects.proofs.items.lent.Goals as goal

pub returns-in-Ok-clause-ours : goal.returns-in-Ok-clause-ours
returns-in-Ok-clause-ours c = λ cells own. c.lend.ensures.ours cells (subst (λ r. IfOk r (IsOurDeed cells)) c.in-Ok.is own)

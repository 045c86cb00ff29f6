use Rattle.c_runner_deeds.proofs.DeedLemmas.{lent_other}
use Rattle.c_runner_objects.proofs.items.lend.Goals as goal

pub returns-in_default-clause-done : goal.returns-in_default-clause-done
returns-in_default-clause-done c = lent_other c.args.deed c.in_default.not-Shares

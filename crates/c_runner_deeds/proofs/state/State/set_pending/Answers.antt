use Rattle.c_runner_deeds.proofs.OursLemmas.{with_pending}
use Rattle.std.proofs.Common.{Some}
use Rattle.c_runner_deeds.proofs.state.State.set_pending.Goals as goal

pub invariant_of-self : goal.invariant_of-self
invariant_of-self c = record {
  ours = with_pending c.args.self.now.cells c.args.self.now.top.vars c.args.self.now.below c.args.self.now.globals c.args.self.now.pending (Some c.in-Ok.found.0) c.args.self.now.ours (c.in-Ok.ensures.ours, tt);
}

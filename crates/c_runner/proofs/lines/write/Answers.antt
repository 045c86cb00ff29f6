use Rattle.std.proofs.Common.{refl, subst}
use Rattle.cell_heap.specs.Ours.{AreOurs}
use Rattle.cell_heap.proofs.OursLemmas.{keeps_itself}
use Rattle.c_runner_deeds.specs.Ours.{maybe_refs}
use Rattle.c_runner_deeds.proofs.OursLemmas.{target_own}
use Rattle.c_runner.proofs.lines.write.Goals as goal

pub invariant_of-state : goal.invariant_of-state
invariant_of-state c = record {
  ours = target_own c.args.state.now c.args.state.now.cells c.args.target c.in-Some.word _ _ (keeps_itself c.args.state.now.cells) refl c.set_target.ensures (subst (λ o. AreOurs c.args.state.now.cells (maybe_refs o)) c.in-Some.is c.requires.ours);
}

use Rattle.std.proofs.Common.{ap, sym, subst}
use Rattle.c_runner_deeds.specs.declared.state.Frame.{Frame}
use Rattle.cell_heap.specs.Contents.{words_refs}
use Rattle.cell_heap.specs.Ours.{AreOurs}
use Rattle.c_runner.proofs.OwnLemmas.{pushed_own}
use Rattle.c_runner.proofs.frames.wait_for.Goals as goal

pub invariant_of-state : goal.invariant_of-state
invariant_of-state c = record {
  ours = pushed_own c.args.state.now c.replace-caller.new.dest.vars c.replace-caller.result c.push.new.self c.push.result
      (subst (λ (f : Frame). AreOurs c.args.state.now.cells (words_refs f.vars)) (sym c.replace-caller.ensures.after) c.requires.ours)
      (ap (λ (f : Frame). f.vars) c.replace-caller.ensures.value) c.push.ensures.ok c.push.ensures.err;
}

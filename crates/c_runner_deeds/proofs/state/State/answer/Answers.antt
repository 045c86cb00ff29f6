use Rattle.c_runner_deeds.specs.States.{seen}
use Rattle.c_runner_deeds.proofs.StateLemmas.{answered}
use Rattle.c_runner_deeds.proofs.OursLemmas.{target_own}
use Rattle.cell_heap.proofs.OursLemmas.{keeps_itself}
use Rattle.std.proofs.Common.{refl, subst}
use Rattle.cell_heap.specs.Ours.{AreOurs}
use Rattle.c_runner_deeds.specs.Ours.{maybe_refs}
use Rattle.c_runner_deeds.proofs.state.State.answer.Goals as goal

pub returns-in-Some : goal.returns-in-Some
returns-in-Some c = λ rest. answered rest (seen c.args.self.now) c.args.target c.args.word c.in-Some.word _ c.in-Some.is c.set_target.ensures

pub invariant_of-self : goal.invariant_of-self
invariant_of-self c = record {
  ours = target_own c.args.self.now c.args.self.now.cells c.args.target c.in-Some.word _ _ (keeps_itself c.args.self.now.cells) refl c.set_target.ensures (subst (λ o. AreOurs c.args.self.now.cells (maybe_refs o)) c.in-Some.is c.requires.ours);
}

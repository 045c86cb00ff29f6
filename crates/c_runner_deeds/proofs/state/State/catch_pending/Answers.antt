use Rattle.c_runner_deeds.specs.States.{seen}
use Rattle.c_runner_deeds.proofs.ExceptionLemmas.{caught_is}
use Rattle.c_runner_deeds.proofs.OursLemmas.{raised_own, pending_own}
use Rattle.cell_heap.proofs.OursLemmas.{keeps_itself}
use Rattle.cell_heap.specs.declared.word.Word.TheVariants as heap
use Rattle.std.proofs.Common.{refl, None}
use Rattle.c_runner_deeds.proofs.state.State.catch_pending.Goals as goal

pub returns : goal.returns
returns c =
    λ rest. caught_is rest (seen c.args.self.now) c.args.target c.in-Some.key c.number_of.result _ _ c.in-Some.is c.number_of.ensures c.in_ok-add.ensures c.set_target.ensures

pub invariant_of-self-2 : goal.invariant_of-self-2
invariant_of-self-2 c = record {
  ours = raised_own c.args.self.now c.args.self.now.cells c.args.target (heap.Cell c.in-Some.key) _ _ None (keeps_itself c.args.self.now.cells) refl c.set_target.ensures (pending_own c.args.self.now c.in-Some.key c.in-Some.is, tt) tt;
}

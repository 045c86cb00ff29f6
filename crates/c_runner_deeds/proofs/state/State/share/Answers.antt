use Rattle.c_runner_deeds.specs.States.{seen}
use Rattle.c_runner_deeds.proofs.GlobalLemmas.{word_shared}
use Rattle.c_runner_deeds.proofs.OursLemmas.{target_own, frame_own}
use Rattle.cell_heap.proofs.OursLemmas.{are_still}
use Rattle.c_runner_deeds.specs.Ours.{word_refs}
use Rattle.c_runner_deeds.proofs.state.State.share.Goals as goal

pub returns : goal.returns
returns c =
    λ rest. word_shared rest (seen c.args.self.now) c.args.target c.args.word _ _ _ c.take_word.ensures.taken c.in_ok-own.ensures.owned c.set_target.ensures

pub invariant_of-self : goal.invariant_of-self
invariant_of-self c = record { ours = frame_own c.args.self.now c.take_word.new.cells c.own.new.self.vars c.take_word.ensures.kept c.own.ensures.vars }

pub invariant_of-self-2 : goal.invariant_of-self-2
invariant_of-self-2 c = record {
  ours = target_own c.args.self.now c.take_word.new.cells c.args.target c.args.word c.own.new.self _ c.take_word.ensures.kept c.own.ensures.vars c.set_target.ensures (are_still c.args.self.now.cells c.take_word.new.cells (word_refs c.args.word) c.take_word.ensures.kept c.requires.ours);
}

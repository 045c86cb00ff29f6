use Rattle.c_core.specs.Machine.{ObjectCell}
use Rattle.cell_heap.specs.Contents.{number_of}
use Rattle.c_runner_deeds.specs.States.{seen}
use Rattle.c_runner_deeds.proofs.StolenLemmas.{left_small, cell_boxed}
use Rattle.std.proofs.Common.{ap, ◌∙◌}
use Rattle.c_runner_deeds.proofs.OursLemmas.{target_own, frame_own}
use Rattle.cell_heap.proofs.OursLemmas.{ours_still, keeps_next}
use Rattle.cell_heap.specs.declared.word.Word.TheVariants as heap
use Rattle.cell_heap.specs.Contents.{name_of}
use Rattle.c_runner_deeds.specs.declared.state.Frame.{Frame}
use Rattle.c_runner_deeds.proofs.state.State.box_cell.Goals as goal

pub own-requires : goal.own-requires
own-requires c = rw c.lose.ensures (left_small (seen c.args.self.now) (ObjectCell (number_of c.args.key)) c.requires.small)

pub returns : goal.returns
returns c =
    λ rest. cell_boxed rest (seen c.args.self.now) c.args.target c.args.key _ _ _ _ _ c.lose.ensures c.take_word.ensures.taken c.in_ok-own.ensures.owned c.give_word.ensures.given c.set_target.ensures

pub invariant_of-self : goal.invariant_of-self
invariant_of-self c = record { ours = frame_own c.args.self.now c.take_word.new.cells c.own.new.self.vars c.take_word.ensures.kept (c.own.ensures.vars ∙ ap (λ (f : Frame). f.vars) c.lose.ensures) }

pub invariant_of-self-2 : goal.invariant_of-self-2
invariant_of-self-2 c = record {
  ours = target_own c.args.self.now c.give_word.new.cells c.args.target (heap.Cell c.args.key) c.own.new.self _ (keeps_next c.args.self.now.cells c.take_word.new.cells c.give_word.new.cells c.take_word.ensures.kept c.give_word.ensures.kept) (c.own.ensures.vars ∙ ap (λ (f : Frame). f.vars) c.lose.ensures) c.set_target.ensures (ours_still c.args.self.now.cells c.give_word.new.cells (name_of c.args.key) (keeps_next c.args.self.now.cells c.take_word.new.cells c.give_word.new.cells c.take_word.ensures.kept c.give_word.ensures.kept) c.requires.ours, tt);
}

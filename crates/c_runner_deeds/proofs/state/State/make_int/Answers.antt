use Rattle.std.proofs.Common.{◌∙◌, ap}
use Rattle.std.specs.Int.{w128}
use Rattle.std.proofs.lemmas.Int.{to_z-of_z}
use Rattle.c_core.specs.Cells.{make}
use Rattle.c_core.specs.Machine.{IntCell}
use Rattle.c_runner_deeds.specs.States.{seen}
use Rattle.c_runner_deeds.proofs.DeedLemmas.{int_made}
use Rattle.c_runner_deeds.proofs.OursLemmas.{target_own, frame_own}
use Rattle.cell_heap.specs.declared.word.Word.TheVariants as heap
use Rattle.std.proofs.Common.{refl}
use Rattle.c_runner_deeds.proofs.state.State.make_int.Goals as goal

pub returns : goal.returns
returns c =
    λ rest. int_made rest (seen c.args.self.now) c.args.target c.args.number c.in_ok-key.key c.number_of.result _ _ _ c.number_of.ensures c.in_ok-key.ensures.key (c.in_ok-key.ensures.made ∙ ap (λ n. make (IntCell n) (seen c.args.self.now).cells) (to_z-of_z w128 c.args.number c.ranges.number)) c.in_ok-add.ensures c.set_target.ensures

pub invariant_of-self-in-Break-branch-2 : goal.invariant_of-self-in-Break-branch-2
invariant_of-self-in-Break-branch-2 c = record { ours = frame_own c.args.self.now c.make.new.self c.args.self.now.top.vars c.in_ok-key.ensures.kept refl }

pub invariant_of-self-2 : goal.invariant_of-self-2
invariant_of-self-2 c = record {
  ours = target_own c.args.self.now c.make.new.self c.args.target (heap.Big c.in_ok-key.key) _ _ c.in_ok-key.ensures.kept refl c.set_target.ensures (c.in_ok-key.ensures.ours, tt);
}

use Rattle.std.proofs.Common.{arith}
use Rattle.cell_heap.specs.Contents.{content_of}
use Rattle.c_runner_deeds.specs.States.{seen}
use Rattle.c_runner_deeds.proofs.StateLemmas.{cell_made}
use Rattle.c_runner_deeds.proofs.OursLemmas.{target_own, frame_own}
use Rattle.cell_heap.specs.declared.word.Word.TheVariants as heap
use Rattle.std.proofs.Common.{refl}
use Rattle.c_runner_deeds.proofs.state.State.make_cell.Goals as goal

pub add-requires : goal.add-requires
add-requires c = omega (arith, c.requires.small.ledgers c.number_of.result)

pub returns : goal.returns
returns c =
    λ rest. cell_made rest (seen c.args.self.now) c.args.target (content_of c.args.content) c.in_ok-key.key c.number_of.result _ _ _ c.number_of.ensures c.in_ok-key.ensures.key c.in_ok-key.ensures.made c.in_ok-add.ensures c.set_target.ensures

pub invariant_of-self-in-Break-branch-2 : goal.invariant_of-self-in-Break-branch-2
invariant_of-self-in-Break-branch-2 c = record { ours = frame_own c.args.self.now c.make.new.self c.args.self.now.top.vars c.in_ok-key.ensures.kept refl }

pub invariant_of-self-2 : goal.invariant_of-self-2
invariant_of-self-2 c = record {
  ours = target_own c.args.self.now c.make.new.self c.args.target (heap.Cell c.in_ok-key.key) _ _ c.in_ok-key.ensures.kept refl c.set_target.ensures (c.in_ok-key.ensures.ours, tt);
}

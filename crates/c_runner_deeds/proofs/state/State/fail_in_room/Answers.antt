use Rattle.value_core.specs.Exceptions.{thrown}
use Rattle.c_runner_deeds.specs.States.{seen}
use Rattle.c_runner_deeds.proofs.ExceptionLemmas.{failed}
use Rattle.c_runner_deeds.proofs.OursLemmas.{raised_own}
use Rattle.cell_heap.proofs.OursLemmas.{are_still}
use Rattle.std.proofs.Common.{refl, Some}
use Rattle.c_runner_deeds.specs.Ours.{word_refs}
use Rattle.c_runner_deeds.proofs.state.State.fail_in_room.Goals as goal

pub returns : goal.returns
returns c =
    λ rest. failed rest (seen c.args.self.now) c.args.target c.args.word (thrown c.args.class c.args.text) c.in_ok-key.key _ _ c.in_ok-key.ensures.key c.in_ok-key.ensures.made c.set_target.ensures

pub invariant_of-self-2 : goal.invariant_of-self-2
invariant_of-self-2 c = record {
  ours = raised_own c.args.self.now c.make.new.self c.args.target c.args.word _ _ (Some c.in_ok-key.key) c.in_ok-key.ensures.kept refl c.set_target.ensures (are_still c.args.self.now.cells c.make.new.self (word_refs c.args.word) c.in_ok-key.ensures.kept c.requires.ours) (c.in_ok-key.ensures.ours, tt);
}

use Rattle.std.proofs.Common.{refl, sym, ◌∙◌, ap, subst, length, arith}
use Rattle.std.specs.Option.{option_map}
use Rattle.cell_heap.specs.Contents.{number_of, word_of}
use Rattle.cell_heap.specs.Numbered.{numbered}
use Rattle.cell_heap.specs.Words.{without_last}
use Rattle.cell_heap.proofs.CellLemmas.{length-refill_by}
use Rattle.c_runner_deeds.specs.States.{seen}
use Rattle.c_runner_objects.proofs.ListLemmas.{item_popped, fails_empty}
use Rattle.cell_heap.specs.Ours.{AreOurs}
use Rattle.c_runner_deeds.specs.Ours.{maybe_refs}
use Rattle.c_runner_deeds.proofs.OursLemmas.{target_own, frame_own}
use Rattle.c_runner_objects.proofs.lists.take_item.Goals as goal

pub returns-in_ok-text-in-Ok-None : goal.returns-in_ok-text-in-Ok-None
returns-in_ok-text-in-Ok-None c =
    fails_empty (seen c.args.state.now) c.args.target c.args.key _ c.in_ok-text-in-Ok-None.text (seen c.fail_in_room.new.self) c.fail_in_room.result c.requires.list c.in-Ok-None.ensures.ok (sym (ap (option_map word_of) c.in-Ok-None.field-0-is) ∙ c.in-Ok-None.ensures.last) c.in_ok-text-in-Ok-None.ensures c.fail_in_room.ensures

pub returns-in_ok-own-in-Ok-Some : goal.returns-in_ok-own-in-Ok-Some
returns-in_ok-own-in-Ok-Some c =
    λ rest. item_popped rest (seen c.args.state.now) c.args.target c.args.key c.in-Ok-Some.word _ _ _ c.requires.list c.in-Ok-Some.ensures.ok (sym (ap (option_map word_of) c.in-Ok-Some.field-0-is) ∙ c.in-Ok-Some.ensures.last) c.in_ok-own-in-Ok-Some.ensures.owned c.set_target.ensures

pub invariant_of-state-in-Ok-Some : goal.invariant_of-state-in-Ok-Some
invariant_of-state-in-Ok-Some c = record {
  ours = target_own c.args.state.now c.pop_word.new.self c.args.target c.in-Ok-Some.word c.own.new.self c.set_target.new.self
      c.in-Ok-Some.ensures.kept c.own.ensures.vars c.set_target.ensures
      (subst (λ o. AreOurs c.pop_word.new.self (maybe_refs o)) c.in-Ok-Some.field-0-is c.in-Ok-Some.ensures.ours);
}

pub invariant_of-state-in-Ok-None : goal.invariant_of-state-in-Ok-None
invariant_of-state-in-Ok-None c = record { ours = frame_own c.args.state.now c.pop_word.new.self c.args.state.now.top.vars c.in-Ok-None.ensures.kept refl }

pub fail_in_room-requires-clause-room : goal.fail_in_room-requires-clause-room
fail_in_room-requires-clause-room c =
    omega (arith, c.requires.small.made, ap length c.in-Ok-None.ensures.ok, length-refill_by without_last (number_of c.args.key) (numbered c.args.state.now.cells))

pub invariant_of-state-in-Break-branch-2 : goal.invariant_of-state-in-Break-branch-2
invariant_of-state-in-Break-branch-2 c = record { ours = frame_own c.args.state.now c.pop_word.new.self c.own.new.self.vars c.in-Ok-Some.ensures.kept c.own.ensures.vars }

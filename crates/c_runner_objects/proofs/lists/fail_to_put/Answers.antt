use Rattle.std.proofs.Common.{length, arith, ap, [], ◌∷◌, Some}
use Rattle.value_core.specs.declared.exception.ExcClass.TheVariants.{IndexError}
use Rattle.c_core.specs.Machine.{CharWord, set_refs}
use Rattle.c_runner_deeds.specs.States.{held_of, seen}
use Rattle.c_runner_deeds.proofs.StolenLemmas.{length_released}
use Rattle.c_runner_objects.proofs.ListLemmas.{fails_released}
use Rattle.c_runner_deeds.proofs.OursLemmas.{frame_own}
use Rattle.c_runner_objects.proofs.OwnLemmas.{vars_kept}
use Rattle.c_runner_objects.proofs.lists.fail_to_put.Goals as goal

pub returns : goal.returns
returns c =
    fails_released (seen c.args.state.now) c.args.target c.args.word (CharWord 2) IndexError c.in_ok-text.text _ _ _ (seen c.fail_in_room.new.self) c.fail_in_room.result c.lose.ensures c.give_word.ensures.given c.in_ok-text.ensures c.fail_in_room.ensures

pub fail_in_room-requires-clause-room : goal.fail_in_room-requires-clause-room
fail_in_room-requires-clause-room c =
    omega (arith, c.requires.small.made, ap length c.give_word.ensures.given, length_released (seen c.args.state.now).cells (set_refs (held_of (Some c.args.word) ∷ [])))

pub invariant_of-state : goal.invariant_of-state
invariant_of-state c = record {
  ours = frame_own c.args.state.now c.give_word.new.cells c.lose.new.self.vars c.give_word.ensures.kept (vars_kept c.args.state.now.top c.lose.new.self _ c.lose.ensures);
}

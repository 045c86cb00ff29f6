use Rattle.std.proofs.Common.{refl}
use Rattle.c_runner_deeds.specs.States.{seen}
use Rattle.c_runner_objects.proofs.ListLemmas.{item_written}
use Rattle.cell_heap.proofs.OursLemmas.{keeps_next}
use Rattle.c_runner_deeds.proofs.OursLemmas.{target_own}
use Rattle.c_runner_objects.proofs.OwnLemmas.{vars_kept}
use Rattle.c_runner_objects.proofs.lists.put_item.Goals as goal

pub returns-in-Ok : goal.returns-in-Ok
returns-in-Ok c =
    λ rest. item_written rest (seen c.args.state.now) c.args.target c.args.key c.args.place c.args.word _ c.in-Ok.held _ _ _ _ c.requires.list c.requires.within refl c.in-Ok.ensures.old c.in-Ok.ensures.ok c.give_word.ensures.given c.lose.ensures c.set_target.ensures

pub invariant_of-state-in-Ok : goal.invariant_of-state-in-Ok
invariant_of-state-in-Ok c = record {
  ours = target_own c.args.state.now c.give_word.new.cells c.args.target _ c.lose.new.self c.set_target.new.self
      (keeps_next c.args.state.now.cells c.set_word.new.self c.give_word.new.cells c.in-Ok.ensures.kept c.give_word.ensures.kept)
      (vars_kept c.args.state.now.top c.lose.new.self _ c.lose.ensures) c.set_target.ensures tt;
}

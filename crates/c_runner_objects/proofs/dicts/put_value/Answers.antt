use Rattle.c_runner_deeds.specs.States.{seen}
use Rattle.c_runner_objects.proofs.DictLemmas.{value_put}
use Rattle.std.proofs.Common.{◌∙◌}
use Rattle.cell_heap.proofs.OursLemmas.{keeps_next, are_still}
use Rattle.c_runner_deeds.proofs.OursLemmas.{target_own}
use Rattle.c_runner_objects.proofs.OwnLemmas.{vars_kept}
use Rattle.c_runner_objects.proofs.dicts.put_value.Goals as goal

pub returns-in-Ok : goal.returns-in-Ok
returns-in-Ok c =
    λ rest. value_put rest (seen c.args.state.now) c.args.target c.args.dict c.args.place c.args.key c.args.word c.in-Ok.held _ _ _ _ _ _ c.requires.dict c.requires.within c.in-Ok.ensures.old c.in-Ok.ensures.ok c.give_word.ensures.given c.give_word-in-Ok.ensures.given c.lose.ensures c.lose-in-Ok.ensures c.set_target.ensures

pub invariant_of-state-in-Ok : goal.invariant_of-state-in-Ok
invariant_of-state-in-Ok c = record {
  ours = target_own c.args.state.now c.give_word-in-Ok.new.cells c.args.target _ c.lose-in-Ok.new.self c.set_target.new.self
      (keeps_next c.args.state.now.cells c.give_word.new.cells c.give_word-in-Ok.new.cells
      (keeps_next c.args.state.now.cells c.set_word.new.self c.give_word.new.cells c.in-Ok.ensures.kept c.give_word.ensures.kept) c.give_word-in-Ok.ensures.kept)
      (vars_kept c.lose.new.self c.lose-in-Ok.new.self _ c.lose-in-Ok.ensures ∙ vars_kept c.args.state.now.top c.lose.new.self _ c.lose.ensures) c.set_target.ensures tt;
}

pub give_word-requires : goal.give_word-requires
give_word-requires c = are_still c.args.state.now.cells c.set_word.new.self _ c.in-Ok.ensures.kept c.requires.key

pub give_word-requires-in-Ok : goal.give_word-requires-in-Ok
give_word-requires-in-Ok c = are_still c.set_word.new.self c.give_word.new.cells _ c.give_word.ensures.kept c.in-Ok.ensures.ours

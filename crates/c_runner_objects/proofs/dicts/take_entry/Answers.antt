use Rattle.std.proofs.Common.{refl, sym, ap, ◌∙◌}
use Rattle.std.specs.Option.{option_map}
use Rattle.cell_heap.specs.Contents.{pair_of}
use Rattle.c_runner_deeds.specs.States.{seen}
use Rattle.c_runner_objects.proofs.DictLemmas.{pair_out, pair_is_there}
use Rattle.cell_heap.proofs.OursLemmas.{keeps_next, are_still}
use Rattle.c_runner_deeds.proofs.OursLemmas.{target_own}
use Rattle.c_runner_objects.proofs.OwnLemmas.{first_own, second_own}
use Rattle.c_runner_objects.proofs.dicts.take_entry.Goals as goal

pub returns-in-Ok-None : goal.returns-in-Ok-None
returns-in-Ok-None c =
    absurd (pair_is_there (seen c.args.state.now) c.args.dict c.args.place c.requires.dict c.requires.within (sym (ap (option_map pair_of) c.in-Ok-None.field-0-is) ∙ c.in-Ok-None.ensures.pair))

pub returns-in-Ok-Some : goal.returns-in-Ok-Some
returns-in-Ok-Some c =
    λ rest. pair_out rest (seen c.args.state.now) c.args.target c.args.dict c.args.place c.in-Ok-Some.key c.in-Ok-Some.word _ _ _ _ _ c.requires.dict refl (sym (ap (option_map pair_of) c.in-Ok-Some.field-0-is) ∙ c.in-Ok-Some.ensures.pair) c.in-Ok-Some.ensures.ok c.give_word.ensures.given c.give_word-in-Ok-Some.ensures.given c.set_target.ensures

pub invariant_of-state-in-Ok-Some : goal.invariant_of-state-in-Ok-Some
invariant_of-state-in-Ok-Some c = record {
  ours = target_own c.args.state.now c.give_word-in-Ok-Some.new.cells c.args.target _ c.args.state.now.top c.set_target.new.self
      (keeps_next c.args.state.now.cells c.give_word.new.cells c.give_word-in-Ok-Some.new.cells
      (keeps_next c.args.state.now.cells c.dict_take.new.self c.give_word.new.cells c.in-Ok-Some.ensures.kept c.give_word.ensures.kept) c.give_word-in-Ok-Some.ensures.kept)
      refl c.set_target.ensures tt;
}

pub give_word-requires : goal.give_word-requires
give_word-requires c = first_own c.dict_take.new.self _ c.in-Ok-Some.key c.in-Ok-Some.word c.in-Ok-Some.field-0-is c.in-Ok-Some.ensures.ours

pub give_word-requires-in-Ok-Some : goal.give_word-requires-in-Ok-Some
give_word-requires-in-Ok-Some c =
    are_still c.dict_take.new.self c.give_word.new.cells _ c.give_word.ensures.kept
    (second_own c.dict_take.new.self _ c.in-Ok-Some.key c.in-Ok-Some.word c.in-Ok-Some.field-0-is c.in-Ok-Some.ensures.ours)

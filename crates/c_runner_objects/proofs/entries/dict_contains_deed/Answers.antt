use Rattle.std.proofs.Common.{ap, ◌∙◌, ℕ, List, Ok}
use Rattle.std.specs.Prelude.{map}
use Rattle.c_core.specs.Machine as machine
use Rattle.c_core.specs.Step.{Says, truth_word}
use Rattle.c_runner_objects.specs.Dicts.{pairs_at}
use Rattle.cell_heap.specs.Contents.{number_of, word_of}
use Rattle.c_runner_deeds.specs.States.{seen}
use Rattle.c_runner_deeds.specs.declared.deed.Deed.TheVariants as deed
use Rattle.c_runner_deeds.proofs.PlainLemmas.{plain_effect, plain_truth}
use Rattle.c_runner_objects.proofs.DictLemmas.{dict_there, key_there, contains_done}
use Rattle.c_runner_objects.proofs.entries.dict_contains_deed.Goals as goal

pub key_place-requires : goal.key_place-requires
key_place-requires c =
    let cells = (seen c.args.state.now).cells in
    let vars = map word_of c.args.state.now.top.vars in
    let q : (ℕ × List (machine.Word × machine.Word)) × machine.Word = ((number_of c.in-Ok.dict, pairs_at (seen c.args.state.now).cells (number_of c.in-Ok.dict)), word_of c.in-Ok.key) in
    record {
      dict = dict_there cells vars c.args.args.now q c.in-Ok.ensures.found;
      key = key_there cells vars c.args.args.now q c.in-Ok.ensures.found;
      ours = c.in-Ok.ensures.ours;
      word = c.in-Ok.ensures.key;
    }

pub returns-in-Ok-clause-done : goal.returns-in-Ok-clause-done
returns-in-Ok-clause-done c =
    ap (λ w. Ok (Says w)) c.truth.ensures
    ∙ ap (λ b. Ok (Says (truth_word b))) c.is_some.ensures
    ∙ contains_done (seen c.args.state.now).cells (map word_of c.args.state.now.top.vars) c.args.args.now c.in-Ok.dict (pairs_at (seen c.args.state.now).cells (number_of c.in-Ok.dict)) c.in-Ok.key c.in-Ok.ensures.found c.key_place.result c.key_place.ensures

pub returns-in-Ok-clause-ours : goal.returns-in-Ok-clause-ours
returns-in-Ok-clause-ours c = plain_effect c.args.state.now.cells (deed.Says c.truth.result) (Says (truth_word c.is_some.result)) (ap Says c.truth.ensures) (plain_truth c.is_some.result)

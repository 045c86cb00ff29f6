use Rattle.std.proofs.Common.{sym, ap, subst, ◌∙◌, ℕ, List, Ok}
use Rattle.std.specs.Prelude.{map, slice_get}
use Rattle.c_core.specs.Machine as machine
use Rattle.c_core.specs.Step.{Shares, of_pair}
use Rattle.cell_heap.specs.Contents.{number_of, word_of, pair_of, pairs_refs}
use Rattle.cell_heap.specs.Ours.{AreOurs}
use Rattle.c_runner_deeds.specs.States.{seen}
use Rattle.c_runner_objects.proofs.DictLemmas.{dict_there, key_there, item_done, item_missing}
use Rattle.c_runner_objects.proofs.entries.dict_item_deed.Goals as goal

pub key_place-requires : goal.key_place-requires
key_place-requires c =
    let cells = (seen c.args.state.now).cells in
    let vars = map word_of c.args.state.now.top.vars in
    let q : (ℕ × List (machine.Word × machine.Word)) × machine.Word = ((number_of c.in-Ok.dict, map pair_of c.in-Ok.pairs.now), word_of c.in-Ok.key) in
    record {
      dict = dict_there cells vars c.args.args.now q c.in-Ok.ensures.found;
      key = key_there cells vars c.args.args.now q c.in-Ok.ensures.found;
      ours = c.in-Ok.ensures.ours;
      word = c.in-Ok.ensures.key;
    }

pub returns-in-Some-clause-done : goal.returns-in-Some-clause-done
returns-in-Some-clause-done c =
    ap Ok (c.value.ensures.done ∙ ap (λ ps. of_pair (λ p. Shares p.1) (slice_get (map pair_of ps) c.in-Some.place)) c.as_slice.ensures)
    ∙ item_done (seen c.args.state.now).cells (map word_of c.args.state.now.top.vars) c.args.args.now c.in-Ok.dict (map pair_of c.in-Ok.pairs.now) c.in-Ok.key c.in-Ok.ensures.found c.key_place.result c.key_place.ensures c.in-Some.place c.in-Some.is

pub returns-in_ok-text-in-None-clause-done : goal.returns-in_ok-text-in-None-clause-done
returns-in_ok-text-in-None-clause-done c =
    item_missing (seen c.args.state.now).cells (map word_of c.args.state.now.top.vars) c.args.args.now c.in-Ok.dict (map pair_of c.in-Ok.pairs.now) c.in-Ok.key c.in-Ok.ensures.found c.key_place.result c.key_place.ensures c.in_ok-text-in-None.text c.in-None.is c.in_ok-text-in-None.ensures

pub returns-in-Some-clause-ours : goal.returns-in-Some-clause-ours
returns-in-Some-clause-ours c = c.value.ensures.ours c.args.state.now.cells (subst (λ xs. AreOurs c.args.state.now.cells (pairs_refs xs)) (sym c.as_slice.ensures) c.in-Ok.ensures.pairs)

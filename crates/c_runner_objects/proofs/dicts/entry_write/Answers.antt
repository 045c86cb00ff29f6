use Rattle.std.proofs.Common.{sym, ap, ◌∙◌}
use Rattle.std.specs.Prelude.{map, slice_get}
use Rattle.c_core.specs.Keys.{key_of}
use Rattle.c_runner_objects.specs.Dicts.{pairs_at}
use Rattle.c_runner_deeds.specs.Objects.{dict_at}
use Rattle.c_runner_deeds.specs.States.{state_of, seen}
use Rattle.cell_heap.specs.Contents.{number_of, word_of, pair_of}
use Rattle.c_runner_objects.proofs.DictLemmas.{set_undicted, set_refused, set_is, holds_dict, places_within}
use Rattle.c_runner_objects.proofs.dicts.entry_write.Goals as goal

pub returns-in-Err-clause-found : goal.returns-in-Err-clause-found
returns-in-Err-clause-found c =
    λ rest code target. set_undicted (state_of rest (seen c.args.state.now)) code target c.args.args.now c.in-Err.fault (ap (dict_at (seen c.args.state.now).cells (map word_of c.args.state.now.top.vars)) (sym c.first.ensures.value) ∙ c.in-Err.ensures.found)

pub returns-in-Err-stolen_entry-clause-found : goal.returns-in-Err-stolen_entry-clause-found
returns-in-Err-stolen_entry-clause-found c =
    λ rest code target. set_refused (state_of rest (seen c.args.state.now)) code target c.in-Ok.found.0 (map pair_of c.in-Ok.found.1.now) c.args.args.now c.stolen_entry.result c.in-Err-stolen_entry.fault (ap (dict_at (seen c.args.state.now).cells (map word_of c.args.state.now.top.vars)) (sym c.first.ensures.value) ∙ c.in-Ok.ensures.found) (λ earlier go. c.stolen_entry.ensures.stolen rest code earlier go) c.in-Err-stolen_entry.is

pub key_place-requires : goal.key_place-requires
key_place-requires c = record {
  dict = holds_dict (seen c.args.state.now).cells (map word_of c.args.state.now.top.vars) (slice_get c.args.args.now 0) (number_of c.in-Ok.found.0, map pair_of c.in-Ok.found.1.now) (ap (dict_at (seen c.args.state.now).cells (map word_of c.args.state.now.top.vars)) (sym c.first.ensures.value) ∙ c.in-Ok.ensures.found);
  key = c.in-Ok-stolen_entry.ensures.entry.key;
  ours = c.in-Ok.ensures.ours;
  word = c.in-Ok-stolen_entry.ensures.key;
}

pub returns-in-Ok-stolen_entry-clause-found : goal.returns-in-Ok-stolen_entry-clause-found
returns-in-Ok-stolen_entry-clause-found c =
    λ rest code target. set_is (state_of rest (seen c.args.state.now)) code target c.in-Ok.found.0 (map pair_of c.in-Ok.found.1.now) c.args.args.now c.stolen_entry.result c.in-Ok-stolen_entry.key c.in-Ok-stolen_entry.word c.key_place.result (ap (dict_at (seen c.args.state.now).cells (map word_of c.args.state.now.top.vars)) (sym c.first.ensures.value) ∙ c.in-Ok.ensures.found) (λ earlier go. c.stolen_entry.ensures.stolen rest code earlier go) c.in-Ok-stolen_entry.is c.in-Ok-stolen_entry.ensures.entry c.key_place.ensures

pub returns-in-Ok-stolen_entry-clause-dict : goal.returns-in-Ok-stolen_entry-clause-dict
returns-in-Ok-stolen_entry-clause-dict c =
    holds_dict (seen c.args.state.now).cells (map word_of c.args.state.now.top.vars) (slice_get c.args.args.now 0) (number_of c.in-Ok.found.0, map pair_of c.in-Ok.found.1.now) (ap (dict_at (seen c.args.state.now).cells (map word_of c.args.state.now.top.vars)) (sym c.first.ensures.value) ∙ c.in-Ok.ensures.found)

pub returns-in-Ok-stolen_entry-clause-within : goal.returns-in-Ok-stolen_entry-clause-within
returns-in-Ok-stolen_entry-clause-within c =
    places_within (seen c.args.state.now).cells (key_of (seen c.args.state.now).cells (word_of c.in-Ok-stolen_entry.key)) (pairs_at (seen c.args.state.now).cells (number_of c.in-Ok.found.0)) c.key_place.result c.key_place.ensures

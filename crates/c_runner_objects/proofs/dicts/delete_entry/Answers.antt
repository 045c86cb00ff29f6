use Rattle.std.proofs.Common.{sym, ◌∙◌, true, ℕ, List, []}
use Rattle.std.specs.Prelude.{map}
use Rattle.value_core.specs.declared.exception.ExcClass.TheVariants.{KeyError}
use Rattle.value_core.specs.Exceptions.{thrown}
use Rattle.c_core.specs.declared.primitive.Primitive.TheVariants as prim
use Rattle.c_core.specs.declared.primitive.DictPrim.TheVariants as dict
use Rattle.c_core.specs.Keys.{key_of}
use Rattle.c_core.specs.Machine as machine
use Rattle.c_core.specs.Machine.{CharWord}
use Rattle.c_core.specs.Step.{Fails, applied, primitive_step}
use Rattle.c_runner_objects.specs.Dicts.{pairs_at}
use Rattle.c_runner_deeds.specs.States.{state_of, seen}
use Rattle.cell_heap.specs.Contents.{number_of, word_of}
use Rattle.c_runner_deeds.proofs.ExceptionLemmas.{follows_for}
use Rattle.c_runner_objects.proofs.DictLemmas.{delete_refused, delete_fails, delete_takes, dict_there, key_there, place_within}
use Rattle.c_runner_objects.proofs.dicts.delete_entry.Goals as goal

pub returns-in-Err : goal.returns-in-Err
returns-in-Err c =
    λ code rest. delete_refused (state_of rest (seen c.args.state.now)) code c.args.target c.args.args.now c.in-Err.fault c.in-Err.ensures.found

pub key_place-requires : goal.key_place-requires
key_place-requires c =
    let cells = (seen c.args.state.now).cells in
    let vars = map word_of c.args.state.now.top.vars in
    let q : (ℕ × List (machine.Word × machine.Word)) × machine.Word = ((number_of c.in-Ok.dict, pairs_at cells (number_of c.in-Ok.dict)), word_of c.in-Ok.key) in
    record {
      dict = dict_there cells vars c.args.args.now q c.in-Ok.ensures.found;
      key = key_there cells vars c.args.args.now q c.in-Ok.ensures.found;
      ours = c.in-Ok.ensures.ours;
      word = c.in-Ok.ensures.key;
    }

pub returns-in_ok-text-in-None : goal.returns-in_ok-text-in-None
returns-in_ok-text-in-None c =
    follows_for
    (λ s. applied true s c.args.target s.top.ledger [] (Fails (CharWord 2) (thrown KeyError c.in_ok-text-in-None.text)))
    (λ code s. primitive_step true s code c.args.target c.args.args.now (prim.Dict dict.DelItem))
    (seen c.args.state.now) (seen c.fail.new.self) c.fail.result
    (λ code rest. delete_fails (state_of rest (seen c.args.state.now)) code c.args.target c.args.args.now c.in-Ok.dict c.in-Ok.key c.in-Ok.ensures.found c.key_place.result c.key_place.ensures c.in_ok-text-in-None.text c.in-None.is c.in_ok-text-in-None.ensures)
    c.fail.ensures

pub returns-in-Some : goal.returns-in-Some
returns-in-Some c =
    λ code rest.
    delete_takes (state_of rest (seen c.args.state.now)) code c.args.target c.args.args.now c.in-Ok.dict c.in-Ok.key c.in-Ok.ensures.found c.key_place.result c.key_place.ensures c.in-Some.place c.in-Some.is
    ∙ c.take_entry.ensures rest

pub take_entry-requires-clause-dict : goal.take_entry-requires-clause-dict
take_entry-requires-clause-dict c =
    let cells = (seen c.args.state.now).cells in
    let vars = map word_of c.args.state.now.top.vars in
    dict_there cells vars c.args.args.now ((number_of c.in-Ok.dict, pairs_at cells (number_of c.in-Ok.dict)), word_of c.in-Ok.key) c.in-Ok.ensures.found

pub take_entry-requires-clause-within : goal.take_entry-requires-clause-within
take_entry-requires-clause-within c =
    let cells = (seen c.args.state.now).cells in
    place_within cells (key_of cells (word_of c.in-Ok.key)) (pairs_at cells (number_of c.in-Ok.dict)) c.in-Some.place (sym c.in-Some.is ∙ c.key_place.ensures)

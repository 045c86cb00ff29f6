use Rattle.std.proofs.Common.{◌≡◌, refl, true, false, eqb, length, arith}
use Rattle.std.proofs.lemmas.Bool.Decides.{nat_tests}
use Rattle.std.proofs.lemmas.Option.{slice_get_read, slice_get_past}
use Rattle.c_runner_deeds.specs.States.{state_of, seen}
use Rattle.c_runner_objects.proofs.DictLemmas.{no_key, key_refused, no_value, value_refused, entry_crowded, entry_is}
use Rattle.c_runner_objects.proofs.dicts.stolen_entry.Goals as goal

pub returns-in_default-clause-stolen : goal.returns-in_default-clause-stolen
returns-in_default-clause-stolen c =
    λ rest code earlier go. no_key (state_of rest (seen c.args.state.now)) code earlier go c.args.args.now (slice_get_past c.args.args.now 1 c.in_default.ensures.lookup.3)

pub returns-in-Err-clause-stolen : goal.returns-in-Err-clause-stolen
returns-in-Err-clause-stolen c =
    λ rest code earlier go. key_refused (state_of rest (seen c.args.state.now)) code earlier go c.args.args.now c.in-Some.first.now c.stolen_key.result c.in-Err.fault (slice_get_read c.args.args.now (length c.args.args.now) 1 c.in-Some.first.now refl c.in-Some.ensures.lookup.3.0 c.in-Some.ensures.lookup.1) (λ before to. c.stolen_key.ensures.stolen rest code before to) c.in-Err.is

pub returns-in_default-get-clause-stolen : goal.returns-in_default-get-clause-stolen
returns-in_default-get-clause-stolen c =
    λ rest code earlier go. no_value (state_of rest (seen c.args.state.now)) code earlier go c.in-Ok.key c.args.args.now c.in-Some.first.now c.stolen_key.result (slice_get_read c.args.args.now (length c.args.args.now) 1 c.in-Some.first.now refl c.in-Some.ensures.lookup.3.0 c.in-Some.ensures.lookup.1) (λ before to. c.stolen_key.ensures.stolen rest code before to) c.in-Ok.is (slice_get_past c.args.args.now 2 c.in_default-get.ensures.lookup.3)

pub returns-in-Err-stolen_behind-clause-stolen : goal.returns-in-Err-stolen_behind-clause-stolen
returns-in-Err-stolen_behind-clause-stolen c =
    λ rest code earlier go. value_refused (state_of rest (seen c.args.state.now)) code earlier go c.in-Ok.key c.args.args.now c.in-Some.first.now c.in-Some-get.second.now c.stolen_key.result c.stolen_behind.result c.in-Err-stolen_behind.fault (slice_get_read c.args.args.now (length c.args.args.now) 1 c.in-Some.first.now refl c.in-Some.ensures.lookup.3.0 c.in-Some.ensures.lookup.1) (λ before to. c.stolen_key.ensures.stolen rest code before to) c.in-Ok.is (slice_get_read c.args.args.now (length c.args.args.now) 2 c.in-Some-get.second.now refl c.in-Some-get.ensures.lookup.3.0 c.in-Some-get.ensures.lookup.1) (λ before to. c.stolen_behind.ensures.stolen rest code before to) c.in-Err-stolen_behind.is

pub returns-then-args-ne3-clause-stolen : goal.returns-then-args-ne3-clause-stolen
returns-then-args-ne3-clause-stolen c =
    let more : false ≡ eqb (length c.args.args.now) 3 = grind (arith, nat_tests, c.if-args-ne3.true) in
    λ rest code earlier go. entry_crowded (state_of rest (seen c.args.state.now)) code earlier go c.in-Ok.key c.args.args.now c.in-Some.first.now c.in-Some-get.second.now c.stolen_key.result c.stolen_behind.result c.in-Ok-stolen_behind.word (slice_get_read c.args.args.now (length c.args.args.now) 1 c.in-Some.first.now refl c.in-Some.ensures.lookup.3.0 c.in-Some.ensures.lookup.1) (λ before to. c.stolen_key.ensures.stolen rest code before to) c.in-Ok.is (slice_get_read c.args.args.now (length c.args.args.now) 2 c.in-Some-get.second.now refl c.in-Some-get.ensures.lookup.3.0 c.in-Some-get.ensures.lookup.1) (λ before to. c.stolen_behind.ensures.stolen rest code before to) c.in-Ok-stolen_behind.is more

pub returns-clause-stolen : goal.returns-clause-stolen
returns-clause-stolen c =
    let three : true ≡ eqb (length c.args.args.now) 3 = grind (arith, nat_tests, c.if-args-ne3.false) in
    λ rest code earlier go. entry_is (state_of rest (seen c.args.state.now)) code earlier go c.in-Ok.key c.args.args.now c.in-Some.first.now c.in-Some-get.second.now c.stolen_key.result c.stolen_behind.result c.in-Ok-stolen_behind.word (slice_get_read c.args.args.now (length c.args.args.now) 1 c.in-Some.first.now refl c.in-Some.ensures.lookup.3.0 c.in-Some.ensures.lookup.1) (λ before to. c.stolen_key.ensures.stolen rest code before to) c.in-Ok.is (slice_get_read c.args.args.now (length c.args.args.now) 2 c.in-Some-get.second.now refl c.in-Some-get.ensures.lookup.3.0 c.in-Some-get.ensures.lookup.1) (λ before to. c.stolen_behind.ensures.stolen rest code before to) c.in-Ok-stolen_behind.is three

pub returns-clause-entry : goal.returns-clause-entry
returns-clause-entry c = record {
  key_word = c.in-Ok.ensures.word;
  key = c.in-Ok.ensures.key;
  word = c.in-Ok-stolen_behind.ensures.word;
}

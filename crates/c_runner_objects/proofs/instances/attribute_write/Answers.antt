use Rattle.std.proofs.Common.{◌≡◌, refl, sym, ap, ◌∙◌, true, false, eqb, length, subst, ◌<◌, arith}
use Rattle.std.specs.Prelude.{map, slice_get}
use Rattle.std.proofs.lemmas.Bool.Decides.{nat_tests}
use Rattle.std.specs.Int.{w64}
use Rattle.std.proofs.lemmas.Int.{to_z-of_z}
use Rattle.std.proofs.lemmas.List.{length-map}
use Rattle.std.proofs.lemmas.Option.{slice_get_read, slice_get_past}
use Rattle.c_core.specs.Primitives.{OfSlot}
use Rattle.c_runner_objects.specs.Instances.{slot_at}
use Rattle.c_runner_deeds.specs.Objects.{instance_at, written_number}
use Rattle.c_runner_deeds.specs.States.{held_of, state_of, seen}
use Rattle.cell_heap.specs.Contents.{number_of, word_of}
use Rattle.c_runner_objects.proofs.ListLemmas.{copied_at}
use Rattle.c_runner_objects.proofs.InstanceLemmas.{slot_kind_is, slot_place, set_no_instance, set_no_place, set_unslotted, set_missing, set_refused, set_crowded, set_absent, set_is, holds_instance, attributes_are}
use Rattle.c_runner_objects.proofs.instances.attribute_write.Goals as goal

pub returns-in-Err-clause-found : goal.returns-in-Err-clause-found
returns-in-Err-clause-found c =
    λ rest target. set_no_instance (state_of rest (seen c.args.state.now)) c.args.code.now target c.args.args.now c.in-Err.fault (ap (instance_at (seen c.args.state.now).cells (map word_of c.args.state.now.top.vars)) (sym c.first.ensures.value) ∙ c.in-Err.ensures.found)

pub returns-in-Err-written_number-clause-found : goal.returns-in-Err-written_number-clause-found
returns-in-Err-written_number-clause-found c =
    λ rest target. set_no_place (state_of rest (seen c.args.state.now)) c.args.code.now target c.args.args.now (number_of c.in-Ok.found.0, (c.in-Ok.found.1, map held_of c.in-Ok.found.2.now)) c.in-Err-written_number.fault (ap (instance_at (seen c.args.state.now).cells (map word_of c.args.state.now.top.vars)) (sym c.first.ensures.value) ∙ c.in-Ok.ensures.found) (ap written_number (sym (copied_at c.args.args.now 1 c.get.result c.get.ensures.lookup.0 c.get.ensures.lookup.1)) ∙ sym c.written_number.ensures ∙ c.in-Err-written_number.is)

pub returns-in_default-clause-found : goal.returns-in_default-clause-found
returns-in_default-clause-found c =
    λ rest target. set_unslotted (state_of rest (seen c.args.state.now)) c.args.code.now target c.args.args.now (number_of c.in-Ok.found.0, (c.in-Ok.found.1, map held_of c.in-Ok.found.2.now)) c.in-Ok-written_number.number (ap (instance_at (seen c.args.state.now).cells (map word_of c.args.state.now.top.vars)) (sym c.first.ensures.value) ∙ c.in-Ok.ensures.found) (ap written_number (sym (copied_at c.args.args.now 1 c.get.result c.get.ensures.lookup.0 c.get.ensures.lookup.1)) ∙ sym c.written_number.ensures ∙ c.in-Ok-written_number.is) (sym (ap (slot_at c.args.code.now c.in-Ok.found.1) (to_z-of_z w64 c.in-Ok-written_number.number (search))) ∙ c.in_default.ensures)

pub returns-in_default-get-clause-found : goal.returns-in_default-get-clause-found
returns-in_default-get-clause-found c =
    λ rest target. set_missing (state_of rest (seen c.args.state.now)) c.args.code.now target c.args.args.now (number_of c.in-Ok.found.0, (c.in-Ok.found.1, map held_of c.in-Ok.found.2.now)) c.in-Ok-written_number.number (ap (instance_at (seen c.args.state.now).cells (map word_of c.args.state.now.top.vars)) (sym c.first.ensures.value) ∙ c.in-Ok.ensures.found) (ap written_number (sym (copied_at c.args.args.now 1 c.get.result c.get.ensures.lookup.0 c.get.ensures.lookup.1)) ∙ sym c.written_number.ensures ∙ c.in-Ok-written_number.is) (slice_get_past c.args.args.now 2 c.in_default-get.ensures.lookup.3)

pub returns-in-Err-stolen_word-clause-found : goal.returns-in-Err-stolen_word-clause-found
returns-in-Err-stolen_word-clause-found c =
    λ rest target. set_refused (state_of rest (seen c.args.state.now)) c.args.code.now target c.args.args.now (number_of c.in-Ok.found.0, (c.in-Ok.found.1, map held_of c.in-Ok.found.2.now)) c.in-Ok-written_number.number c.in-Some-get.argument.now c.stolen_word.result c.in-Err-stolen_word.fault (ap (instance_at (seen c.args.state.now).cells (map word_of c.args.state.now.top.vars)) (sym c.first.ensures.value) ∙ c.in-Ok.ensures.found) (ap written_number (sym (copied_at c.args.args.now 1 c.get.result c.get.ensures.lookup.0 c.get.ensures.lookup.1)) ∙ sym c.written_number.ensures ∙ c.in-Ok-written_number.is) (slice_get_read c.args.args.now (length c.args.args.now) 2 c.in-Some-get.argument.now refl c.in-Some-get.ensures.lookup.3.0 c.in-Some-get.ensures.lookup.1) (λ to. c.stolen_word.ensures.stolen rest c.args.code.now OfSlot _ to (slot_kind_is c.args.code.now c.in-Ok.found.1 c.in-Ok-written_number.number (c.in-Some.slot.0, (c.in-Some.slot.1.now, c.in-Some.slot.2.now)) (sym (ap (slot_at c.args.code.now c.in-Ok.found.1) (to_z-of_z w64 c.in-Ok-written_number.number (search))) ∙ c.in-Some.ensures))) c.in-Err-stolen_word.is

pub returns-then-args-ne3-clause-found : goal.returns-then-args-ne3-clause-found
returns-then-args-ne3-clause-found c =
    let more : false ≡ eqb (length c.args.args.now) 3 = grind (arith, nat_tests, c.if-args-ne3.true) in
    λ rest target. set_crowded (state_of rest (seen c.args.state.now)) c.args.code.now target c.args.args.now (number_of c.in-Ok.found.0, (c.in-Ok.found.1, map held_of c.in-Ok.found.2.now)) c.in-Ok-written_number.number c.in-Some-get.argument.now c.stolen_word.result c.in-Ok-stolen_word.word (ap (instance_at (seen c.args.state.now).cells (map word_of c.args.state.now.top.vars)) (sym c.first.ensures.value) ∙ c.in-Ok.ensures.found) (ap written_number (sym (copied_at c.args.args.now 1 c.get.result c.get.ensures.lookup.0 c.get.ensures.lookup.1)) ∙ sym c.written_number.ensures ∙ c.in-Ok-written_number.is) (slice_get_read c.args.args.now (length c.args.args.now) 2 c.in-Some-get.argument.now refl c.in-Some-get.ensures.lookup.3.0 c.in-Some-get.ensures.lookup.1) more (λ to. c.stolen_word.ensures.stolen rest c.args.code.now OfSlot _ to (slot_kind_is c.args.code.now c.in-Ok.found.1 c.in-Ok-written_number.number (c.in-Some.slot.0, (c.in-Some.slot.1.now, c.in-Some.slot.2.now)) (sym (ap (slot_at c.args.code.now c.in-Ok.found.1) (to_z-of_z w64 c.in-Ok-written_number.number (search))) ∙ c.in-Some.ensures))) c.in-Ok-stolen_word.is

pub returns-then-slot-len-clause-found : goal.returns-then-slot-len-clause-found
returns-then-slot-len-clause-found c =
    let three : true ≡ eqb (length c.args.args.now) 3 = grind (arith, nat_tests, c.if-args-ne3.false) in
    λ rest target. set_absent (state_of rest (seen c.args.state.now)) c.args.code.now target c.args.args.now (number_of c.in-Ok.found.0, (c.in-Ok.found.1, map held_of c.in-Ok.found.2.now)) c.in-Ok-written_number.number c.in-Some.slot.0 c.in-Some.slot.2.now.1 c.in-Some-get.argument.now c.stolen_word.result c.in-Ok-stolen_word.word (ap (instance_at (seen c.args.state.now).cells (map word_of c.args.state.now.top.vars)) (sym c.first.ensures.value) ∙ c.in-Ok.ensures.found) (ap written_number (sym (copied_at c.args.args.now 1 c.get.result c.get.ensures.lookup.0 c.get.ensures.lookup.1)) ∙ sym c.written_number.ensures ∙ c.in-Ok-written_number.is) (slice_get_read c.args.args.now (length c.args.args.now) 2 c.in-Some-get.argument.now refl c.in-Some-get.ensures.lookup.3.0 c.in-Some-get.ensures.lookup.1) three (λ to. c.stolen_word.ensures.stolen rest c.args.code.now OfSlot _ to (slot_kind_is c.args.code.now c.in-Ok.found.1 c.in-Ok-written_number.number (c.in-Some.slot.0, (c.in-Some.slot.1.now, c.in-Some.slot.2.now)) (sym (ap (slot_at c.args.code.now c.in-Ok.found.1) (to_z-of_z w64 c.in-Ok-written_number.number (search))) ∙ c.in-Some.ensures))) c.in-Ok-stolen_word.is (slot_kind_is c.args.code.now c.in-Ok.found.1 c.in-Ok-written_number.number (c.in-Some.slot.0, (c.in-Some.slot.1.now, c.in-Some.slot.2.now)) (sym (ap (slot_at c.args.code.now c.in-Ok.found.1) (to_z-of_z w64 c.in-Ok-written_number.number (search))) ∙ c.in-Some.ensures)) c.in-Ok-stolen_word.ensures.word
    (slot_place c.args.code.now c.in-Ok.found.1 c.in-Ok-written_number.number (c.in-Some.slot.0, (c.in-Some.slot.1.now, c.in-Some.slot.2.now)) (sym (ap (slot_at c.args.code.now c.in-Ok.found.1) (to_z-of_z w64 c.in-Ok-written_number.number (search))) ∙ c.in-Some.ensures))
    (slice_get_past (map held_of c.in-Ok.found.2.now) c.in-Some.slot.0 (omega (arith, c.if-slot-len.true, c.len.ensures, length-map c.in-Ok.found.2.now held_of)))

pub returns-clause-found : goal.returns-clause-found
returns-clause-found c =
    let three : true ≡ eqb (length c.args.args.now) 3 = grind (arith, nat_tests, c.if-args-ne3.false) in
    λ rest target. set_is (state_of rest (seen c.args.state.now)) c.args.code.now target c.args.args.now c.in-Ok.found.0 c.in-Ok.found.1 (map held_of c.in-Ok.found.2.now) c.in-Ok-written_number.number c.in-Some.slot.0 c.in-Some.slot.2.now.1 c.in-Some-get.argument.now c.stolen_word.result c.in-Ok-stolen_word.word (ap (instance_at (seen c.args.state.now).cells (map word_of c.args.state.now.top.vars)) (sym c.first.ensures.value) ∙ c.in-Ok.ensures.found) (ap written_number (sym (copied_at c.args.args.now 1 c.get.result c.get.ensures.lookup.0 c.get.ensures.lookup.1)) ∙ sym c.written_number.ensures ∙ c.in-Ok-written_number.is) (slice_get_read c.args.args.now (length c.args.args.now) 2 c.in-Some-get.argument.now refl c.in-Some-get.ensures.lookup.3.0 c.in-Some-get.ensures.lookup.1) three (λ to. c.stolen_word.ensures.stolen rest c.args.code.now OfSlot _ to (slot_kind_is c.args.code.now c.in-Ok.found.1 c.in-Ok-written_number.number (c.in-Some.slot.0, (c.in-Some.slot.1.now, c.in-Some.slot.2.now)) (sym (ap (slot_at c.args.code.now c.in-Ok.found.1) (to_z-of_z w64 c.in-Ok-written_number.number (search))) ∙ c.in-Some.ensures))) c.in-Ok-stolen_word.is (slot_kind_is c.args.code.now c.in-Ok.found.1 c.in-Ok-written_number.number (c.in-Some.slot.0, (c.in-Some.slot.1.now, c.in-Some.slot.2.now)) (sym (ap (slot_at c.args.code.now c.in-Ok.found.1) (to_z-of_z w64 c.in-Ok-written_number.number (search))) ∙ c.in-Some.ensures)) c.in-Ok-stolen_word.ensures.word
    (slot_place c.args.code.now c.in-Ok.found.1 c.in-Ok-written_number.number (c.in-Some.slot.0, (c.in-Some.slot.1.now, c.in-Some.slot.2.now)) (sym (ap (slot_at c.args.code.now c.in-Ok.found.1) (to_z-of_z w64 c.in-Ok-written_number.number (search))) ∙ c.in-Some.ensures))

pub returns-clause-instance : goal.returns-clause-instance
returns-clause-instance c =
    holds_instance (seen c.args.state.now).cells (map word_of c.args.state.now.top.vars) (slice_get c.args.args.now 0) (number_of c.in-Ok.found.0, (c.in-Ok.found.1, map held_of c.in-Ok.found.2.now)) (ap (instance_at (seen c.args.state.now).cells (map word_of c.args.state.now.top.vars)) (sym c.first.ensures.value) ∙ c.in-Ok.ensures.found)

pub returns-clause-within : goal.returns-clause-within
returns-clause-within c =
    let within : c.in-Some.slot.0 < length (map held_of c.in-Ok.found.2.now) = omega (arith, c.if-slot-len.false, c.len.ensures, length-map c.in-Ok.found.2.now held_of) in
    subst (λ all. c.in-Some.slot.0 < length all) (sym (attributes_are (seen c.args.state.now).cells (map word_of c.args.state.now.top.vars) (slice_get c.args.args.now 0) (number_of c.in-Ok.found.0, (c.in-Ok.found.1, map held_of c.in-Ok.found.2.now)) (ap (instance_at (seen c.args.state.now).cells (map word_of c.args.state.now.top.vars)) (sym c.first.ensures.value) ∙ c.in-Ok.ensures.found))) within

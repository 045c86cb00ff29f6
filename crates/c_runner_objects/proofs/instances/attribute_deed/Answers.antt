use Rattle.std.proofs.Common.{sym, ap, ◌∙◌}
use Rattle.std.specs.Int.{w64}
use Rattle.std.specs.Option.{option_map}
use Rattle.std.specs.Prelude.{map}
use Rattle.std.proofs.lemmas.Int.{to_z-of_z}
use Rattle.std.proofs.lemmas.Option.{slice_get-map}
use Rattle.c_runner_deeds.specs.Deeds.{done_by}
use Rattle.c_runner_objects.specs.Instances.{slot_at, held_read}
use Rattle.c_runner_deeds.specs.States.{frame_of, held_of, seen}
use Rattle.cell_heap.specs.Contents.{number_of, word_of}
use Rattle.c_runner_deeds.proofs.DeedLemmas.{ok_as}
use Rattle.c_runner_objects.proofs.OwnLemmas.{held_own}
use Rattle.c_runner_objects.proofs.InstanceLemmas.{reads_fault, reads_nothing, reads_other, reads_slot}
use Rattle.c_runner_objects.proofs.instances.attribute_deed.Goals as goal

pub returns-in-Err-clause-done : goal.returns-in-Err-clause-done
returns-in-Err-clause-done c =
    reads_fault c.args.code.now (frame_of c.args.state.now.top) c.args.target (seen c.args.state.now).cells (map word_of c.args.state.now.top.vars) c.args.args.now c.in-Err.fault c.in-Err.ensures.found

pub returns-in_default-clause-done : goal.returns-in_default-clause-done
returns-in_default-clause-done c =
    reads_nothing c.args.code.now (frame_of c.args.state.now.top) c.args.target (seen c.args.state.now).cells (map word_of c.args.state.now.top.vars) c.args.args.now (number_of c.in-Ok.found.0, (c.in-Ok.found.1, map held_of c.in-Ok.found.2.now)) c.in-Ok.found.3 c.in-Ok.ensures.found (sym (ap (slot_at c.args.code.now c.in-Ok.found.1) (to_z-of_z w64 c.in-Ok.found.3 (search))) ∙ c.in_default.ensures)

pub returns-then-not-takes_kind-clause-done : goal.returns-then-not-takes_kind-clause-done
returns-then-not-takes_kind-clause-done c =
    reads_other c.args.code.now (frame_of c.args.state.now.top) c.args.target (seen c.args.state.now).cells (map word_of c.args.state.now.top.vars) c.args.args.now (number_of c.in-Ok.found.0, (c.in-Ok.found.1, map held_of c.in-Ok.found.2.now)) c.in-Ok.found.3 (c.in-Some.slot.0, (c.in-Some.slot.1.now, c.in-Some.slot.2.now)) c.in-Ok.ensures.found (sym (ap (slot_at c.args.code.now c.in-Ok.found.1) (to_z-of_z w64 c.in-Ok.found.3 (search))) ∙ c.in-Some.ensures) (sym c.takes_kind.ensures ∙ c.if-not-takes_kind.true)

pub returns-clause-done : goal.returns-clause-done
returns-clause-done c =
    ok_as done_by c.read.result _ _
    (ap (held_read c.in-Some.slot.1.now c.in-Some.slot.2.now) (ap (option_map held_of) c.get.ensures.value ∙ sym (slice_get-map held_of c.in-Ok.found.2.now c.in-Some.slot.0))
    ∙ reads_slot c.args.code.now (frame_of c.args.state.now.top) c.args.target (seen c.args.state.now).cells (map word_of c.args.state.now.top.vars) c.args.args.now (number_of c.in-Ok.found.0, (c.in-Ok.found.1, map held_of c.in-Ok.found.2.now)) c.in-Ok.found.3 (c.in-Some.slot.0, (c.in-Some.slot.1.now, c.in-Some.slot.2.now)) c.in-Ok.ensures.found (sym (ap (slot_at c.args.code.now c.in-Ok.found.1) (to_z-of_z w64 c.in-Ok.found.3 (search))) ∙ c.in-Some.ensures) (sym c.takes_kind.ensures ∙ c.if-not-takes_kind.false))
    c.read.ensures.done

pub returns-clause-ours : goal.returns-clause-ours
returns-clause-ours c =
    c.read.ensures.ours c.args.state.now.cells
    (held_own c.args.state.now.cells c.in-Ok.found.2.now c.in-Some.slot.0 _ c.get.ensures.value c.in-Ok.ensures.attributes)

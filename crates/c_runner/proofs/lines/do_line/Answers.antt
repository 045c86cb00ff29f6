use Rattle.std.proofs.Common.{arith, ◌∙◌, ◌+◌, ap, sym, true, Some}
use Rattle.std.specs.Prelude.{map}
use Rattle.c_core.specs.Functions.{label_places}
use Rattle.c_core.specs.Step.{step_at, if_calm, turned}
use Rattle.c_runner.specs.AtOnce.{place_behind}
use Rattle.c_runner_deeds.specs.States.{state_of, seen}
use Rattle.c_runner_table.specs.declared.naming.Callee.TheVariants.{Primitive}
use Rattle.c_runner_table.specs.Targets.{target_of}
use Rattle.cell_heap.specs.Contents.{word_of}
use Rattle.c_runner.proofs.AtOnceLemmas.{some_as}
use Rattle.c_runner.proofs.LineLemmas.{behind_count, if_both, did, did_nothing, done_as, is_jump, jump_did, jump_fits, place_did, place_fits, wrote, moves, writes}
use Rattle.c_runner.proofs.StateLemmas.{call_is}
use Rattle.c_runner.proofs.OwnLemmas.{plain_words_own}
use Rattle.c_runner.proofs.lines.do_line.Goals as goal

pub returns-in-Goto-clause-did : goal.returns-in-Goto-clause-did
returns-in-Goto-clause-did c =
    jump_did c.args.code.now c.args.function.now c.args.line.now (seen c.args.state.now) c.requires.function c.requires.line c.target_here-target.result
    (c.target_here-target.ensures c.args.code.now c.args.function.now c.args.line.now c.requires.table c.requires.function c.requires.line)
    (ap is_jump c.in-Goto.is) c.target_here-target.result.first (sym (ap (place_behind c.args.state.now.top.place (map word_of c.args.state.now.top.vars) c.target_here-target.result) c.in-Goto.is)) c.jump.result (seen c.jump.new.state) c.jump.ensures.jumped

pub jump-requires-clause-place : goal.jump-requires-clause-place
jump-requires-clause-place c =
    jump_fits c.args.code.now c.args.function.now c.args.line.now (seen c.args.state.now) c.requires.function c.requires.line c.target_here-target.result
    (c.target_here-target.ensures c.args.code.now c.args.function.now c.args.line.now c.requires.table c.requires.function c.requires.line)
    (ap is_jump c.in-Goto.is) c.requires.short c.target_here-target.result.first (sym (ap (place_behind c.args.state.now.top.place (map word_of c.args.state.now.top.vars) c.target_here-target.result) c.in-Goto.is))

pub returns-in-If-clause-did : goal.returns-in-If-clause-did
returns-in-If-clause-did c =
    jump_did c.args.code.now c.args.function.now c.args.line.now (seen c.args.state.now) c.requires.function c.requires.line c.target_here-target-in-If.result
    (c.target_here-target-in-If.ensures c.args.code.now c.args.function.now c.args.line.now c.requires.table c.requires.function c.requires.line)
    (ap is_jump c.in-If.is) c.place_chosen-place.result (c.place_chosen-place.ensures ∙ sym (ap (place_behind c.args.state.now.top.place (map word_of c.args.state.now.top.vars) c.target_here-target-in-If.result) c.in-If.is)) c.jump-in-If.result (seen c.jump-in-If.new.state) c.jump-in-If.ensures.jumped

pub jump-requires-in-If-clause-place : goal.jump-requires-in-If-clause-place
jump-requires-in-If-clause-place c =
    jump_fits c.args.code.now c.args.function.now c.args.line.now (seen c.args.state.now) c.requires.function c.requires.line c.target_here-target-in-If.result
    (c.target_here-target-in-If.ensures c.args.code.now c.args.function.now c.args.line.now c.requires.table c.requires.function c.requires.line)
    (ap is_jump c.in-If.is) c.requires.short c.place_chosen-place.result (c.place_chosen-place.ensures ∙ sym (ap (place_behind c.args.state.now.top.place (map word_of c.args.state.now.top.vars) c.target_here-target-in-If.result) c.in-If.is))

pub returns-in-IfError-clause-did : goal.returns-in-IfError-clause-did
returns-in-IfError-clause-did c =
    jump_did c.args.code.now c.args.function.now c.args.line.now (seen c.args.state.now) c.requires.function c.requires.line c.target_here-target-in-IfError.result
    (c.target_here-target-in-IfError.ensures c.args.code.now c.args.function.now c.args.line.now c.requires.table c.requires.function c.requires.line)
    (ap is_jump c.in-IfError.is) c.place_by_error-place.result (c.place_by_error-place.ensures ∙ sym (ap (place_behind c.args.state.now.top.place (map word_of c.args.state.now.top.vars) c.target_here-target-in-IfError.result) c.in-IfError.is)) c.jump-in-IfError.result (seen c.jump-in-IfError.new.state) c.jump-in-IfError.ensures.jumped

pub jump-requires-in-IfError-clause-place : goal.jump-requires-in-IfError-clause-place
jump-requires-in-IfError-clause-place c =
    jump_fits c.args.code.now c.args.function.now c.args.line.now (seen c.args.state.now) c.requires.function c.requires.line c.target_here-target-in-IfError.result
    (c.target_here-target-in-IfError.ensures c.args.code.now c.args.function.now c.args.line.now c.requires.table c.requires.function c.requires.line)
    (ap is_jump c.in-IfError.is) c.requires.short c.place_by_error-place.result (c.place_by_error-place.ensures ∙ sym (ap (place_behind c.args.state.now.top.place (map word_of c.args.state.now.top.vars) c.target_here-target-in-IfError.result) c.in-IfError.is))

pub returns-in-Primitive-clause-did : goal.returns-in-Primitive-clause-did
returns-in-Primitive-clause-did c =
    did c.args.code.now c.args.function.now c.args.line.now (seen c.args.state.now) c.requires.function c.requires.line c.write.result c.counted.result (seen c.write.new.state) c.counted.ensures
    (wrote (λ s. step_at true c.args.code.now s (Some c.args.line.now)) (seen c.args.state.now) (seen c.write.new.state) c.write.result c.in-Call.x c.answer_at_once-word.result
    (some_as c.answer_at_once-word.result _ _
    (λ w says rest.
    call_is c.args.code.now c.args.function.now c.args.line.now c.in-Call.x c.in-Call.field-1 c.in-Call.args c.target_here-target-in-Call.result c.in-Call.is
    (c.target_here-target-in-Call.ensures c.args.code.now c.args.function.now c.args.line.now c.requires.table c.requires.function c.requires.line)
    rest (seen c.args.state.now) c.as_slice.result.now (Primitive c.in-Primitive.primitive) (c.in-Some.is ∙ ap Some c.in-Primitive.is) c.as_slice.ensures
    ∙ says rest c.args.code.now c.in-Call.x)
    c.answer_at_once-word.ensures.says)
    c.write.ensures)

pub returns-in-Move-clause-did : goal.returns-in-Move-clause-did
returns-in-Move-clause-did c =
    did c.args.code.now c.args.function.now c.args.line.now (seen c.args.state.now) c.requires.function c.requires.line c.write-in-Move.result c.counted-in-Move.result (seen c.write-in-Move.new.state) c.counted-in-Move.ensures
    (wrote (λ s. step_at true c.args.code.now s (Some c.args.line.now)) (seen c.args.state.now) (seen c.write-in-Move.new.state) c.write-in-Move.result (Some c.in-Move.x) c.word_there-word.result
    (if_both c.word_there-word.result _ _ _
    (λ w e f. moves c.args.code.now c.args.function.now (seen c.args.state.now) c.requires.function c.args.line.now c.in-Move.x c.in-Move.y w c.in-Move.is e f)
    c.word_there-word.ensures.value c.word_there-word.ensures.there)
    c.write-in-Move.ensures)

pub returns-in-Lit-clause-did : goal.returns-in-Lit-clause-did
returns-in-Lit-clause-did c =
    did c.args.code.now c.args.function.now c.args.line.now (seen c.args.state.now) c.requires.function c.requires.line c.write-in-Lit.result c.counted-in-Lit.result (seen c.write-in-Lit.new.state) c.counted-in-Lit.ensures
    (wrote (λ s. step_at true c.args.code.now s (Some c.args.line.now)) (seen c.args.state.now) (seen c.write-in-Lit.new.state) c.write-in-Lit.result (Some c.in-Lit.x) c.literal_word-word.result
    (writes c.args.code.now c.args.function.now (seen c.args.state.now) c.requires.function c.args.line.now c.in-Lit.x c.in-Lit.literal c.literal_word-word.result c.in-Lit.is c.literal_word-word.ensures.word)
    c.write-in-Lit.ensures)

pub returns-in-Turn-clause-did : goal.returns-in-Turn-clause-did
returns-in-Turn-clause-did c =
    did c.args.code.now c.args.function.now c.args.line.now (seen c.args.state.now) c.requires.function c.requires.line c.spend_turn.result c.counted-in-Turn.result (seen c.spend_turn.new.state) c.counted-in-Turn.ensures
    (done_as (λ s. if_calm true s s.pending (turned true s s.turns)) (λ s. step_at true c.args.code.now s (Some c.args.line.now)) c.spend_turn.result (seen c.args.state.now) (seen c.spend_turn.new.state)
    (λ rest. ap (λ l. step_at true c.args.code.now (state_of rest (seen c.args.state.now)) (Some l)) c.in-Turn.is)
    c.spend_turn.ensures)

pub returns-in-Label-clause-did : goal.returns-in-Label-clause-did
returns-in-Label-clause-did c =
    place_did c.args.code.now c.args.function.now c.args.line.now (seen c.args.state.now) c.requires.function c.requires.line (Some (c.args.state.now.top.place + 1)) (sym (ap (place_behind c.args.state.now.top.place (map word_of c.args.state.now.top.vars) (target_of c.args.code.now (label_places c.args.function.now.lines) c.args.line.now)) c.in-Label.is))
    c.go_to.result c.counted-in-Label.result (seen c.go_to.new.state) c.counted-in-Label.ensures c.go_to.ensures

pub returns-in-Inc-clause-did : goal.returns-in-Inc-clause-did
returns-in-Inc-clause-did c =
    place_did c.args.code.now c.args.function.now c.args.line.now (seen c.args.state.now) c.requires.function c.requires.line c.place_uncounted-place.result
    (c.place_uncounted-place.ensures ∙ behind_count c.args.state.now.top.place (map word_of c.args.state.now.top.vars) (target_of c.args.code.now (label_places c.args.function.now.lines) c.args.line.now) c.args.line.now c.in-Inc.x c.in-Inc.is)
    c.go_to-in-Inc.result c.counted-in-Inc.result (seen c.go_to-in-Inc.new.state) c.counted-in-Inc.ensures c.go_to-in-Inc.ensures

pub returns-in-None-clause-did : goal.returns-in-None-clause-did
returns-in-None-clause-did c = did_nothing c.args.code.now c.args.function.now c.args.line.now (seen c.args.state.now) c.requires.function c.requires.line

pub returns-in-Function-clause-did : goal.returns-in-Function-clause-did
returns-in-Function-clause-did c = did_nothing c.args.code.now c.args.function.now c.args.line.now (seen c.args.state.now) c.requires.function c.requires.line

pub returns-in-Virtual-clause-did : goal.returns-in-Virtual-clause-did
returns-in-Virtual-clause-did c = did_nothing c.args.code.now c.args.function.now c.args.line.now (seen c.args.state.now) c.requires.function c.requires.line

pub returns-in-Virtual-2-clause-did : goal.returns-in-Virtual-2-clause-did
returns-in-Virtual-2-clause-did c = did_nothing c.args.code.now c.args.function.now c.args.line.now (seen c.args.state.now) c.requires.function c.requires.line

pub returns-in-Virtual-3-clause-did : goal.returns-in-Virtual-3-clause-did
returns-in-Virtual-3-clause-did c = did_nothing c.args.code.now c.args.function.now c.args.line.now (seen c.args.state.now) c.requires.function c.requires.line

pub write-requires-in-Lit-clause-ours : goal.write-requires-in-Lit-clause-ours
write-requires-in-Lit-clause-ours c = plain_words_own c.args.state.now.cells c.literal_word-word.result c.literal_word-word.ensures.plain

pub write-requires-clause-ours : goal.write-requires-clause-ours
write-requires-clause-ours c = plain_words_own c.args.state.now.cells c.answer_at_once-word.result c.answer_at_once-word.ensures.plain

pub write-requires-clause-place : goal.write-requires-clause-place
write-requires-clause-place c = place_fits c.args.function.now.lines c.args.state.now.top.place c.args.line.now c.requires.line c.requires.short

pub write-requires-in-Move-clause-place : goal.write-requires-in-Move-clause-place
write-requires-in-Move-clause-place c = place_fits c.args.function.now.lines c.args.state.now.top.place c.args.line.now c.requires.line c.requires.short

pub write-requires-in-Lit-clause-place : goal.write-requires-in-Lit-clause-place
write-requires-in-Lit-clause-place c = place_fits c.args.function.now.lines c.args.state.now.top.place c.args.line.now c.requires.line c.requires.short

pub overflow_add-place : goal.overflow_add-place
overflow_add-place c = omega (arith, place_fits c.args.function.now.lines c.args.state.now.top.place c.args.line.now c.requires.line c.requires.short)

pub spend_turn-requires : goal.spend_turn-requires
spend_turn-requires c = place_fits c.args.function.now.lines c.args.state.now.top.place c.args.line.now c.requires.line c.requires.short

pub place_uncounted-place-requires : goal.place_uncounted-place-requires
place_uncounted-place-requires c = place_fits c.args.function.now.lines c.args.state.now.top.place c.args.line.now c.requires.line c.requires.short

use Rattle.std.proofs.Common.{◌≡◌, refl, sym, ap, ◌∙◌, true, false, eqb, length, arith}
use Rattle.std.specs.Prelude.{map, slice_get}
use Rattle.std.proofs.lemmas.Bool.Decides.{nat_tests}
use Rattle.std.specs.Int.{w128}
use Rattle.std.proofs.lemmas.Int.{to_z-of_z}
use Rattle.std.proofs.lemmas.List.{length-map}
use Rattle.std.proofs.lemmas.Option.{slice_get_read, slice_get_past}
use Rattle.value_core.specs.Characters.{place_of}
use Rattle.c_core.specs.declared.code.Kind.TheVariants.{Object}
use Rattle.c_core.specs.Primitives.{Is}
use Rattle.c_runner_deeds.specs.Deeds.{int_at}
use Rattle.c_runner_deeds.specs.Objects.{list_at}
use Rattle.c_runner_deeds.specs.States.{state_of, seen}
use Rattle.cell_heap.specs.Contents.{number_of, word_of}
use Rattle.c_runner_objects.proofs.ListLemmas.{copied_at, set_unlisted, set_no_index, set_missing, set_refused, set_crowded, set_is, holds_list, place_listed}
use Rattle.c_runner_objects.proofs.lists.item_write.Goals as goal

pub returns-in-Err-clause-found : goal.returns-in-Err-clause-found
returns-in-Err-clause-found c =
    λ rest code target. set_unlisted (state_of rest (seen c.args.state.now)) code target c.args.args.now c.in-Err.fault (ap (list_at (seen c.args.state.now).cells (map word_of c.args.state.now.top.vars)) (sym c.first.ensures.value) ∙ c.in-Err.ensures.found)

pub returns-in-Err-int_argument-clause-found : goal.returns-in-Err-int_argument-clause-found
returns-in-Err-int_argument-clause-found c =
    λ rest code target. set_no_index (state_of rest (seen c.args.state.now)) code target c.in-Ok.found.0 (map word_of c.in-Ok.found.1.now) c.args.args.now c.in-Err-int_argument.fault (ap (list_at (seen c.args.state.now).cells (map word_of c.args.state.now.top.vars)) (sym c.first.ensures.value) ∙ c.in-Ok.ensures.found) (ap (int_at (seen c.args.state.now).cells (map word_of c.args.state.now.top.vars)) (sym (copied_at c.args.args.now 1 c.get.result c.get.ensures.lookup.0 c.get.ensures.lookup.1)) ∙ sym c.int_argument.ensures ∙ c.in-Err-int_argument.is)

pub returns-in_default-clause-found : goal.returns-in_default-clause-found
returns-in_default-clause-found c =
    λ rest code target. set_missing (state_of rest (seen c.args.state.now)) code target c.in-Ok.found.0 (map word_of c.in-Ok.found.1.now) c.args.args.now c.in-Ok-int_argument.index (ap (list_at (seen c.args.state.now).cells (map word_of c.args.state.now.top.vars)) (sym c.first.ensures.value) ∙ c.in-Ok.ensures.found) (ap (int_at (seen c.args.state.now).cells (map word_of c.args.state.now.top.vars)) (sym (copied_at c.args.args.now 1 c.get.result c.get.ensures.lookup.0 c.get.ensures.lookup.1)) ∙ sym c.int_argument.ensures ∙ c.in-Ok-int_argument.is) (slice_get_past c.args.args.now 2 c.in_default.ensures.lookup.3)

pub returns-in-Err-stolen_word-clause-found : goal.returns-in-Err-stolen_word-clause-found
returns-in-Err-stolen_word-clause-found c =
    λ rest code target. set_refused (state_of rest (seen c.args.state.now)) code target c.in-Ok.found.0 (map word_of c.in-Ok.found.1.now) c.args.args.now c.in-Ok-int_argument.index c.in-Some.argument.now c.stolen_word.result c.in-Err-stolen_word.fault (ap (list_at (seen c.args.state.now).cells (map word_of c.args.state.now.top.vars)) (sym c.first.ensures.value) ∙ c.in-Ok.ensures.found) (ap (int_at (seen c.args.state.now).cells (map word_of c.args.state.now.top.vars)) (sym (copied_at c.args.args.now 1 c.get.result c.get.ensures.lookup.0 c.get.ensures.lookup.1)) ∙ sym c.int_argument.ensures ∙ c.in-Ok-int_argument.is) (slice_get_read c.args.args.now (length c.args.args.now) 2 c.in-Some.argument.now refl c.in-Some.ensures.lookup.3.0 c.in-Some.ensures.lookup.1) (λ earlier to. c.stolen_word.ensures.stolen rest code (Is Object) earlier to refl) c.in-Err-stolen_word.is

pub returns-then-args-ne3-clause-found : goal.returns-then-args-ne3-clause-found
returns-then-args-ne3-clause-found c =
    let more : false ≡ eqb (length c.args.args.now) 3 = grind (arith, nat_tests, c.if-args-ne3.true) in
    λ rest code target. set_crowded (state_of rest (seen c.args.state.now)) code target c.in-Ok.found.0 (map word_of c.in-Ok.found.1.now) c.args.args.now c.in-Ok-int_argument.index c.in-Some.argument.now c.stolen_word.result c.in-Ok-stolen_word.word (ap (list_at (seen c.args.state.now).cells (map word_of c.args.state.now.top.vars)) (sym c.first.ensures.value) ∙ c.in-Ok.ensures.found) (ap (int_at (seen c.args.state.now).cells (map word_of c.args.state.now.top.vars)) (sym (copied_at c.args.args.now 1 c.get.result c.get.ensures.lookup.0 c.get.ensures.lookup.1)) ∙ sym c.int_argument.ensures ∙ c.in-Ok-int_argument.is) (slice_get_read c.args.args.now (length c.args.args.now) 2 c.in-Some.argument.now refl c.in-Some.ensures.lookup.3.0 c.in-Some.ensures.lookup.1) more (λ earlier to. c.stolen_word.ensures.stolen rest code (Is Object) earlier to refl) c.in-Ok-stolen_word.is

pub returns-clause-found : goal.returns-clause-found
returns-clause-found c =
    let three : true ≡ eqb (length c.args.args.now) 3 = grind (arith, nat_tests, c.if-args-ne3.false) in
    λ rest code target. set_is (state_of rest (seen c.args.state.now)) code target c.in-Ok.found.0 (map word_of c.in-Ok.found.1.now) c.args.args.now c.in-Ok-int_argument.index c.in-Some.argument.now c.stolen_word.result c.in-Ok-stolen_word.word _ (ap (list_at (seen c.args.state.now).cells (map word_of c.args.state.now.top.vars)) (sym c.first.ensures.value) ∙ c.in-Ok.ensures.found) (ap (int_at (seen c.args.state.now).cells (map word_of c.args.state.now.top.vars)) (sym (copied_at c.args.args.now 1 c.get.result c.get.ensures.lookup.0 c.get.ensures.lookup.1)) ∙ sym c.int_argument.ensures ∙ c.in-Ok-int_argument.is) (slice_get_read c.args.args.now (length c.args.args.now) 2 c.in-Some.argument.now refl c.in-Some.ensures.lookup.3.0 c.in-Some.ensures.lookup.1) three (λ earlier to. c.stolen_word.ensures.stolen rest code (Is Object) earlier to refl) c.in-Ok-stolen_word.is c.in-Ok-stolen_word.ensures.word (c.place_of.ensures ∙ ap (place_of c.len.result) (to_z-of_z w128 c.in-Ok-int_argument.index search) ∙ ap (λ n. place_of n c.in-Ok-int_argument.index) (c.len.ensures ∙ sym (length-map c.in-Ok.found.1.now word_of)))

pub returns-clause-list : goal.returns-clause-list
returns-clause-list c =
    holds_list (seen c.args.state.now).cells (map word_of c.args.state.now.top.vars) (slice_get c.args.args.now 0) (number_of c.in-Ok.found.0, map word_of c.in-Ok.found.1.now)
    (ap (list_at (seen c.args.state.now).cells (map word_of c.args.state.now.top.vars)) (sym c.first.ensures.value) ∙ c.in-Ok.ensures.found)

pub returns-clause-within : goal.returns-clause-within
returns-clause-within c =
    place_listed (seen c.args.state.now).cells (map word_of c.args.state.now.top.vars) (slice_get c.args.args.now 0) (number_of c.in-Ok.found.0, map word_of c.in-Ok.found.1.now)
    (ap (list_at (seen c.args.state.now).cells (map word_of c.args.state.now.top.vars)) (sym c.first.ensures.value) ∙ c.in-Ok.ensures.found)
    c.in-Ok-int_argument.index c.place_of.result (c.place_of.ensures ∙ ap (place_of c.len.result) (to_z-of_z w128 c.in-Ok-int_argument.index search) ∙ ap (λ n. place_of n c.in-Ok-int_argument.index) (c.len.ensures ∙ sym (length-map c.in-Ok.found.1.now word_of)))

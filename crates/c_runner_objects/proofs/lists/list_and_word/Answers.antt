use Rattle.std.proofs.Common.{◌≡◌, refl, sym, ap, ◌∙◌, true, false, eqb, length, arith}
use Rattle.std.specs.Prelude.{map, slice_get}
use Rattle.std.proofs.lemmas.Bool.Decides.{nat_tests}
use Rattle.std.proofs.lemmas.Option.{slice_get_read, slice_get_past}
use Rattle.c_core.specs.declared.code.Kind.TheVariants.{Object}
use Rattle.c_core.specs.Primitives.{Is}
use Rattle.c_runner_deeds.specs.Objects.{list_at}
use Rattle.c_runner_deeds.specs.States.{state_of, seen}
use Rattle.cell_heap.specs.Contents.{number_of, word_of}
use Rattle.c_runner_objects.proofs.ListLemmas.{append_unlisted, append_missing, append_refused, append_crowded, append_is, holds_list}
use Rattle.c_runner_objects.proofs.lists.list_and_word.Goals as goal

pub returns-in-Err-clause-found : goal.returns-in-Err-clause-found
returns-in-Err-clause-found c =
    λ rest code target. append_unlisted (state_of rest (seen c.args.state.now)) code target c.args.args.now c.in-Err.fault (ap (list_at (seen c.args.state.now).cells (map word_of c.args.state.now.top.vars)) (sym c.first.ensures.value) ∙ c.in-Err.ensures.found)

pub returns-in_default-clause-found : goal.returns-in_default-clause-found
returns-in_default-clause-found c =
    λ rest code target. append_missing (state_of rest (seen c.args.state.now)) code target c.in-Ok.found.0 (map word_of c.in-Ok.found.1.now) c.args.args.now (ap (list_at (seen c.args.state.now).cells (map word_of c.args.state.now.top.vars)) (sym c.first.ensures.value) ∙ c.in-Ok.ensures.found) (slice_get_past c.args.args.now 1 c.in_default.ensures.lookup.3)

pub returns-in-Err-stolen_word-clause-found : goal.returns-in-Err-stolen_word-clause-found
returns-in-Err-stolen_word-clause-found c =
    λ rest code target. append_refused (state_of rest (seen c.args.state.now)) code target c.in-Ok.found.0 (map word_of c.in-Ok.found.1.now) c.args.args.now c.in-Some.argument.now c.stolen_word.result c.in-Err-stolen_word.fault (ap (list_at (seen c.args.state.now).cells (map word_of c.args.state.now.top.vars)) (sym c.first.ensures.value) ∙ c.in-Ok.ensures.found) (slice_get_read c.args.args.now (length c.args.args.now) 1 c.in-Some.argument.now refl c.in-Some.ensures.lookup.3.0 c.in-Some.ensures.lookup.1) (λ earlier to. c.stolen_word.ensures.stolen rest code (Is Object) earlier to refl) c.in-Err-stolen_word.is

pub returns-then-args-ne2-clause-found : goal.returns-then-args-ne2-clause-found
returns-then-args-ne2-clause-found c =
    let more : false ≡ eqb (length c.args.args.now) 2 = grind (arith, nat_tests, c.if-args-ne2.true) in
    λ rest code target. append_crowded (state_of rest (seen c.args.state.now)) code target c.in-Ok.found.0 (map word_of c.in-Ok.found.1.now) c.args.args.now c.in-Some.argument.now c.stolen_word.result c.in-Ok-stolen_word.word (ap (list_at (seen c.args.state.now).cells (map word_of c.args.state.now.top.vars)) (sym c.first.ensures.value) ∙ c.in-Ok.ensures.found) (slice_get_read c.args.args.now (length c.args.args.now) 1 c.in-Some.argument.now refl c.in-Some.ensures.lookup.3.0 c.in-Some.ensures.lookup.1) more (λ earlier to. c.stolen_word.ensures.stolen rest code (Is Object) earlier to refl) c.in-Ok-stolen_word.is

pub returns-clause-found : goal.returns-clause-found
returns-clause-found c =
    let two : true ≡ eqb (length c.args.args.now) 2 = grind (arith, nat_tests, c.if-args-ne2.false) in
    λ rest code target. append_is (state_of rest (seen c.args.state.now)) code target c.in-Ok.found.0 (map word_of c.in-Ok.found.1.now) c.args.args.now c.in-Some.argument.now c.stolen_word.result c.in-Ok-stolen_word.word (ap (list_at (seen c.args.state.now).cells (map word_of c.args.state.now.top.vars)) (sym c.first.ensures.value) ∙ c.in-Ok.ensures.found) (slice_get_read c.args.args.now (length c.args.args.now) 1 c.in-Some.argument.now refl c.in-Some.ensures.lookup.3.0 c.in-Some.ensures.lookup.1) two (λ earlier to. c.stolen_word.ensures.stolen rest code (Is Object) earlier to refl) c.in-Ok-stolen_word.is c.in-Ok-stolen_word.ensures.word

pub returns-clause-list : goal.returns-clause-list
returns-clause-list c =
    holds_list (seen c.args.state.now).cells (map word_of c.args.state.now.top.vars) (slice_get c.args.args.now 0) (number_of c.in-Ok.found.0, map word_of c.in-Ok.found.1.now)
    (ap (list_at (seen c.args.state.now).cells (map word_of c.args.state.now.top.vars)) (sym c.first.ensures.value) ∙ c.in-Ok.ensures.found)

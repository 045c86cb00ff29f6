use Rattle.std.proofs.Common.{to_z, of_z, ◌≡◌, refl, sym, ap, ◌∙◌, true, false, eqb, length, arith, [], ◌∷◌}
use Rattle.std.specs.Int.{w64, w128}
use Rattle.std.proofs.lemmas.Bool.Decides.{nat_tests}
use Rattle.std.proofs.lemmas.Int.{to_z-of_z}
use Rattle.c_core.specs.declared.primitive.Primitive.TheVariants as prim
use Rattle.c_core.specs.declared.primitive.TaggedPrim.TheVariants as tagged
use Rattle.c_core.specs.Ledgers.{without}
use Rattle.c_core.specs.Machine.{ObjectCell, IntCell}
use Rattle.c_core.specs.Step.{Makes, Shares, applied, primitive_step}
use Rattle.c_runner_deeds.specs.States.{state_of, seen}
use Rattle.cell_heap.specs.Contents.{number_of, word_of}
use Rattle.c_runner_deeds.proofs.ExceptionLemmas.{follows_for}
use Rattle.c_runner_deeds.proofs.StolenLemmas.{box_faults, box_crowded, box_short, box_big, no_other_int}
use Rattle.c_runner_deeds.proofs.state.State.box_int.Goals as goal

pub returns-in-Err : goal.returns-in-Err
returns-in-Err c =
    λ code rest.
    let s = state_of rest (seen c.args.self.now) in
    box_faults s code c.args.target c.args.args.now c.in-Some.argument.now (eqb (length c.args.args.now) 1) c.stolen_int.result c.in-Err.fault (sym c.in-Some.ensures.value) refl (c.stolen_int.ensures.stolen rest code) c.in-Err.is

pub returns-then-args-ne1 : goal.returns-then-args-ne1
returns-then-args-ne1 c =
    let more : false ≡ eqb (length c.args.args.now) 1 = grind (arith, nat_tests, c.if-args-ne1.true) in
    λ code rest.
    let s = state_of rest (seen c.args.self.now) in
    box_crowded s code c.args.target c.args.args.now c.in-Some.argument.now c.stolen_int.result c.in-Ok.word (sym c.in-Some.ensures.value) more (c.stolen_int.ensures.stolen rest code) c.in-Ok.is

pub returns-in-Short : goal.returns-in-Short
returns-in-Short c =
    let alone : true ≡ eqb (length c.args.args.now) 1 = grind (arith, nat_tests, c.if-args-ne1.false) in
    follows_for
    (λ s. applied true s c.args.target s.top.ledger [] (Makes (IntCell (to_z w128 (of_z w128 c.from.result)))))
    (λ code s. primitive_step true s code c.args.target c.args.args.now (prim.Tagged tagged.Box))
    (seen c.args.self.now) (seen c.make_number.new.self) c.make_number.result
    (λ code rest.
    box_short (state_of rest (seen c.args.self.now)) code c.args.target c.args.args.now c.in-Some.argument.now c.stolen_int.result c.in-Ok.word c.in-Short.n (sym c.in-Some.ensures.value) alone (c.stolen_int.ensures.stolen rest code) c.in-Ok.is (ap word_of c.in-Short.is)
    ∙ ap (λ m. applied true (state_of rest (seen c.args.self.now)) c.args.target c.args.self.now.top.ledger [] (Makes (IntCell m))) (sym (to_z-of_z w128 c.from.result (search) ∙ c.from.ensures ∙ to_z-of_z w64 c.in-Short.n (search))))
    c.make_number.ensures

pub returns-in-Big : goal.returns-in-Big
returns-in-Big c =
    let alone : true ≡ eqb (length c.args.args.now) 1 = grind (arith, nat_tests, c.if-args-ne1.false) in
    follows_for
    (λ s. applied true s c.args.target (without (number_of c.in-Big.key) s.top.ledger) (number_of c.in-Big.key ∷ []) (Shares (ObjectCell (number_of c.in-Big.key))))
    (λ code s. primitive_step true s code c.args.target c.args.args.now (prim.Tagged tagged.Box))
    (seen c.args.self.now) (seen c.box_cell.new.self) c.box_cell.result
    (λ code rest.
    box_big (state_of rest (seen c.args.self.now)) code c.args.target c.args.args.now c.in-Some.argument.now c.stolen_int.result c.in-Ok.word c.in-Big.key (sym c.in-Some.ensures.value) alone (c.stolen_int.ensures.stolen rest code) c.in-Ok.is c.in-Big.is c.in-Ok.ensures.number)
    c.box_cell.ensures

pub returns-in_default-word : goal.returns-in_default-word
returns-in_default-word c = absurd (no_other_int c.in-Ok.word c.in_default-word.not-Short c.in_default-word.not-Big c.in-Ok.ensures.value)

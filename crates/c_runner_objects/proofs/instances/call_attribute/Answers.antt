use Rattle.std.proofs.Common.{sym, ap, ◌∙◌, true}
use Rattle.c_core.specs.declared.primitive.Primitive.TheVariants as prim
use Rattle.c_core.specs.Step.{primitive_step}
use Rattle.c_runner_deeds.specs.Deeds.{done_by, lent_done, performed}
use Rattle.c_runner_deeds.specs.States.{state_of, seen}
use Rattle.c_runner_deeds.proofs.ExceptionLemmas.{follows_on}
use Rattle.c_runner_objects.proofs.InstanceLemmas.{attribute_called, attribute_lent}
use Rattle.c_runner_objects.proofs.instances.call_attribute.Goals as goal

pub returns-in_ok-deed-in-Get : goal.returns-in_ok-deed-in-Get
returns-in_ok-deed-in-Get c =
    follows_on
    (performed c.args.target (done_by c.in_ok-deed-in-Get.deed))
    (λ s. primitive_step true s c.args.code.now c.args.target c.args.args.now (prim.Attr c.args.operation))
    (seen c.args.state.now) (seen c.perform_deed.new.self) c.perform_deed.result
    (λ rest.
    let s = state_of rest (seen c.args.state.now) in
    ap (λ p. primitive_step true s c.args.code.now c.args.target c.args.args.now (prim.Attr p)) c.in-Get.is
    ∙ attribute_called s c.args.code.now c.args.target c.args.args.now
    ∙ ap (λ d. performed c.args.target d s) (sym c.in_ok-deed-in-Get.ensures.done))
    c.perform_deed.ensures

pub returns-in_ok-deed-in-GetBorrow : goal.returns-in_ok-deed-in-GetBorrow
returns-in_ok-deed-in-GetBorrow c =
    follows_on
    (performed c.args.target (done_by c.lent.result))
    (λ s. primitive_step true s c.args.code.now c.args.target c.args.args.now (prim.Attr c.args.operation))
    (seen c.args.state.now) (seen c.perform_deed-in-GetBorrow.new.self) c.perform_deed-in-GetBorrow.result
    (λ rest.
    let s = state_of rest (seen c.args.state.now) in
    ap (λ p. primitive_step true s c.args.code.now c.args.target c.args.args.now (prim.Attr p)) c.in-GetBorrow.is
    ∙ attribute_lent s c.args.code.now c.args.target c.args.args.now
    ∙ ap (λ d. performed c.args.target (lent_done d) s) (sym c.in_ok-deed-in-GetBorrow.ensures.done)
    ∙ ap (λ d. performed c.args.target d s) (sym c.lent.ensures.done))
    c.perform_deed-in-GetBorrow.ensures

pub returns-in-Set : goal.returns-in-Set
returns-in-Set c =
    λ rest.
    ap (λ p. primitive_step true (state_of rest (seen c.args.state.now)) c.args.code.now c.args.target c.args.args.now (prim.Attr p)) c.in-Set.is
    ∙ c.set_attribute.ensures rest

pub perform_deed-requires-in-GetBorrow-clause-ours : goal.perform_deed-requires-in-GetBorrow-clause-ours
perform_deed-requires-in-GetBorrow-clause-ours c = c.lent.ensures.ours c.args.state.now.cells c.in_ok-deed-in-GetBorrow.ensures.ours

use Rattle.std.proofs.Common.{ap, ◌∙◌, true, None}
use Rattle.c_core.specs.declared.primitive.Primitive.TheVariants as prim
use Rattle.c_core.specs.declared.primitive.ListPrim.TheVariants as list
use Rattle.c_core.specs.Step.{primitive_step}
use Rattle.c_runner_objects.specs.Lists.{item_put, item_set}
use Rattle.c_runner_deeds.specs.States.{state_of, seen}
use Rattle.c_runner_deeds.proofs.ExceptionLemmas.{follows_for}
use Rattle.c_runner_objects.proofs.lists.set_item.Goals as goal

pub returns-in-Err : goal.returns-in-Err
returns-in-Err c =
    λ code rest. c.item_write.ensures.found rest code c.args.target ∙ ap (λ r. item_set c.args.target r (state_of rest (seen c.args.state.now))) c.in-Err.is

pub returns-in-None : goal.returns-in-None
returns-in-None c =
    follows_for
    (item_put c.args.target c.in-Ok.found.key None c.in-Ok.found.word)
    (λ code s. primitive_step true s code c.args.target c.args.args.now (prim.List list.SetItem))
    (seen c.args.state.now) (seen c.fail_to_put.new.state) c.fail_to_put.result
    (λ code rest.
    let s = state_of rest (seen c.args.state.now) in
    c.item_write.ensures.found rest code c.args.target
    ∙ ap (λ r. item_set c.args.target r s) c.in-Ok.is
    ∙ ap (λ place. item_put c.args.target c.in-Ok.found.key place c.in-Ok.found.word s) c.in-None.is)
    c.fail_to_put.ensures

pub returns-in-Some : goal.returns-in-Some
returns-in-Some c =
    λ code rest.
    let s = state_of rest (seen c.args.state.now) in
    c.item_write.ensures.found rest code c.args.target
    ∙ ap (λ r. item_set c.args.target r s) c.in-Ok.is
    ∙ ap (λ place. item_put c.args.target c.in-Ok.found.key place c.in-Ok.found.word s) c.in-Some.is
    ∙ c.put_item.ensures rest

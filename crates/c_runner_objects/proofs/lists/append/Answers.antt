use Rattle.std.proofs.Common.{ap, ◌∙◌, true}
use Rattle.c_core.specs.declared.primitive.Primitive.TheVariants as prim
use Rattle.c_core.specs.declared.primitive.ListPrim.TheVariants as list
use Rattle.c_core.specs.Step.{primitive_step}
use Rattle.c_runner_objects.specs.Lists.{item_added, appended}
use Rattle.c_runner_deeds.specs.States.{state_of, seen}
use Rattle.c_runner_deeds.proofs.ExceptionLemmas.{follows_for}
use Rattle.c_runner_objects.proofs.lists.append.Goals as goal

pub returns-in-Err : goal.returns-in-Err
returns-in-Err c =
    λ code rest. c.list_and_word.ensures.found rest code c.args.target ∙ ap (λ r. appended c.args.target r (state_of rest (seen c.args.state.now))) c.in-Err.is

pub returns-in-Ok : goal.returns-in-Ok
returns-in-Ok c =
    follows_for
    (item_added c.args.target c.in-Ok.key c.in-Ok.word)
    (λ code s. primitive_step true s code c.args.target c.args.args.now (prim.List list.Append))
    (seen c.args.state.now) (seen c.add_item.new.state) c.add_item.result
    (λ code rest. c.list_and_word.ensures.found rest code c.args.target ∙ ap (λ r. appended c.args.target r (state_of rest (seen c.args.state.now))) c.in-Ok.is)
    c.add_item.ensures

use Rattle.std.proofs.Common.{ap, ◌∙◌, true, None}
use Rattle.c_core.specs.declared.primitive.Primitive.TheVariants as prim
use Rattle.c_core.specs.declared.primitive.DictPrim.TheVariants as dict
use Rattle.c_core.specs.Step.{primitive_step}
use Rattle.c_runner_objects.specs.Dicts.{entry_put, entry_written}
use Rattle.c_runner_deeds.specs.States.{state_of, seen}
use Rattle.c_runner_deeds.proofs.ExceptionLemmas.{follows_for}
use Rattle.c_runner_objects.proofs.dicts.set_entry.Goals as goal

pub returns-in-Err : goal.returns-in-Err
returns-in-Err c =
    λ code rest. c.entry_write.ensures.found rest code c.args.target ∙ ap (λ r. entry_written c.args.target r (state_of rest (seen c.args.state.now))) c.in-Err.is

pub returns-in-None : goal.returns-in-None
returns-in-None c =
    follows_for
    (entry_put c.args.target c.in-Ok.found.dict None c.in-Ok.found.key c.in-Ok.found.word)
    (λ code s. primitive_step true s code c.args.target c.args.args.now (prim.Dict dict.SetItem))
    (seen c.args.state.now) (seen c.add_entry.new.state) c.add_entry.result
    (λ code rest.
    let s = state_of rest (seen c.args.state.now) in
    c.entry_write.ensures.found rest code c.args.target
    ∙ ap (λ r. entry_written c.args.target r s) c.in-Ok.is
    ∙ ap (λ place. entry_put c.args.target c.in-Ok.found.dict place c.in-Ok.found.key c.in-Ok.found.word s) c.in-None.is)
    c.add_entry.ensures

pub returns-in-Some : goal.returns-in-Some
returns-in-Some c =
    λ code rest.
    let s = state_of rest (seen c.args.state.now) in
    c.entry_write.ensures.found rest code c.args.target
    ∙ ap (λ r. entry_written c.args.target r s) c.in-Ok.is
    ∙ ap (λ place. entry_put c.args.target c.in-Ok.found.dict place c.in-Ok.found.key c.in-Ok.found.word s) c.in-Some.is
    ∙ c.put_value.ensures rest

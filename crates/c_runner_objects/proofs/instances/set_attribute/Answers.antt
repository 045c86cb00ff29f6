use Rattle.std.proofs.Common.{ap, ◌∙◌}
use Rattle.c_runner_objects.specs.Instances.{attribute_written}
use Rattle.c_runner_deeds.specs.States.{state_of, seen}
use Rattle.c_runner_objects.proofs.instances.set_attribute.Goals as goal

pub returns-in-Err : goal.returns-in-Err
returns-in-Err c =
    λ rest. c.attribute_write.ensures.found rest c.args.target ∙ ap (λ r. attribute_written c.args.target r (state_of rest (seen c.args.state.now))) c.in-Err.is

pub returns-in-Ok : goal.returns-in-Ok
returns-in-Ok c =
    λ rest.
    c.attribute_write.ensures.found rest c.args.target
    ∙ ap (λ r. attribute_written c.args.target r (state_of rest (seen c.args.state.now))) c.in-Ok.is
    ∙ c.put_attribute.ensures rest

use Rattle.std.proofs.Common.{◌∙◌}
use Rattle.value_core.specs.Exceptions.{thrown}
use Rattle.c_runner_deeds.specs.States.{seen}
use Rattle.c_runner_deeds.proofs.ExceptionLemmas.{shows_exception}
use Rattle.c_runner_deeds.proofs.state.State.show_exception.Goals as goal

pub returns : goal.returns
returns c =
    shows_exception (seen c.args.self.now) (seen c.make_cell.new.self) c.args.target c.args.x c.args.is_alone _ (thrown c.in-Ok.found.1 c.in-Ok.found.2.now) _ c.make_cell.result c.in-Ok.ensures.found c.if-not-is_alone.false (c.of.ensures ∙ c.in_ok-text-in-Ok.ensures.cases) c.make_cell.ensures

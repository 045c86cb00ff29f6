use Rattle.std.proofs.Common.{sym, ◌∙◌}
use Rattle.c_runner_deeds.specs.States.{seen}
use Rattle.c_runner_deeds.proofs.ExceptionLemmas.{makes_exception}
use Rattle.c_runner_deeds.proofs.state.State.make_exception.Goals as goal

pub returns-in-Some : goal.returns-in-Some
returns-in-Some c =
    makes_exception (seen c.args.self.now) (seen c.make_cell.new.self) c.args.target c.args.class.now c.args.x c.args.is_alone _ c.in-Ok.found.1.now _ c.in-Some.class c.make_cell.result c.in-Ok.ensures c.if-not-is_alone.false c.in_ok-text-in-Ok.ensures.cases (sym c.in-Some.is ∙ c.named.ensures) c.make_cell.ensures

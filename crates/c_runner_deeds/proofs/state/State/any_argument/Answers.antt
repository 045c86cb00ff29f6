use Rattle.std.proofs.Common.{ap}
use Rattle.std.specs.Option.{option_copied}
use Rattle.c_runner_deeds.specs.States.{seen}
use Rattle.c_runner_deeds.proofs.FindLemmas.{any_passed}
use Rattle.c_runner_deeds.proofs.state.State.any_argument.Goals as goal

pub returns-in-Some : goal.returns-in-Some
returns-in-Some c =
    any_passed (seen c.args.self.now) (option_copied c.args.argument) c.in-Some.argument.now c.passed.result (ap option_copied c.in-Some.is) c.passed.ensures.passed

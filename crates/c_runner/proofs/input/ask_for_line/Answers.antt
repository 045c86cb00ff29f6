use Rattle.std.proofs.Common.{sym, ◌∙◌}
use Rattle.c_runner.proofs.StateLemmas.{input_crowded}
use Rattle.c_runner_deeds.specs.States.{seen}
use Rattle.c_runner.proofs.input.ask_for_line.Goals as goal

pub returns-else-is_empty : goal.returns-else-is_empty
returns-else-is_empty c =
    λ code. input_crowded code c.args.target c.args.args.now (seen c.args.state.now) (sym c.is_empty.ensures ∙ c.if-is_empty.false)

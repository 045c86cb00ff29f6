use Rattle.std.proofs.Common.{ap, ◌∙◌}
use Rattle.c_runner_table.specs.Targets.{global_in}
use Rattle.c_runner.proofs.CallLemmas.{global_is}
use Rattle.c_runner.proofs.calls.perform_quietly.Goals as goal

pub call_global-requires-clause-global : goal.call_global-requires-clause-global
call_global-requires-clause-global c = c.global.ensures ∙ ap global_in c.requires.named ∙ global_is c.args.code.now c.args.args.now

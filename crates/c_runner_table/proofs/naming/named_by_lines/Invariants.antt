use Rattle.std.proofs.Common.{◌≡◌, take}
use Rattle.std.specs.Prelude.{map}
use Rattle.c_runner_table.specs.Targets.{targets_of}
use Rattle.c_runner_table.proofs.naming.named_by_lines.Given as goal

abbrev pub invariant-loop-function : goal.invariant-loop-function
invariant-loop-function l = l.named ≡ map (λ g. targets_of l.code g.lines) (take l.function-index l.functions)

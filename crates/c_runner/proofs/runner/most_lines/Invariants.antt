use Rattle.std.proofs.Common.{◌≡◌, drop}
use Rattle.std.specs.Prelude.{max}
use Rattle.c_core.specs.Run.{most_lines}
use Rattle.c_runner.proofs.runner.most_lines.Given as goal

abbrev pub invariant-loop-function : goal.invariant-loop-function
invariant-loop-function l = max l.most (most_lines (drop l.function-index l.functions)) ≡ most_lines l.functions

use Rattle.std.proofs.Common.{◌≡◌, ◌-◌, ◌≤◌}
use Rattle.c_core.specs.Laws.{Reaches}
use Rattle.c_runner_deeds.specs.States.{Rest, state_of, seen}
use Rattle.c_runner.proofs.lines.do_lines.Given as goal

-- so many lines of the function were done
abbrev pub invariant-lines : goal.invariant-lines
invariant-lines l = record {
  reaches : (rest : Rest) → Reaches l.code l.done (state_of rest (seen l.fn.state)) (state_of rest (seen l.state));
  output : l.state.output ≡ l.fn.state.output;
  func : l.state.top.func ≡ l.func;
  most : l.done ≤ l.most;
}

abbrev pub decreases-lines : goal.decreases-lines
decreases-lines l = l.most - l.done

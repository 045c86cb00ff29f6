use Rattle.std.proofs.Common.{◌≡◌}
use Rattle.py_check_overrides.specs.Lines.{known}
use Rattle.py_check_overrides.proofs.lines.Lines.known.Given as goal

abbrev pub invariant-loop-line : goal.invariant-loop-line
invariant-loop-line l = known l.self l.at l.name ≡ known l.self l.class l.name

abbrev pub decreases-loop-line : goal.decreases-loop-line
decreases-loop-line l = l.at

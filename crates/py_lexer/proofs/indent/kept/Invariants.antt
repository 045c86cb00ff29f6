use Rattle.std.proofs.Common.{◌≡◌, ◌≤◌, length, take, reverse}
use Rattle.py_lexer.specs.Indents.{kept}
use Rattle.py_lexer.proofs.indent.kept.Given as goal

abbrev pub invariant-loop-count : goal.invariant-loop-count
invariant-loop-count l = record {
  within : l.count ≤ length l.levels;
  so_far : kept l.at (reverse l.levels) ≡ kept l.at (reverse (take l.count l.levels));
}

abbrev pub decreases-loop-count : goal.decreases-loop-count
decreases-loop-count l = l.count

use Rattle.std.proofs.Common.{◌≡◌, ◌≤◌, ◌-◌, Ok}
use Rattle.py_parser_expressions.specs.Prefixes as spec
use Rattle.py_parser_expressions.specs.Parsed.{seen, IsFinished}
use Rattle.py_parser_expressions.proofs.prefix.prefixes.Given as goal

abbrev pub invariant-fold : goal.invariant-fold
invariant-fold l = record {
  so_far : spec.prefixes l.tokens l.from (l.to - l.from) (Ok (seen l.fn.found)) ≡ spec.prefixes l.tokens l.from (l.at - l.from) (Ok (seen l.found));
  from : l.from ≤ l.at;
  to : l.at ≤ l.to;
  finished : IsFinished l.found;
  stays : l.found.place.at ≡ l.fn.found.place.at;
}

abbrev pub decreases-fold : goal.decreases-fold
decreases-fold l = l.at

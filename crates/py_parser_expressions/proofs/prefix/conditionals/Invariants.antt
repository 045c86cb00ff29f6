use Rattle.std.proofs.Common.{◌≡◌, map, Ok, vec_len}
use Rattle.py_parser_expressions.specs.Heads.{head_of, AreHeads}
use Rattle.py_parser_expressions.specs.Prefixes as spec
use Rattle.py_parser_expressions.specs.Parsed.{seen, IsFinished}
use Rattle.py_parser_expressions.proofs.prefix.conditionals.Given as goal

abbrev pub invariant-fold : goal.invariant-fold
invariant-fold l = record {
  so_far : spec.conditionals (map head_of l.fn.heads.items) (Ok (seen l.fn.last)) ≡ spec.conditionals (map head_of l.heads.items) (Ok (seen l.last));
  heads : AreHeads l.heads.items;
  finished : IsFinished l.last;
  stays : l.last.place.at ≡ l.fn.last.place.at;
}

abbrev pub decreases-fold : goal.decreases-fold
decreases-fold l = vec_len l.heads

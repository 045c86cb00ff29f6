use Rattle.std.proofs.Common.{◌≡◌, ◌-◌, length, [], ◌∷◌}
use Rattle.py_parser_cursor.specs.Names.{reads_names}
use Rattle.py_parser_cursor.specs.Moves.{MovesUpTo}
use Rattle.py_parser_cursor.proofs.names.names.Given as goal

abbrev pub invariant-names : goal.invariant-names
invariant-names l = record {
  so_far : reads_names l.tokens (l.fn.first ∷ []) l.fn.place ≡ reads_names l.tokens l.found l.place;
  moves : MovesUpTo l.tokens l.fn.place l.place;
}

abbrev pub decreases-names : goal.decreases-names
decreases-names l = length l.tokens - l.place.at

use Rattle.std.proofs.Common.{◌≡◌, ◌-◌, length, [], map}
use Rattle.py_syntax.specs.Statements.{stmt_tree}
use Rattle.py_parser.specs.Definitions.{reads_tops}
use Rattle.py_parser_cursor.specs.Moves.{MovesUpTo}
use Rattle.py_parser.proofs.top.tops.Given as goal

abbrev pub invariant-tops : goal.invariant-tops
invariant-tops l = record {
  so_far : reads_tops l.tokens [] l.fn.place ≡ reads_tops l.tokens (map stmt_tree l.found) l.place;
  moves : MovesUpTo l.tokens l.fn.place l.place;
}

abbrev pub decreases-tops : goal.decreases-tops
decreases-tops l = length l.tokens - l.place.at

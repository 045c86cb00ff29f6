use Rattle.std.proofs.Common.{◌≡◌, ◌-◌, length, map}
use Rattle.py_syntax.specs.Statements.{stmt_tree}
use Rattle.py_parser_cursor.specs.Moves.{MovesUpTo}
use Rattle.py_parser_statements.specs.Statements.{reads_line}
use Rattle.py_parser_statements.proofs.simple.line.Given as goal

abbrev pub invariant-smalls : goal.invariant-smalls
invariant-smalls l = record {
  so_far : reads_line l.tokens (map stmt_tree l.fn.front) l.fn.place ≡ reads_line l.tokens (map stmt_tree l.found) l.place;
  moves : MovesUpTo l.tokens l.fn.place l.place;
}

abbrev pub decreases-smalls : goal.decreases-smalls
decreases-smalls l = length l.tokens - l.place.at

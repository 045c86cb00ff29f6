use Rattle.std.proofs.Common.{◌≡◌, ◌-◌, length, map}
use Rattle.py_syntax.specs.Statements.{stmt_tree}
use Rattle.py_parser.specs.Definitions.{reads_members}
use Rattle.py_parser_cursor.specs.Moves.{MovesUpTo}
use Rattle.py_parser.proofs.define.members.Given as goal

abbrev pub invariant-members : goal.invariant-members
invariant-members l = record {
  so_far : reads_members l.tokens (map stmt_tree l.fn.front) l.fn.place ≡ reads_members l.tokens (map stmt_tree l.found) l.place;
  moves : MovesUpTo l.tokens l.fn.place l.place;
}

abbrev pub decreases-members : goal.decreases-members
decreases-members l = length l.tokens - l.place.at

use Rattle.std.proofs.Common.{◌≡◌, ◌-◌, length}
use Rattle.std.specs.String.{string_bytes}
use Rattle.py_parser_grammar.specs.Actions.{name_in}
use Rattle.py_parser_cursor.specs.Names.{reads_dots}
use Rattle.py_parser_cursor.specs.Moves.{MovesUpTo}
use Rattle.py_parser_cursor.proofs.names.dots.Given as goal

abbrev pub invariant-dots : goal.invariant-dots
invariant-dots l = record {
  so_far : reads_dots l.tokens (name_in l.first.kind) l.fn.place ≡ reads_dots l.tokens (string_bytes l.text) l.place;
  moves : MovesUpTo l.tokens l.fn.place l.place;
}

abbrev pub decreases-dots : goal.decreases-dots
decreases-dots l = length l.tokens - l.place.at

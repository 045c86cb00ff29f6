use Rattle.std.proofs.Common.{◌≡◌, ◌-◌, length}
use Rattle.std.specs.String.{string_bytes}
use Rattle.py_parser_grammar.specs.Actions.{text_in}
use Rattle.py_parser_cursor.specs.Texts.{reads_texts}
use Rattle.py_parser_cursor.specs.Moves.{MovesUpTo}
use Rattle.py_parser_cursor.proofs.word.texts.Given as goal

abbrev pub invariant-texts : goal.invariant-texts
invariant-texts l = record {
  so_far : reads_texts l.tokens (text_in l.first.kind) l.fn.place ≡ reads_texts l.tokens (string_bytes l.text) l.place;
  moves : MovesUpTo l.tokens l.fn.place l.place;
}

abbrev pub decreases-texts : goal.decreases-texts
decreases-texts l = length l.tokens - l.place.at

use Rattle.std.proofs.Common.{◌≡◌, ℕ, ◌≤◌, ◌+◌, ◌*◌, length}
use Rattle.py_lexer.specs.Pieces.{pieces}
use Rattle.py_lexer.specs.Remaining.{remaining, whole}
use Rattle.py_lexer.proofs.read.read.Given as goal

abbrev pub invariant-pieces : goal.invariant-pieces
invariant-pieces l = record {
  within : length l.rest ≤ length l.text;
  wide : l.reader.column.wide + 8 * length l.rest ≤ 8 * length l.text;
  narrow : l.reader.column.narrow + 8 * length l.rest ≤ 8 * length l.text;
  so_far : (n : ℕ) × (length l.rest ≤ n) × (whole l.end (pieces l.end (length l.text) l.text) ≡ remaining l.end l.reader (pieces l.end n l.rest));
}

abbrev pub decreases-pieces : goal.decreases-pieces
decreases-pieces l = length l.rest

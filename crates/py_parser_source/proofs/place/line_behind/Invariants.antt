use Rattle.std.proofs.Common.{◌≡◌, ◌+◌, ◌≤◌, length}
use Rattle.py_parser_source.specs.Faults.{line_ends}
use Rattle.py_parser_source.proofs.place.line_behind.Given as goal

abbrev pub invariant-loop-byte : goal.invariant-loop-byte
invariant-loop-byte l =
    (1 + line_ends l.bytes ≡ l.line + line_ends l.rest) × (l.line + length l.rest ≤ 1 + length l.bytes)

abbrev pub decreases-loop-byte : goal.decreases-loop-byte
decreases-loop-byte l = length l.rest

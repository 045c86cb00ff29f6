use Rattle.std.proofs.Common.{◌≡◌, ◌≤◌, ◌+◌, ◌-◌, length, drop}
use Rattle.py_lexer.specs.Words.{word_len}
use Rattle.py_lexer.proofs.placed.word_len.Given as goal

abbrev pub invariant-loop-n : goal.invariant-loop-n
invariant-loop-n l = record { within : l.n ≤ length l.rest; so_far : l.n + word_len (drop l.n l.rest) ≡ word_len l.rest }

abbrev pub decreases-loop-n : goal.decreases-loop-n
decreases-loop-n l = length l.rest - l.n

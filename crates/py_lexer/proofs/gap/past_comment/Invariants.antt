use Rattle.std.proofs.Common.{◌≡◌, ◌≤◌, ◌+◌, ◌-◌, not, length, drop}
use Rattle.std.specs.Prelude.{◌==◌}
use Rattle.std.specs.List.{prefix_len}
use Rattle.py_lexer.specs.Places.{line_feed_character}
use Rattle.py_lexer.proofs.gap.past_comment.Given as goal

abbrev pub invariant-loop-n : goal.invariant-loop-n
invariant-loop-n l = record {
  within : l.n ≤ length l.rest;
  so_far : l.n + prefix_len (λ c. not (c.character == line_feed_character)) (drop l.n l.rest) ≡ prefix_len (λ c. not (c.character == line_feed_character)) l.rest;
}

abbrev pub decreases-loop-n : goal.decreases-loop-n
decreases-loop-n l = length l.rest - l.n

use Rattle.std.proofs.Common.{◌≡◌, ℕ, ◌≤◌, List, length, drop}
use Rattle.std.specs.HashMap.{get_by}
use Rattle.std.specs.List.{position_from}
use Rattle.std.specs.Str.{bytes_eq}
use Rattle.c_runner_table.proofs.naming.numbers_of.Given as goal

-- the functions from the number on are known
abbrev pub invariant-loop-number : goal.invariant-loop-number
invariant-loop-number l = record {
  within : l.number ≤ length l.functions;
  known : (name : List ℕ) → get_by (λ k. bytes_eq name k.now) l.numbers ≡ position_from (λ g. bytes_eq name g.name) l.number (drop l.number l.functions);
}

abbrev pub decreases-loop-number : goal.decreases-loop-number
decreases-loop-number l = l.number

use Rattle.std.proofs.Common.{◌≡◌, drop}
use Rattle.c_runner_ledger.proofs.numbers.Numbers.of.Given as goal

abbrev pub invariant-loop-place : goal.invariant-loop-place
invariant-loop-place l = l.numbers ≡ drop l.place l.list

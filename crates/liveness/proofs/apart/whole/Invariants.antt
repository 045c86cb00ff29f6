use Rattle.std.proofs.Common.{◌≡◌, ◌<◌, ℕ, length, Some}
use Rattle.std.specs.Prelude.{slice_get}
use Rattle.liveness.specs.declared.apart.Home.TheVariants.{Whole}
use Rattle.liveness.proofs.apart.whole.Given as goal

abbrev pub invariant-loop-block : goal.invariant-loop-block
invariant-loop-block l = record {
  size : length l.homes.items ≡ l.block;
  homes : (b : ℕ) → b < l.block → slice_get l.homes.items b ≡ Some (Whole b);
}

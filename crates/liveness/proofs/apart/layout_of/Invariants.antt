use Rattle.std.proofs.Common.{◌≡◌, ◌+◌, ◌++◌, drop}
use Rattle.liveness.specs.Apart.{homes_from, pieces_in}
use Rattle.liveness.proofs.apart.layout_of.Given as goal

abbrev pub invariant-loop-block : goal.invariant-loop-block
invariant-loop-block l = record {
  homes : l.homes.items ++ homes_from l.count (drop l.block-index l.blocks) ≡ homes_from 0 l.blocks;
  count : l.count + pieces_in (drop l.block-index l.blocks) ≡ pieces_in l.blocks;
}

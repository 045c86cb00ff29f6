use Rattle.std.proofs.Common.{◌≡◌, map, take}
use Rattle.liveness.specs.Places.{reads_in, places, spans_from}
use Rattle.liveness.proofs.places.laid_out.Given as goal

abbrev pub invariant-loop-block : goal.invariant-loop-block
invariant-loop-block l = record {
  spans : l.spans.items ≡ spans_from 0 (take l.block-index l.blocks);
  reads : l.reads.items ≡ map reads_in (places (take l.block-index l.blocks));
}

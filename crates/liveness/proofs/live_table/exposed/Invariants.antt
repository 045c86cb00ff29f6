use Rattle.std.proofs.Common.{take}
use Rattle.liveness.specs.Places.{reads_first}
use Rattle.liveness.proofs.ExposedLemmas.{Exposing}
use Rattle.liveness.proofs.live_table.exposed.Given as goal

abbrev pub invariant-loop-b : goal.invariant-loop-b
invariant-loop-b l =
    Exposing (reads_first l.touches l.r) l.edges l.fn.rows l.r (take l.b-index l.readers) l.rows l.work.items

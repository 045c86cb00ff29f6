use Rattle.std.proofs.Common.{◌+◌, vec_len}
use Rattle.liveness.specs.Places.{lets_by}
use Rattle.liveness.specs.Flood.{entered, onto}
use Rattle.liveness.proofs.FloodLemmas.{Flooding, weight}
use Rattle.liveness.proofs.flood.flood.Given as goal

abbrev pub invariant-loop-t : goal.invariant-loop-t
invariant-loop-t l =
    Flooding (onto l.stop (lets_by l.touches l.r) l.edges) (entered l.stop (lets_by l.touches l.r)) l.fn.rows l.fn.work.items l.r l.rows l.work.items

abbrev pub decreases-loop-t : goal.decreases-loop-t
decreases-loop-t l = weight l.r l.rows l.edges + vec_len l.work

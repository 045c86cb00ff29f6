use Rattle.std.proofs.Common.{refl}
use Rattle.liveness.specs.Places.{lets_by}
use Rattle.liveness.proofs.SpreadLemmas.{met_exact}
use Rattle.liveness.proofs.borrow_table.known_of.Goals as goal

pub returns : goal.returns
returns c = record {
  params_are = refl;
  touches = c.in_ok-touches.ensures;
  lends_size = c.in_ok-lends.ensures.size;
  lends = c.in_ok-lends.ensures.turns;
  met = met_exact c.args.pieces.now (lets_by c.in_ok-touches.touches 0) c.in_ok-met.met c.args.edges.now c.requires c.in_ok-met.ensures;
}

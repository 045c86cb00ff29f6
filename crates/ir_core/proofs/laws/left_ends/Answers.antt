use Rattle.std.specs.Prelude.{slice_get}
use Rattle.ir_core.specs.Items.{blocks_of}
use Rattle.ir_core.proofs.PlaceLemmas.{left_ends}
use Rattle.ir_core.proofs.laws.left_ends.Goals as goal

pub returns : goal.returns
returns c p fn k i last e = left_ends (slice_get (blocks_of (slice_get p.funcs fn)) k) i last e

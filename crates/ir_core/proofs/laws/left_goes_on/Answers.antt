use Rattle.std.specs.Prelude.{slice_get}
use Rattle.ir_core.specs.Items.{blocks_of}
use Rattle.ir_core.proofs.PlaceLemmas.{left_goes_on}
use Rattle.ir_core.proofs.laws.left_goes_on.Goals as goal

pub returns : goal.returns
returns c p fn k i o os last e = left_goes_on (slice_get (blocks_of (slice_get p.funcs fn)) k) i o os last e

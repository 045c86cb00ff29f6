use Rattle.value_core.proofs.ShiftLemmas.{shl_past}
use Rattle.value_core.proofs.int.int_shl.Goals as goal

pub returns-then-n-gt-BITS : goal.returns-then-n-gt-BITS
returns-then-n-gt-BITS c = shl_past c.args.a c.args.n c.ranges.n c.if-a-eq0.false c.if-n-gt-BITS.true

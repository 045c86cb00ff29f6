use Rattle.value_core.proofs.ShiftLemmas.{shr_far_negative, shr_far_positive}
use Rattle.value_core.proofs.int.int_shr.Goals as goal

pub returns-then-a-lt0 : goal.returns-then-a-lt0
returns-then-a-lt0 c = shr_far_negative c.args.a c.args.n c.ranges.a c.ranges.n c.if-n-lt0.false c.if-n-lt-BITS.false c.if-a-lt0.true

pub returns-else-a-lt0 : goal.returns-else-a-lt0
returns-else-a-lt0 c = shr_far_positive c.args.a c.args.n c.ranges.a c.ranges.n c.if-n-lt0.false c.if-n-lt-BITS.false c.if-a-lt0.false

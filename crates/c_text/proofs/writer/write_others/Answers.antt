use Rattle.std.proofs.Common.{refl}
use Rattle.c_text.specs.Written.{other_written}
use Rattle.c_text.proofs.Writing.{all, broken, more}
use Rattle.c_text.proofs.writer.write_others.Goals as goal

pub returns-in_err-write_other : goal.returns-in_err-write_other
returns-in_err-write_other g c =
    broken other_written _ _ _ _ _ _ refl c.loop-function-test.true c.function-item.is c.from_residual.ensures.0 c.loop-function.invariant c.in_err-write_other.ensures

pub loop-function-preserved : goal.loop-function-preserved
loop-function-preserved g c =
    more other_written _ _ _ _ c.loop-function-test.true c.function-item.is c.loop-function.invariant c.in_ok-write_other.ensures

pub returns : goal.returns
returns g c = all other_written _ _ _ refl c.loop-function-test.false c.loop-function.invariant

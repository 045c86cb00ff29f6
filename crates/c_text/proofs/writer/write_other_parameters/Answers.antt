use Rattle.std.proofs.Common.{refl}
use Rattle.c_text.specs.Written.{next_parameter}
use Rattle.c_text.proofs.Writing.{all, broken, more}
use Rattle.c_text.proofs.writer.write_other_parameters.Goals as goal

pub returns-in_err-write_parameter : goal.returns-in_err-write_parameter
returns-in_err-write_parameter g c =
    broken next_parameter _ _ _ _ _ _ refl c.loop-declared-test.true c.declared-item.is c.from_residual.ensures.0 c.loop-declared.invariant c.in_err-write_parameter.ensures

pub loop-declared-preserved : goal.loop-declared-preserved
loop-declared-preserved g c =
    more next_parameter _ _ _ _ c.loop-declared-test.true c.declared-item.is c.loop-declared.invariant c.in_ok-write_parameter.ensures

pub returns : goal.returns
returns g c = all next_parameter _ _ _ refl c.loop-declared-test.false c.loop-declared.invariant

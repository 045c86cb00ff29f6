use Rattle.std.proofs.Common.{refl}
use Rattle.c_text.specs.Arguments.{next_text}
use Rattle.c_text.proofs.Writing.{all, broken, more}
use Rattle.c_text.proofs.statement.write_other_arguments.Goals as goal

pub returns-in_err-write_argument : goal.returns-in_err-write_argument
returns-in_err-write_argument g c =
    broken (next_text c.args.vars.now) _ _ _ _ _ _ refl c.loop-other-test.true c.other-item.is c.from_residual.ensures.0 c.loop-other.invariant c.in_err-write_argument.ensures

pub loop-other-preserved : goal.loop-other-preserved
loop-other-preserved g c =
    more (next_text c.args.vars.now) _ _ _ _ c.loop-other-test.true c.other-item.is c.loop-other.invariant c.in_ok-write_argument.ensures

pub returns : goal.returns
returns g c = all (next_text c.args.vars.now) _ _ _ refl c.loop-other-test.false c.loop-other.invariant

use Rattle.std.proofs.Common.{refl}
use Rattle.c_text.specs.Methods.{next_variable}
use Rattle.c_text.proofs.Writing.{all, broken, more}
use Rattle.c_text.proofs.statement.write_variables.Goals as goal

pub returns-in_err-write_next_variable : goal.returns-in_err-write_next_variable
returns-in_err-write_next_variable g c =
    broken (next_variable c.args.vars.now) _ _ _ _ 0 _ c.as_slice-arg-items.ensures c.loop-arg-test.true refl c.from_residual.ensures.0 c.loop-arg.invariant c.in_err-write_next_variable.ensures

pub loop-arg-preserved : goal.loop-arg-preserved
loop-arg-preserved g c =
    more (next_variable c.args.vars.now) _ _ _ 0 c.loop-arg-test.true refl c.loop-arg.invariant c.in_ok-write_next_variable.ensures

pub returns : goal.returns
returns g c = all (next_variable c.args.vars.now) _ _ _ c.as_slice-arg-items.ensures c.loop-arg-test.false c.loop-arg.invariant

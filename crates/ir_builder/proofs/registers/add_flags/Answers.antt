use Rattle.ir_builder.proofs.Common.{◌-◌, arith}
use Rattle.ir_builder.proofs.RegisterLemmas.{flags_more}
use Rattle.ir_builder.proofs.registers.add_flags.Goals as goal

pub loop-variable-preserved : goal.loop-variable-preserved
loop-variable-preserved c =
    let low = c.loop-variable.auto.variable in
    let one = c.in_ok-temporary.ensures in
    flags_more _ _ _ (c.loop-variable.variable - c.args.params) _ _ (omega arith) c.loop-variable.invariant one.declared one.lined

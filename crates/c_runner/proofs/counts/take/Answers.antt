use Rattle.std.proofs.Common.{arith}
use Rattle.std.proofs.Common.{refl}
use Rattle.c_runner_deeds.proofs.OursLemmas.{frame_own}
use Rattle.c_runner.proofs.counts.take.Goals as goal

pub add-requires : goal.add-requires
add-requires c = omega (arith, c.requires.small.ledgers c.number_of.result)

pub invariant_of-state-in-Break-1 : goal.invariant_of-state-in-Break-1
invariant_of-state-in-Break-1 c = record { ours = frame_own c.args.state.now c.take.new.self c.args.state.now.top.vars c.take.ensures.kept refl }

pub invariant_of-state-in-Ok : goal.invariant_of-state-in-Ok
invariant_of-state-in-Ok c = record { ours = frame_own c.args.state.now c.take.new.self c.args.state.now.top.vars c.take.ensures.kept refl }

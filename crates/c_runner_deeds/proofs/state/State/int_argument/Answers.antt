use Rattle.c_runner_deeds.proofs.OursLemmas.{big_own}
use Rattle.c_runner_deeds.proofs.state.State.int_argument.Goals as goal

pub int_in-requires : goal.int_in-requires
int_in-requires c = big_own c.args.self.now c.in-Some-Var.x c.in-Some-Big.field-0.now c.in-Some-Big.key c.in-Some-Big.ensures.value c.in-Some-Big.field-0-is

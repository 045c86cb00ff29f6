use Rattle.std.proofs.Common.{refl, sym, ◌∙◌, ap, Some}
use Rattle.c_runner_deeds.specs.States.{seen}
use Rattle.c_runner_deeds.proofs.StateLemmas.{call_writes}
use Rattle.c_runner_deeds.proofs.state.State.call_write.Goals as goal

pub returns-in-Some-Var : goal.returns-in-Some-Var
returns-in-Some-Var c =
    call_writes c.args.args.now c.in-Some-Var.x _ (seen c.args.self.now) (seen c.write.new.self) c.write.result (sym c.in-Some-Var.ensures.value ∙ ap Some c.in-Some-Var.field-0-is) refl c.write.ensures

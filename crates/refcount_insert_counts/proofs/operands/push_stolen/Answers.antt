use Rattle.refcount_insert_counts.proofs.Times.{stolen_one}
use Rattle.refcount_insert_counts.proofs.operands.push_stolen.Goals as goal

pub returns-in_ok-push-in-Var : goal.returns-in_ok-push-in-Var
returns-in_ok-push-in-Var c =
    stolen_one c.args.all.now.items c.push.new.self.items c.args.argument.now c.in-Var.r c.args.is_stolen c.in-Var.is c.if-is_stolen.true c.in_ok-push-in-Var.ensures.items

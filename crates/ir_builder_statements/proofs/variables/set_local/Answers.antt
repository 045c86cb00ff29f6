use Rattle.ir_builder_statements.proofs.Common.{refl, on_ok_map}
use Rattle.ir_builder_statements.proofs.VariableLemmas.{parameter_sets, variable_sets, flag_kinds}
use Rattle.ir_builder_statements.proofs.variables.set_local.Goals as goal

pub push-requires-2 : goal.push-requires-2
push-requires-2 c = record { fits = (refl, flag_kinds c.push.new.self.among c.args.b.now c.push.new.self c.args.frame c.args.k c.flag-flag.result c.requires.flagged c.if-k-frame.false c.flag-flag.ensures c.in_ok-push.ensures.kept) }

pub returns-then-k-frame-clause-sets : goal.returns-then-k-frame-clause-sets
returns-then-k-frame-clause-sets c = parameter_sets c.args.frame c.args.k c.args.r _ _ c.if-k-frame.true c.in_ok-push.ensures.pushed

pub returns-clause-sets : goal.returns-clause-sets
returns-clause-sets c = on_ok_map _ _ _ (λ q. variable_sets c.args.frame c.args.k c.args.r c.flag-flag.result _ _ _ c.if-k-frame.false c.flag-flag.ensures c.in_ok-push.ensures.pushed q) c.push-2.ensures.pushed

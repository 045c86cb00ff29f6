use Rattle.ir_builder_statements.proofs.Common.{extends_trans, sort, Reg, ok_map}
use Rattle.ir_builder_statements.proofs.ItemLemmas.{changed_attempts}
use Rattle.ir_builder_statements.proofs.items.emit_changed.Goals as goal

pub returns-clause-made : goal.returns-clause-made
returns-clause-made c =
    ok_map _ _ _ (λ (r : Reg) a. changed_attempts c.args.op (sort c.args.t.now) (sort c.args.own.now) (sort c.args.operand.now) _ _ _ _ c.args.x.0 c.args.y.0 c.in_ok-result.result.0 c.in_ok-value.value.0 r.0 c.in_ok-result.ensures.made c.in_ok-value.ensures.made a) c.emit_boxed.ensures.made

pub returns-clause-kept : goal.returns-clause-kept
returns-clause-kept c = extends_trans _ _ _ (extends_trans _ _ _ c.in_ok-result.ensures.kept c.in_ok-value.ensures.kept) c.emit_boxed.ensures.kept

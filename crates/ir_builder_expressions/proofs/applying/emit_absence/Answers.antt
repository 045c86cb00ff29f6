use Rattle.ir_builder_expressions.proofs.Common.{sort, ◌∙◌, Reg, ok_map}
use Rattle.ir_builder_expressions.proofs.AbsenceLemmas.{absence_known, absence_asked}
use Rattle.ir_builder_expressions.proofs.applying.emit_absence.Goals as goal

pub returns-in-Ref-clause-made : goal.returns-in-Ref-clause-made
returns-in-Ref-clause-made c = ok_map _ _ _ (λ (r : Reg) a. absence_asked (sort c.args.t.now) _ _ r.0 c.args.x a) c.emit_operation.ensures.made

pub returns-in_default-clause-made : goal.returns-in_default-clause-made
returns-in_default-clause-made c = ok_map _ _ _ (λ (r : Reg) a. absence_known (sort c.args.t.now) _ _ r.0 c.args.x.0 (λ e. c.in_default.not-Ref (c.register_type.ensures ∙ e)) a) (rw c.truth.ensures.is at c.literal.ensures.added)

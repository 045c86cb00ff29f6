use Rattle.ir_builder_expressions.proofs.Common.{sort, Reg, ok_map}
use Rattle.ir_builder_expressions.proofs.AbsenceLemmas.{presence_attempts}
use Rattle.ir_builder_expressions.proofs.applying.emit_presence.Goals as goal

pub returns-clause-made : goal.returns-clause-made
returns-clause-made c = ok_map _ _ _ (λ (r : Reg) a. presence_attempts (sort c.args.t.now) _ _ _ c.args.x.0 r.0 c.in_ok-absent.absent c.in_ok-absent.ensures.made a) c.emit_operation.ensures.made

use Rattle.ir_builder_expressions.proofs.Common.{sort, Reg, ok_map}
use Rattle.ir_builder_expressions.proofs.TakenLemmas.{appended_attempts}
use Rattle.ir_builder_expressions.proofs.applying.emit_appended.Goals as goal

pub returns-clause-made : goal.returns-clause-made
returns-clause-made c = ok_map _ _ _ (λ (r : Reg) a. appended_attempts (sort c.args.t.now) _ _ _ _ _ _ r.0 c.requires.list c.in_ok-item.ensures.made a) c.emit_append.ensures.made

use Rattle.ir_builder_expressions.proofs.Common.{Reg, ok_map}
use Rattle.ir_builder_expressions.proofs.TestedLemmas.{filled_attempts}
use Rattle.ir_builder_expressions.proofs.truths.emit_filled.Goals as goal

pub returns-clause-made : goal.returns-clause-made
returns-clause-made c = ok_map _ _ _ (λ (r : Reg) a. filled_attempts _ _ _ c.args.list c.in_ok-length.length r.0 c.in_ok-length.ensures.made a) c.emit_truth.ensures.found

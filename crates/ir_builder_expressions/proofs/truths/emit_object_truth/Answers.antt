use Rattle.ir_builder_expressions.proofs.Common.{sort, Reg, ok_map}
use Rattle.ir_builder_expressions.proofs.TestedLemmas.{object_tested}
use Rattle.ir_builder_expressions.proofs.truths.emit_object_truth.Goals as goal

pub returns-clause-made : goal.returns-clause-made
returns-clause-made c = ok_map _ _ _ (λ (r : Reg) a. object_tested (sort c.args.t.now) _ _ _ c.args.object.0 c.in_ok-value.value.0 r.0 c.in_ok-value.ensures.made a) c.emit_plain_truth.ensures.made

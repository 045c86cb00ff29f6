use Rattle.ir_builder_comparisons.proofs.Common.{Reg, ok_map}
use Rattle.ir_builder_comparisons.proofs.ComparisonLemmas.{differs}
use Rattle.ir_builder_comparisons.proofs.comparisons.emit_difference.Goals as goal

pub returns-clause-made : goal.returns-clause-made
returns-clause-made c = ok_map _ _ _ (λ (r : Reg) a. differs c.args.compared _ _ _ c.in_ok-same.same r.0 _ _ c.in_ok-same.ensures.made a) c.emit_operation.ensures.made

use Rattle.ir_builder_comparisons.proofs.Common.{Reg, ok_map}
use Rattle.ir_builder_comparisons.proofs.TruthLemmas.{compared_finds}
use Rattle.ir_builder_comparisons.proofs.comparisons.emit_compared_truth.Goals as goal

pub returns-clause-found : goal.returns-clause-found
returns-clause-found c = ok_map _ _ _ (λ (r : Reg) a. compared_finds c.args.compared _ _ _ _ r.0 _ c.requires c.in_ok-none.ensures.made a) c.emit_difference.ensures.made

use Rattle.ir_builder_expressions.proofs.Common.{sort, Reg, ok_map}
use Rattle.source_meaning.specs.Operations.{tuple_part}
use Rattle.ir_builder_expressions.proofs.TakenLemmas.{one_taken}
use Rattle.ir_builder_expressions.proofs.applying.emit_part_of.Goals as goal

pub returns-clause-made : goal.returns-clause-made
returns-clause-made c = ok_map _ _ _ (λ (r : Reg) a. one_taken (sort c.args.t.now) _ _ _ _ _ r.0 (tuple_part c.args.number) c.in_ok-part.ensures.made a) c.emit_unboxed.ensures.made

use Rattle.ir_builder_operations.proofs.Common.{w64, to_z-of_z, Reg, ok_map}
use Rattle.ir_builder_operations.proofs.LiteralLemmas.{native_makes}
use Rattle.ir_builder_operations.proofs.numbers.emit_native.Goals as goal

pub returns-clause-made : goal.returns-clause-made
returns-clause-made c = ok_map _ _ _ (λ (r : Reg) a. native_makes _ _ r.0 c.args.n _ (to_z-of_z w64 c.args.n c.ranges.n) a) c.literal.ensures.added

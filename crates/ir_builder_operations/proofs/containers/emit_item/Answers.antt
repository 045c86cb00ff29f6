use Rattle.ir_builder_operations.proofs.Common.{sort, Reg, ok_map}
use Rattle.ir_builder_operations.proofs.ContainerLemmas.{item_attempts}
use Rattle.ir_builder_operations.proofs.containers.emit_item.Goals as goal

pub returns-clause-made : goal.returns-clause-made
returns-clause-made c = ok_map _ _ _ (λ (r : Reg) a. item_attempts (sort c.args.own.now) _ _ _ c.args.list c.args.index c.in_ok-item.item r.0 c.in_ok-item.ensures.made a) c.emit_unboxed.ensures.made

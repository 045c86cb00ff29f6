use Rattle.ir_builder_operations.proofs.Common.{Reg, ok_map}
use Rattle.ir_builder_operations.proofs.ContainerLemmas.{append_attempts}
use Rattle.ir_builder_operations.proofs.containers.emit_append.Goals as goal

pub returns-clause-made : goal.returns-clause-made
returns-clause-made c = ok_map _ _ _ (λ (r : Reg) a. append_attempts _ _ _ c.args.list c.args.item r.0 c.requires.list c.requires.item c.in_ok-push_item.ensures.pushed a) c.literal.ensures.added

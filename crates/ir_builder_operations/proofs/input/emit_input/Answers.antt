use Rattle.ir_builder_operations.proofs.Common.{Str, State, look, next_line, Reg, ok_map}
use Rattle.ir_builder_operations.proofs.PartLemmas.{as_none}
use Rattle.ir_builder_operations.proofs.input.emit_input.Goals as goal

pub returns-clause-made : goal.returns-clause-made
returns-clause-made c = ok_map _ _ _ (λ (r : Reg) a. as_none Str (look (λ (s : State). s.items) next_line) c.args.b.now c.emit_operation.new.b r.0 a) c.emit_operation.ensures.made

use Rattle.ir_builder_operations.proofs.Common.{Reg, ok_map}
use Rattle.ir_builder_operations.proofs.LiteralLemmas.{text_makes, text_answers}
use Rattle.ir_builder_operations.proofs.texts.emit_text.Goals as goal

pub emit_written-requires : goal.emit_written-requires
emit_written-requires c = record { fits = text_answers c.args.b.now.regs _ c.utf8.text }

pub returns-clause-made : goal.returns-clause-made
returns-clause-made c = ok_map _ _ _ (λ (r : Reg) a. text_makes _ _ r.0 _ a) c.emit_written.ensures.added

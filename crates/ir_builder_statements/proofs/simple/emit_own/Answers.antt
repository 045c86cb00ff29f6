use Rattle.ir_builder_statements.proofs.Common.{sort}
use Rattle.ir_builder_statements.proofs.AssignLemmas.{declared_text, text_stays}
use Rattle.ir_builder_statements.proofs.simple.emit_own.Goals as goal

pub returns-in-Str-clause-made : goal.returns-in-Str-clause-made
returns-in-Str-clause-made c = text_stays c.args.b.now c.args.x.0 (sort c.args.t.now) (sort c.args.own.now) (declared_text c.args.own.now c.in-Str.is) c.requires.turns c.requires.value

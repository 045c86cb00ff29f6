use Rattle.ir_builder_expressions.proofs.Common.{sym, ◌∙◌, sort, typed_expr}
use Rattle.ir_builder_expressions.proofs.NumberLemmas.{native_stays}
use Rattle.ir_builder_expressions.proofs.applying.emit_converted.Goals as goal

pub returns-in-Some-clause-made : goal.returns-in-Some-clause-made
returns-in-Some-clause-made c = native_stays (sort c.args.t.now) (typed_expr c.args.e.now) _ _ _ (sym c.native_literal.ensures ∙ c.in-Some.is) c.requires.value

use Rattle.ir_builder_expressions.proofs.Common.{sort, sym, ◌∙◌, subst, HasType, Reg, ok_map}
use Rattle.ir_builder_expressions.proofs.TestedLemmas.{scalar_tested, scalar_written, list_register, list_tested, tuple_tested}
use Rattle.ir_builder_expressions.proofs.truths.emit_plain_truth.Goals as goal

pub emit_truth-requires : goal.emit_truth-requires
emit_truth-requires c = record { written = scalar_written (sort c.args.t.now) c.requires.plain (sym c.testable_by.ensures ∙ c.in-Scalar.is); value = c.requires.value }

pub emit_filled-requires : goal.emit_filled-requires
emit_filled-requires c = record { value = subst (λ z. HasType c.args.b.now c.args.x.0 z) (list_register (sort c.args.t.now) (sym c.testable_by.ensures ∙ c.in-List.is)) c.requires.value }

pub returns-in-Scalar-clause-made : goal.returns-in-Scalar-clause-made
returns-in-Scalar-clause-made c = ok_map _ _ _ (λ (r : Reg) a. scalar_tested (sort c.args.t.now) _ _ r.0 c.args.x.0 c.requires.plain (sym c.testable_by.ensures ∙ c.in-Scalar.is) a) c.emit_truth.ensures.found

pub returns-in-List-clause-made : goal.returns-in-List-clause-made
returns-in-List-clause-made c = ok_map _ _ _ (λ (r : Reg) a. list_tested (sort c.args.t.now) _ _ r.0 c.args.x.0 (sym c.testable_by.ensures ∙ c.in-List.is) a) c.emit_filled.ensures.made

pub returns-in-Tuple-clause-made : goal.returns-in-Tuple-clause-made
returns-in-Tuple-clause-made c = ok_map _ _ _ (λ (r : Reg) a. tuple_tested (sort c.args.t.now) _ _ r.0 c.args.x.0 (sym c.testable_by.ensures ∙ c.in-Tuple.is) a) (rw c.truth.ensures.is at c.literal.ensures.added)

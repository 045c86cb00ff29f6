use Rattle.ir_builder_expressions.proofs.Common.{sort, typed_expr, Reg, ok_map, extends_trans, part_sort}
use Rattle.ir_builder_expressions.proofs.NumberLemmas.{negation_ready, negation_attempts, negated_part}
use Rattle.ir_builder_expressions.proofs.applying.emit_negated.Goals as goal

pub emit_operation-requires : goal.emit_operation-requires
emit_operation-requires c =
    let h = negation_ready (sort c.args.t.now) _ c.in_ok-number.number c.requires.whole c.in_ok-number.ensures.made.type in
    rw c.negation_on-operation.ensures record { known = h.0; operands = h.1 }

pub returns-clause-made : goal.returns-clause-made
returns-clause-made c =
    let t = sort c.args.t.now in
    ok_map _ _ _ (λ (r : Reg) a. negated_part t (part_sort t (typed_expr c.args.e.now)) _ _ _ _ _ r.0 c.requires.whole c.in_ok-number.ensures.made (negation_attempts t _ _ r.0 c.in_ok-number.number c.requires.whole a)) (rw c.negation_on-operation.ensures at c.emit_operation.ensures.made)

pub returns-clause-kept : goal.returns-clause-kept
returns-clause-kept c = extends_trans _ _ _ c.in_ok-number.ensures.kept c.emit_operation.ensures.kept

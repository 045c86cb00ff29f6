use Rattle.ir_builder_statements.proofs.Common.{sort, Reg, ok_map, extends_trans, type_kept}
use Rattle.ir_builder_expressions.proofs.NumberLemmas.{arithmetic_ready, arithmetic_attempts, numbers_attempt}
use Rattle.ir_builder_statements.proofs.items.emit_numbers.Goals as goal

pub emit_coercion-requires-2-clause-value : goal.emit_coercion-requires-2-clause-value
emit_coercion-requires-2-clause-value c = type_kept _ _ _ _ c.in_ok-first.ensures.kept c.requires.right_value

pub returns-in_err-second-clause-kept : goal.returns-in_err-second-clause-kept
returns-in_err-second-clause-kept c = extends_trans _ _ _ c.in_ok-first.ensures.kept c.in_err-second.ensures.kept

pub emit_operation-requires : goal.emit_operation-requires
emit_operation-requires c =
    let second = c.in_ok-second.ensures in
    let h = arithmetic_ready (sort c.args.t.now) c.args.op _ c.in_ok-first.first c.in_ok-second.second c.requires.fits.0 c.requires.fits.1 (type_kept _ _ _ _ second.kept c.in_ok-first.ensures.made.type) second.made.type in
    rw c.arithmetic_on-operation.ensures record { known = h.0; operands = h.1 }

pub returns-clause-made : goal.returns-clause-made
returns-clause-made c =
    let t = sort c.args.t.now in
    ok_map _ _ _ (λ (r : Reg) a. numbers_attempt t (sort c.args.left.now) (sort c.args.right.now) c.args.op _ _ _ _ _ _ _ _ r.0 c.requires.fits.0 c.requires.left_value c.requires.right_value c.in_ok-first.ensures.made c.in_ok-second.ensures.made (arithmetic_attempts t c.args.op _ _ r.0 c.in_ok-first.first c.in_ok-second.second c.requires.fits.0 a)) (rw c.arithmetic_on-operation.ensures at c.emit_operation.ensures.made)

pub returns-clause-kept : goal.returns-clause-kept
returns-clause-kept c = extends_trans _ _ _ c.in_ok-first.ensures.kept (extends_trans _ _ _ c.in_ok-second.ensures.kept c.emit_operation.ensures.kept)

pub returns-clause-lined : goal.returns-clause-lined
returns-clause-lined c k i x other at = c.in_ok-first.ensures.lined k i x other (c.in_ok-second.ensures.lined k i x other (c.emit_operation.ensures.lined k i x other at))

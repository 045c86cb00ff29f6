use Rattle.ir_builder_expressions.proofs.Common.{sort, Reg, ok_map, Popped, Part}
use Rattle.ir_builder_expressions.proofs.ApplyLemmas.{applies_inverted, applies_tested, counted_ready, applies_counted, applies_written, applies_object, applies_absent, applies_present}
use Rattle.ir_builder_expressions.proofs.applying.emit_unary.Goals as goal

pub returns-in-Negated-clause-made : goal.returns-in-Negated-clause-made
returns-in-Negated-clause-made c = rw c.in-Negated.is c.emit_negated.ensures.made

pub returns-in-Inverted-clause-made : goal.returns-in-Inverted-clause-made
returns-in-Inverted-clause-made c = rw c.in-Inverted.is (ok_map _ _ _ (λ (r : Reg) a. applies_inverted (sort c.args.t.now) c.args.e.now _ _ r.0 _ (rw c.in-Inverted.is at c.requires.fits) a) c.emit_operation.ensures.made)

pub returns-in-Tested-clause-made : goal.returns-in-Tested-clause-made
returns-in-Tested-clause-made c = rw c.in-Tested.is (ok_map _ _ _ (λ (r : Reg) a. applies_tested (sort c.args.t.now) c.args.e.now _ _ r.0 _ (rw c.in-Tested.is at c.requires.fits) a) c.emit_truth_of.ensures.made)

pub emit_operation-requires-in-Counted : goal.emit_operation-requires-in-Counted
emit_operation-requires-in-Counted c =
    let h = counted_ready (sort c.args.t.now) c.args.e.now (rw c.in-Counted.is at c.requires.fits) _ c.args.x (rw c.in-Counted.is at c.requires.value) in
    rw c.counting.ensures record { known = h.0; operands = h.1 }

pub returns-in-Counted-clause-made : goal.returns-in-Counted-clause-made
returns-in-Counted-clause-made c = rw c.in-Counted.is (ok_map _ _ _ (λ (r : Reg) a. applies_counted (sort c.args.t.now) c.args.e.now _ _ r.0 _ (rw c.in-Counted.is at c.requires.fits) a) (rw c.counting.ensures at c.emit_operation-in-Counted.ensures.made))

pub returns-in-Written-clause-made : goal.returns-in-Written-clause-made
returns-in-Written-clause-made c = rw c.in-Written.is (ok_map _ _ _ (λ (r : Reg) a. applies_written (sort c.args.t.now) c.args.e.now _ _ r.0 _ (rw c.in-Written.is at c.requires.fits) a) c.emit_text_of.ensures.made)

pub returns-in-Coerced-clause-made : goal.returns-in-Coerced-clause-made
returns-in-Coerced-clause-made c = rw c.in-Coerced.is c.emit_converted.ensures.made

pub returns-in-Popped-clause-made : goal.returns-in-Popped-clause-made
returns-in-Popped-clause-made c = rw c.in-Popped.is (ok_map _ _ _ (λ (r : Reg) a. applies_object (sort c.args.t.now) c.args.e.now _ _ r.0 _ Popped a) c.emit_popped.ensures.made)

pub returns-in-Part-clause-made : goal.returns-in-Part-clause-made
returns-in-Part-clause-made c = rw c.in-Part.is (ok_map _ _ _ (λ (r : Reg) a. applies_object (sort c.args.t.now) c.args.e.now _ _ r.0 _ (Part c.in-Part.number) a) c.emit_part_of.ensures.made)

pub returns-in-Absent-clause-made : goal.returns-in-Absent-clause-made
returns-in-Absent-clause-made c = rw c.in-Absent.is (ok_map _ _ _ (λ (r : Reg) a. applies_absent (sort c.args.t.now) c.args.e.now _ _ r.0 _ (rw c.in-Absent.is at c.requires.fits) a) c.emit_absence.ensures.made)

pub returns-in-Present-clause-made : goal.returns-in-Present-clause-made
returns-in-Present-clause-made c = rw c.in-Present.is (ok_map _ _ _ (λ (r : Reg) a. applies_present (sort c.args.t.now) c.args.e.now _ _ r.0 _ (rw c.in-Present.is at c.requires.fits) a) c.emit_presence.ensures.made)

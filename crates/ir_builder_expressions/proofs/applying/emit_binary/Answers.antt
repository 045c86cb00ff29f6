use Rattle.ir_builder_expressions.proofs.Common.{sort, Reg, ok_map}
use Rattle.ir_builder_expressions.proofs.ApplyLemmas.{applies_joined, applies_indexed, applies_item, applies_appended}
use Rattle.ir_builder_expressions.proofs.applying.emit_binary.Goals as goal

pub returns-in-Arithmetic-clause-made : goal.returns-in-Arithmetic-clause-made
returns-in-Arithmetic-clause-made c = rw c.in-Arithmetic.is c.emit_numbers.ensures.made

pub returns-in-Joined-clause-made : goal.returns-in-Joined-clause-made
returns-in-Joined-clause-made c = rw c.in-Joined.is (ok_map _ _ _ (λ (r : Reg) a. applies_joined (sort c.args.t.now) c.args.left.now c.args.right.now _ _ r.0 _ _ (rw c.in-Joined.is at c.requires.fits) a) c.emit_operation.ensures.made)

pub returns-in-Indexed-clause-made : goal.returns-in-Indexed-clause-made
returns-in-Indexed-clause-made c = rw c.in-Indexed.is (ok_map _ _ _ (λ (r : Reg) a. applies_indexed (sort c.args.t.now) c.args.left.now c.args.right.now _ _ r.0 _ _ (rw c.in-Indexed.is at c.requires.fits) a) c.emit_operation-in-Indexed.ensures.made)

pub returns-in-Item-clause-made : goal.returns-in-Item-clause-made
returns-in-Item-clause-made c = rw c.in-Item.is (ok_map _ _ _ (λ (r : Reg) a. applies_item (sort c.args.t.now) c.args.left.now c.args.right.now _ _ r.0 _ _ (rw c.in-Item.is at c.requires.fits) a) c.emit_item.ensures.made)

pub returns-in-Appended-clause-made : goal.returns-in-Appended-clause-made
returns-in-Appended-clause-made c = rw c.in-Appended.is (ok_map _ _ _ (λ (r : Reg) a. applies_appended (sort c.args.t.now) c.args.left.now c.args.right.now _ _ r.0 _ _ (rw c.in-Appended.is at c.requires.fits) a) c.emit_appended.ensures.made)

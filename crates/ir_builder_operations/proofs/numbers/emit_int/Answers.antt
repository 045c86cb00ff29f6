use Rattle.ir_builder_operations.proofs.Common.{sym, ap, ◌∙◌, pos, ◌*ℤ◌, signed_decimal, w64, w128, to_z-of_z, is_short, Reg, ok_map}
use Rattle.ir_builder_operations.proofs.LiteralLemmas.{short_makes, decimal_makes, twice_fits, decimal_answers}
use Rattle.ir_builder_operations.proofs.numbers.emit_int.Goals as goal

pub returns-then-is_short-clause-made : goal.returns-then-is_short-clause-made
returns-then-is_short-clause-made c =
    let word = to_z-of_z w64 c.doubled.result (record { sfits = c.doubled.type_inv }) in
    let number = to_z-of_z w128 c.args.n c.ranges.n in
    ok_map _ _ _ (λ (r : Reg) a. short_makes _ _ r.0 c.args.n _ (word ∙ c.doubled.ensures ∙ ap (λ z. pos 2 *ℤ z) number) a) c.literal.ensures.added

pub literal-requires : goal.literal-requires
literal-requires c =
    let word = to_z-of_z w64 c.doubled.result (record { sfits = c.doubled.type_inv }) in
    let number = to_z-of_z w128 c.args.n c.ranges.n in
    record { fits = twice_fits c.args.n _ (word ∙ c.doubled.ensures ∙ ap (λ z. pos 2 *ℤ z) number) (ap is_short (sym number) ∙ sym c.is_short.ensures ∙ c.if-is_short.true) }

pub returns-in_ok-decimal-clause-made : goal.returns-in_ok-decimal-clause-made
returns-in_ok-decimal-clause-made c =
    let number = to_z-of_z w128 c.args.n c.ranges.n in
    ok_map _ _ _ (λ (r : Reg) a. decimal_makes _ _ r.0 c.args.n _ c.ranges.n (ap is_short (sym number) ∙ sym c.is_short.ensures ∙ c.if-is_short.false) (c.as_str.ensures ∙ c.in_ok-decimal.ensures ∙ ap signed_decimal number) a) c.emit_written.ensures.added

pub emit_written-requires : goal.emit_written-requires
emit_written-requires c =
    let number = to_z-of_z w128 c.args.n c.ranges.n in
    record { fits = decimal_answers c.args.b.now.regs c.args.n _ c.as_str.utf8 c.ranges.n (ap is_short (sym number) ∙ sym c.is_short.ensures ∙ c.if-is_short.false) (c.as_str.ensures ∙ c.in_ok-decimal.ensures ∙ ap signed_decimal number) }

use Rattle.std.proofs.Common.{◌∙◌, sym, ap, arith, rules, length, ◌+◌, ◌*◌, ◌^◌, ◌<◌, ◌≤◌}
use Rattle.py_lexer.proofs.NumberLemmas.{too_large}
use Rattle.py_lexer.proofs.number.row.Goals as goal

pub returns-in_err-checked_mul-clause-value : goal.returns-in_err-checked_mul-clause-value
returns-in_err-checked_mul-clause-value c =
    let product = ap (λ b. c.loop-rest.value * b) c.from.ensures in
    let large : 2 ^ 127 ≤ c.loop-rest.value * c.args.base + c.in_ok-digit.digit = omega (arith, product, c.in_err-checked_mul.ensures) in
    let some : 0 < length c.args.all.now = search rules in
    c.from_residual-in_err-checked_mul.ensures ∙ sym (too_large c.loop-rest.rest.now c.args.all.now _ c.args.base c.loop-rest.value c.in_ok-digit.digit c.requires.0 c.in-len1-up.len_at_least some c.loop-rest.invariant c.if-first-ne95.true c.in_ok-digit.ensures.value.1 large)

pub returns-in_err-value-clause-value : goal.returns-in_err-value-clause-value
returns-in_err-value-clause-value c =
    let product = ap (λ b. c.loop-rest.value * b) c.from.ensures in
    let large : 2 ^ 127 ≤ c.loop-rest.value * c.args.base + c.in_ok-digit.digit = omega (arith, product, c.in_ok-checked_mul.ensures, c.in_err-value.ensures, c.from-then-first-ne95.ensures) in
    let some : 0 < length c.args.all.now = search rules in
    c.from_residual-in_err-value.ensures ∙ sym (too_large c.loop-rest.rest.now c.args.all.now _ c.args.base c.loop-rest.value c.in_ok-digit.digit c.requires.0 c.in-len1-up.len_at_least some c.loop-rest.invariant c.if-first-ne95.true c.in_ok-digit.ensures.value.1 large)

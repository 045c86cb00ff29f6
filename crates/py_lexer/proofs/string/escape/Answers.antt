use Rattle.std.proofs.Common.{ap, sym, ◌∙◌, ◌∷◌, [], Ok, ◌≡◌, arith}
use Rattle.py_lexer.specs.Strings.{escape_or_both, hex_len, backslash}
use Rattle.py_lexer.proofs.StringLemmas.{escape_letter}
use Rattle.py_lexer.proofs.string.escape.Goals as goal

pub returns-in_ok-push-in-Some-clause-value : goal.returns-in_ok-push-in-Some-clause-value
returns-in_ok-push-in-Some-clause-value c =
    let first = c.character_at-first.result in
    let rest = c.args.rest.now in
    let no_hex : hex_len first ≡ 0 = omega (arith, c.hex_len.ensures.value, c.if-hex_len-gt0.false) in
    let is = escape_letter c.args.line rest first c.character_at-first.ensures c.if-first-eq10.false (sym c.is_digit.ensures.value ∙ c.if-is_digit.false) no_hex c.if-first-eq78.false in (
      c.in-Some.c ∷ [],
      is ∙ ap (λ o. escape_or_both o rest) (sym c.simple_escape.ensures ∙ c.in-Some.is) ∙ ap (λ l. Ok (c.in-Some.c ∷ [], l)) (sym c.skip-in-Some.ensures),
      c.in_ok-push-in-Some.ensures.items,
    )

pub returns-in_ok-push_two-in-None-clause-value : goal.returns-in_ok-push_two-in-None-clause-value
returns-in_ok-push_two-in-None-clause-value c =
    let first = c.character_at-first.result in
    let rest = c.args.rest.now in
    let no_hex : hex_len first ≡ 0 = omega (arith, c.hex_len.ensures.value, c.if-hex_len-gt0.false) in
    let is = escape_letter c.args.line rest first c.character_at-first.ensures c.if-first-eq10.false (sym c.is_digit.ensures.value ∙ c.if-is_digit.false) no_hex c.if-first-eq78.false in (
      backslash ∷ first ∷ [],
      is ∙ ap (λ o. escape_or_both o rest) (sym c.simple_escape.ensures ∙ c.in-None.is) ∙ (λ i. Ok (backslash ∷ sym c.character_at-first.ensures i ∷ [], sym c.skip-in-None.ensures i)),
      c.in_ok-push_two-in-None.ensures,
    )

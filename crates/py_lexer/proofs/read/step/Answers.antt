use Rattle.std.proofs.Common.{◌≡◌, ◌∷◌, ℕ, suc, sym, ap, ◌∙◌}
use Rattle.std.proofs.lemmas.Result.{err_from_is_err_and}
use Rattle.py_lexer.specs.Places.{front_of}
use Rattle.py_lexer.specs.Pieces.{pieces}
use Rattle.py_lexer.specs.Remaining.{remaining, between, token_piece}
use Rattle.py_lexer.proofs.ReadLemmas.{gap_first, token_first, begun, begun_fails, fails_along, fails_now}
use Rattle.py_lexer.proofs.read.step.Goals as goal
use Rattle.py_lexer.proofs.read.step.Goals.{In_ok-begin}

pub returns-in-Some-clause-keeps : goal.returns-in-Some-clause-keeps
returns-in-Some-clause-keeps c = λ n.
    let end = c.args.end in let rest = c.args.rest.now in let after = c.in-Some.after.now in
    ap (remaining end c.args.reader.now)
    (gap_first end n rest c.in-Some.gap after c.requires.some c.in-Some.ensures.value
    ∙ (λ i. between c.in-Some.gap (front_of rest after) (sym c.place_of-from.ensures i) (sym c.place_of.ensures i) ∷ pieces end n after))
    ∙ c.in_ok-gap.ensures.keeps end (front_of rest after) (pieces end n after)

pub returns-in_err-gap-clause-keeps : goal.returns-in_err-gap-clause-keeps
returns-in_err-gap-clause-keeps c = λ n.
    let p = err_from_is_err_and c.from_residual.result c.from_residual.ensures.1 in
    rw (p.1, p.2) (
    let end = c.args.end in let rest = c.args.rest.now in let after = c.in-Some.after.now in
    fails_along c.in_err-gap.field-0.0 _ _
    (ap (remaining end c.args.reader.now)
    (gap_first end n rest c.in-Some.gap after c.requires.some c.in-Some.ensures.value
    ∙ (λ i. between c.in-Some.gap (front_of rest after) (sym c.place_of-from.ensures i) (sym c.place_of.ensures i) ∷ pieces end n after)))
    (c.in_err-gap.ensures.keeps end (front_of rest after) (pieces end n after))
    )

pub returns-in_err-begin-clause-keeps : goal.returns-in_err-begin-clause-keeps
returns-in_err-begin-clause-keeps c = λ n.
    let p = err_from_is_err_and c.from_residual-in_err-begin.result c.from_residual-in_err-begin.ensures.1 in
    rw (p.1, p.2) (
    begun_fails c.args.end c.place_of-from.result c.args.reader.now n c.args.rest.now c.in_err-begin.field-0.0 c.place_of-from.ensures c.requires.some c.in_default.ensures.value (c.in_err-begin.ensures.keeps c.args.end)
    )

-- the levels of the line are found
same_begun : (c : In_ok-begin) (n : ℕ) → remaining c.args.end c.args.reader.now (pieces c.args.end (suc n) c.args.rest.now) ≡ remaining c.args.end c.begin.new.self (pieces c.args.end (suc n) c.args.rest.now)
same_begun c n =
    begun c.args.end c.place_of-from.result c.args.reader.now c.begin.new.self n c.args.rest.now c.place_of-from.ensures c.requires.some c.in_default.ensures.value c.in_ok-begin.ensures.same.0 c.in_ok-begin.ensures.same.2 (c.in_ok-begin.ensures.keeps c.args.end)

pub returns-in_err-kind-clause-keeps : goal.returns-in_err-kind-clause-keeps
returns-in_err-kind-clause-keeps c = λ n.
    let p = err_from_is_err_and c.from_residual-in_err-kind.result c.from_residual-in_err-kind.ensures.1 in
    rw (p.1, p.2) (
    fails_along c.in_err-kind.field-0.0 _ _ (same_begun (goal.at.returns-in_err-kind-clause-keeps c).In_ok-begin n)
    (fails_now c.args.end n c.begin.new.self c.args.rest.now c.in_err-kind.field-0.0 c.requires.some c.in_default.ensures.value c.in_ok-begin.ensures.begun c.in_err-kind.ensures.value)
    )

pub returns-clause-keeps : goal.returns-clause-keeps
returns-clause-keeps c = λ n.
    let end = c.args.end in let rest = c.args.rest.now in let after = c.in_ok-kind.after.now in let kind = c.in_ok-kind.kind in
    same_begun (goal.at.returns-clause-keeps c).In_ok-begin n
    ∙ ap (remaining end c.begin.new.self)
    (token_first end n rest kind after c.requires.some c.in_default.ensures.value c.in_ok-kind.ensures.value
    ∙ (λ i. token_piece kind (front_of rest after) (sym c.place_of-from.ensures i) (sym c.place_of-to.ensures i) ∷ pieces end n after))
    ∙ c.in_ok-token.ensures.keeps end (front_of rest after) (pieces end n after)

pub returns-in_err-token-clause-keeps : goal.returns-in_err-token-clause-keeps
returns-in_err-token-clause-keeps c = λ n.
    let p = err_from_is_err_and c.from_residual-in_err-token.result c.from_residual-in_err-token.ensures.1 in
    rw (p.1, p.2) (
    let end = c.args.end in let rest = c.args.rest.now in let after = c.in_ok-kind.after.now in let kind = c.in_ok-kind.kind in
    fails_along c.in_err-token.field-0.0 _ _
    (same_begun (goal.at.returns-in_err-token-clause-keeps c).In_ok-begin n
    ∙ ap (remaining end c.begin.new.self)
    (token_first end n rest kind after c.requires.some c.in_default.ensures.value c.in_ok-kind.ensures.value
    ∙ (λ i. token_piece kind (front_of rest after) (sym c.place_of-from.ensures i) (sym c.place_of-to.ensures i) ∷ pieces end n after)))
    (c.in_err-token.ensures.keeps end (front_of rest after) (pieces end n after))
    )

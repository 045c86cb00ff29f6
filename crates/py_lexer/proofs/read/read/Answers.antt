use Rattle.std.proofs.Common.{◌≡◌, ◌-◌, ◌<◌, sym, ap, subst, ◌∙◌, rules, arith, length, Result, List}
use Rattle.std.proofs.lemmas.List.{nil_from_length}
use Rattle.std.proofs.lemmas.Result.{err_from_is_err_and}
use Rattle.py_syntax.specs.declared.token.Token.{Token}
use Rattle.py_lexer.specs.Pieces.{pieces}
use Rattle.py_lexer.specs.Reading.{Gives, Fault}
use Rattle.py_lexer.specs.Remaining.{remaining}
use Rattle.py_lexer.proofs.ReadLemmas.{one_more, none_left, fails_along}
use Rattle.py_lexer.proofs.read.read.Goals as goal

pub pieces-preserved : goal.pieces-preserved
pieces-preserved c =
    let before = c.pieces.invariant in
    let some : 0 < length c.pieces.rest.now = search rules in
    let n = before.so_far.0 in
    record {
      within = omega (arith, c.in_ok-rest.ensures.shorter);
      wide = omega (arith, c.in_ok-rest.ensures.shorter, c.in_ok-rest.ensures.wide);
      narrow = omega (arith, c.in_ok-rest.ensures.shorter, c.in_ok-rest.ensures.narrow);
      so_far = (
        n - 1,
        omega (arith, c.in_ok-rest.ensures.shorter, before.so_far.1),
        before.so_far.2
            ∙ ap (λ k. remaining c.args.end c.pieces.reader (pieces c.args.end k c.pieces.rest.now)) (one_more n (length c.pieces.rest.now) some before.so_far.1)
            ∙ c.in_ok-rest.ensures.keeps (n - 1),
      );
    }

pub returns-in_err-rest : goal.returns-in_err-rest
returns-in_err-rest c =
    let before = c.pieces.invariant in
    let some : 0 < length c.pieces.rest.now = search rules in
    let n = before.so_far.0 in
    let p = err_from_is_err_and c.from_residual.result c.from_residual.ensures.1 in
    rw (p.1, p.2) (
    fails_along c.in_err-rest.field-0.0 _ _
    (before.so_far.2 ∙ ap (λ k. remaining c.args.end c.pieces.reader (pieces c.args.end k c.pieces.rest.now)) (one_more n (length c.pieces.rest.now) some before.so_far.1))
    (c.in_err-rest.ensures.keeps (n - 1))
    )

pub returns : goal.returns
returns c =
    let before = c.pieces.invariant in
    let none : length c.pieces.rest.now ≡ 0 = search rules in
    subst (λ (r : Result (List Token) Fault). Gives (λ t. t.list) c.finish.result r)
    (sym (before.so_far.2 ∙ ap (remaining c.args.end c.pieces.reader) (none_left c.args.end before.so_far.0 c.pieces.rest.now (nil_from_length _ none))))
    c.finish.ensures

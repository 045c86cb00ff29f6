use Rattle.std.proofs.Common.{sym, ap, ◌∙◌, rules, arith, Ok, drop}
use Rattle.std.proofs.lemmas.Result.{err_from_is_err_and}
use Rattle.py_lexer.specs.Strings.{with_front, body}
use Rattle.py_lexer.proofs.StringLemmas.{front_none, body_on, body_closes, body_over, body_fails}
use Rattle.py_lexer.proofs.string.body.Goals as goal

pub elements-init : goal.elements-init
elements-init c = record {
  within = omega arith;
  so_far = λ n le. (n, le, sym (front_none _) ∙ ap (λ l. with_front l (body n c.args.style c.args.all.now)) (sym c.new-out.ensures.items));
}

pub returns-then-closes-clause-value : goal.returns-then-closes-clause-value
returns-then-closes-clause-value c = λ n le.
    let so_far = c.elements.invariant.so_far n le in
    so_far.2 ∙ body_closes so_far.0 c.args.style c.elements.rest.now c.elements.out.items (search rules) so_far.1 (sym c.closes.ensures ∙ c.if-closes.true) ∙ ap (λ l. Ok (c.elements.out.items, l)) (sym (c.skip.ensures ∙ ap (λ k. drop k c.elements.rest.now) c.quote_len.ensures))

pub elements-preserved : goal.elements-preserved
elements-preserved c = record {
  within = search rules;
  so_far = λ n le.
      let so_far = c.elements.invariant.so_far n le in
      let read = c.in_ok-rest.ensures.value in
      let on = body_on so_far.0 c.args.style c.elements.rest.now c.in_ok-rest.rest.now c.elements.out.items read.0 c.element.new.out.items (search rules) so_far.1 (sym c.closes.ensures ∙ c.if-closes.false) read.1 c.in_ok-rest.ensures.shorter read.2 in
      (on.0, on.1, so_far.2 ∙ on.2);
}

pub returns-clause-value : goal.returns-clause-value
returns-clause-value c = λ n le.
    let so_far = c.elements.invariant.so_far n le in
    so_far.2 ∙ body_over so_far.0 c.args.style c.elements.rest.now c.elements.out.items (search rules)

pub returns-in_err-rest-clause-value : goal.returns-in_err-rest-clause-value
returns-in_err-rest-clause-value c = λ n le.
    let so_far = c.elements.invariant.so_far n le in
    let p = err_from_is_err_and c.from_residual.result c.from_residual.ensures.1 in
    rw (p.1, p.2) (body_fails so_far.0 c.args.style c.elements.rest.now c.elements.out.items _ c.in_err-rest.field-0.0 so_far.2 (search rules) so_far.1 (sym c.closes.ensures ∙ c.if-closes.false) c.in_err-rest.ensures.value)

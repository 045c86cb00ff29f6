use Rattle.std.proofs.Common.{◌≡◌, List, Option, Result, IfOk, length, map, ap, sym, ◌∙◌, subst}
use Rattle.std.specs.Option.{option_map}
use Rattle.py_typed.specs.Sorts.{sort}
use Rattle.py_typed.specs.Expressions.{TypedExpr, typed_expr}
use Rattle.py_check_context.specs.Context.{context, wanted}
use Rattle.py_check_messages.specs.Seen.{Message, Tells, judged, ruled}
use Rattle.py_check_calls.specs.Calls.{takes, taken}
use Rattle.py_check_calls.proofs.CallLemmas.{numbers_agree}
use Rattle.py_check_calls.proofs.taking.taken.Goals as goal

pub returns : goal.returns
returns c =
    let classes = (context c.args.site.scope.now).classes in
    let w = wanted c.args.site.want in
    let params = c.args.params.now in
    let ret = c.args.ret.now in
    let f = c.args.f.now in
    let es = c.in-Some.es in
    let e : length es ≡ length params = sym c.len.ensures ∙ c.if-len-number.false in
    let P : Result (List TypedExpr) Message → Type 0 = λ r. IfOk c.fitting.result (λ t. Tells (map typed_expr) t c.args.faults.now c.fitting.new.faults (judged c.args.site.span r)) in
    let Q : Option (List TypedExpr) → Type 0 = λ o. IfOk c.fitting.result (λ t. Tells (map typed_expr) t c.args.faults.now c.fitting.new.faults (ruled c.args.site.span (taken classes w f (takes (map sort params) (sort ret))) o)) in
    subst Q (sym (ap (option_map (map typed_expr)) c.in-Some.is)) (subst P (sym (numbers_agree classes w f params ret es e)) c.fitting.ensures)

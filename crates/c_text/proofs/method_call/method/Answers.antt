use Rattle.std.proofs.Common.{◌≡◌, sym}
use Rattle.c_text.proofs.MethodReads.{method_alike, method_inside}
use Rattle.c_text.proofs.method_call.method.Goals as goal

pub returns-in_default-label-clause-finds : goal.returns-in_default-label-clause-finds
returns-in_default-label-clause-finds c = λ n args h k e.
    let p = method_inside c.args.vars.now n args c.args.text.now c.in-Some.inside.now c.up_to_comma.result.0.now c.up_to_comma.result.1.now e c.in-Some.ensures c.up_to_comma.ensures.finds in
    let none = c.in_default-label.ensures.finds n h (sym p.0) in
    cc

pub returns-in-Some-2-clause-finds : goal.returns-in-Some-2-clause-finds
returns-in-Some-2-clause-finds c = λ n args h k e.
    let p = method_inside c.args.vars.now n args c.args.text.now c.in-Some.inside.now c.up_to_comma.result.0.now c.up_to_comma.result.1.now e c.in-Some.ensures c.up_to_comma.ensures.finds in
    let number = c.in-Some-label.ensures.finds n h (sym p.0) in
    let others = rw c.in-Some-2.is at (c.in_ok-args.ensures.finds args k (sym p.1)) in
    let same : n ≡ c.in-Some-label.number = cc in
    method_alike c.args.vars.now n c.in-Some-label.number args c.in-Some-2.args same others

pub returns-in-None-clause-finds : goal.returns-in-None-clause-finds
returns-in-None-clause-finds c = λ n args h k e.
    let p = method_inside c.args.vars.now n args c.args.text.now c.in-Some.inside.now c.up_to_comma.result.0.now c.up_to_comma.result.1.now e c.in-Some.ensures c.up_to_comma.ensures.finds in
    rw c.in-None.is at (c.in_ok-args.ensures.finds args k (sym p.1))

use Rattle.std.proofs.Common.{refl}
use Rattle.mypyc_top.specs.Running.{runs, no_text, ill_formed}
use Rattle.mypyc_top.proofs.plan.text_plan.Goals as goal

pub returns-in-Ok-clause-answer : goal.returns-in-Ok-clause-answer
returns-in-Ok-clause-answer c = λ items lines stop e.
    let code = c.in-Ok.ensures.code in runs c.in-Ok.code code.0 code.1 (stop, e, refl, refl, refl)

pub returns-in_ok-refused_reply-in-Err-Refused-clause-answer : goal.returns-in_ok-refused_reply-in-Err-Refused-clause-answer
returns-in_ok-refused_reply-in-Err-Refused-clause-answer c = λ items.
    let e = c.in_ok-refused_reply-in-Err-Refused.ensures in
    let fault = rw c.in-Err-Refused.field-0-is at c.in-Err-Refused.ensures.fault in
    no_text c.in-Err-Refused.place fault.0 fault.1 e.0 e.1 e.2

pub returns-in_ok-ill_formed_reply-in-Err-IllFormed-clause-answer : goal.returns-in_ok-ill_formed_reply-in-Err-IllFormed-clause-answer
returns-in_ok-ill_formed_reply-in-Err-IllFormed-clause-answer c = λ items.
    let e = c.in_ok-ill_formed_reply-in-Err-IllFormed.ensures in
    let fault = rw c.in-Err-IllFormed.field-0-is at c.in-Err-IllFormed.ensures.fault in
    ill_formed fault.0 fault.1 e.0 e.1 e.2

pub returns-in-Ok-clause-text : goal.returns-in-Ok-clause-text
returns-in-Ok-clause-text c = c.in-Ok.ensures.code.1

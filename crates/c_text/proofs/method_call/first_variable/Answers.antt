use Rattle.std.proofs.Common.{◌∙◌, arith, refl, sym}
use Rattle.c_core.specs.Text.{var_text}
use Rattle.c_text.proofs.ArgumentLemmas.{HasNo-variable}
use Rattle.c_text.proofs.Bytes.{comma_stops}
use Rattle.c_text.proofs.method_call.first_variable.Goals as goal

pub returns-in-Some-clause-finds : goal.returns-in-Some-clause-finds
returns-in-Some-clause-finds c = λ x rest h ends e.
    let p = c.up_to_comma.ensures.finds (var_text c.args.vars.now x) rest (HasNo-variable 44 c.args.vars.now x (omega arith) comma_stops refl c.requires h) ends e in
    (sym p.0 ∙ sym c.in-Some.ensures.1, p.1)

pub returns-in-None-clause-finds : goal.returns-in-None-clause-finds
returns-in-None-clause-finds c = λ x rest h ends e.
    let p = c.up_to_comma.ensures.finds (var_text c.args.vars.now x) rest (HasNo-variable 44 c.args.vars.now x (omega arith) comma_stops refl c.requires h) ends e in
    c.in-None.ensures x h (sym p.0)

use Rattle.std.proofs.Common.{refl, sym}
use Rattle.c_text.specs.Methods.{method_behind}
use Rattle.c_text.proofs.MethodReads.{virtual_found}
use Rattle.c_text.proofs.method_call.virtual_call.Goals as goal

pub returns-in-Some-2-clause-finds : goal.returns-in-Some-2-clause-finds
returns-in-Some-2-clause-finds c = λ o n args p q k e.
    let vars = c.args.vars.now in
    let f = c.in-Some.ensures.finds o (method_behind vars (n, args)) p refl e in
    let method = rw c.in-Some-2.is at (c.in_ok-number.ensures.finds n args q k (sym f.1)) in
    virtual_found vars c.args.place o c.in-Some.object n c.in-Some-2.number args c.in-Some-2.args f.0 method

pub returns-in-None-clause-finds : goal.returns-in-None-clause-finds
returns-in-None-clause-finds c = λ o n args p q k e.
    let f = c.in-Some.ensures.finds o (method_behind c.args.vars.now (n, args)) p refl e in
    rw c.in-None.is at (c.in_ok-number.ensures.finds n args q k (sym f.1))

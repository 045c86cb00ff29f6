use Rattle.std.proofs.Common.{◌++◌, ◌∙◌, ap, refl, sym}
use Rattle.std.proofs.lemmas.Bool.{false≢true}
use Rattle.c_core.specs.Text.{comma, type_text}
use Rattle.c_core.specs.WellFormed.{is_identifier}
use Rattle.c_text.specs.Methods.{method_behind}
use Rattle.c_text.proofs.MethodReads.{for_trait_found, for_trait_inside}
use Rattle.c_text.proofs.method_call.trait_call.Goals as goal

pub returns-in_default-2-clause-finds : goal.returns-in_default-2-clause-finds
returns-in_default-2-clause-finds c = λ o t n args p q r k e.
    let vars = c.args.vars.now in
    let f = c.in-Some.ensures.finds o (comma ++ (type_text t ++ method_behind vars (n, args))) p refl e in
    let w = for_trait_inside vars t n args c.in-Some.after.now c.in-Some-behind.text.now c.up_to_comma.result.0.now c.up_to_comma.result.1.now q f.1 c.in-Some-behind.ensures c.up_to_comma.ensures.finds in
    let none = rw c.in_default-2.is at c.in_ok-name.ensures in
    false≢true (sym none ∙ ap is_identifier w.0 ∙ q)

pub returns-in-Some-3-clause-finds : goal.returns-in-Some-3-clause-finds
returns-in-Some-3-clause-finds c = λ o t n args p q r k e.
    let vars = c.args.vars.now in
    let f = c.in-Some.ensures.finds o (comma ++ (type_text t ++ method_behind vars (n, args))) p refl e in
    let w = for_trait_inside vars t n args c.in-Some.after.now c.in-Some-behind.text.now c.up_to_comma.result.0.now c.up_to_comma.result.1.now q f.1 c.in-Some-behind.ensures c.up_to_comma.ensures.finds in
    let name = rw c.in-Some-2.is at c.in_ok-name.ensures in
    let method = rw c.in-Some-3.is at (c.in_ok-number.ensures.finds n args r k (sym w.1)) in
    for_trait_found vars c.args.place o c.in-Some.object t c.in-Some-2.name n c.in-Some-3.number args c.in-Some-3.args f.0 (sym w.0 ∙ sym name.0) method

pub returns-in-None-clause-finds : goal.returns-in-None-clause-finds
returns-in-None-clause-finds c = λ o t n args p q r k e.
    let vars = c.args.vars.now in
    let f = c.in-Some.ensures.finds o (comma ++ (type_text t ++ method_behind vars (n, args))) p refl e in
    let w = for_trait_inside vars t n args c.in-Some.after.now c.in-Some-behind.text.now c.up_to_comma.result.0.now c.up_to_comma.result.1.now q f.1 c.in-Some-behind.ensures c.up_to_comma.ensures.finds in
    rw c.in-None.is at (c.in_ok-number.ensures.finds n args r k (sym w.1))

use Rattle.std.proofs.Common.{◌≡◌, sym, ◌∙◌, ap}
use Rattle.c_core.specs.Primitives.{primitive_named}
use Rattle.c_core.specs.WellFormed.{call_fits, callee_of, line_fits}
use Rattle.c_core.proofs.well_formed.line_fits.Goals as goal

-- the names of all rows are too many for `search`
pub returns-in-Call : goal.returns-in-Call
returns-in-Call c =
    let code = c.args.code.now in
    let vars = c.args.vars.now in
    let primitive : c.named-primitive.result ≡ primitive_named c.as_str.result.now = c.named-primitive.ensures in
    c.call_fits.ensures
    ∙ (ap (λ z. call_fits code vars c.in-Call.target z c.named-primitive.result c.args.found.callee) c.as_slice.ensures
    ∙ (ap (λ z. call_fits code vars c.in-Call.target c.in-Call.args z c.args.found.callee) (primitive ∙ ap primitive_named c.as_str.ensures)
    ∙ (ap (λ z. call_fits code vars c.in-Call.target c.in-Call.args (primitive_named c.in-Call.name) z) (c.requires.callee ∙ ap (callee_of code.funcs) c.in-Call.is)
    ∙ ap (line_fits code vars c.args.ret) (sym c.in-Call.is))))

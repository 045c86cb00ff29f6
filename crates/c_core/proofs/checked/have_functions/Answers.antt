use Rattle.std.proofs.Common.{◌≡◌, ◌<◌, ◌∙◌, ap, length, arith}
use Rattle.c_core.specs.WellFormed.{has_function}
use Rattle.c_core.proofs.LineLemmas.{all_stop, all_more}
use Rattle.c_core.proofs.checked.have_functions.Goals as goal

pub returns-then-not-has_function : goal.returns-then-not-has_function
returns-then-not-has_function c =
    let within : c.loop-name.name-index < length c.args.names.now = omega arith in
    let says : c.has_function.result ≡ has_function c.args.code.now c.name-item.result =
    c.has_function.ensures ∙ ap (has_function c.args.code.now) c.as_str.ensures in
    all_stop (has_function c.args.code.now) c.args.names.now c.loop-name.name-index c.name-item.result c.has_function.result within c.name-item.is says c.loop-name.invariant c.if-not-has_function.true

pub loop-name-preserved : goal.loop-name-preserved
loop-name-preserved c =
    let within : c.loop-name.name-index < length c.args.names.now = omega arith in
    let says : c.has_function.result ≡ has_function c.args.code.now c.name-item.result =
    c.has_function.ensures ∙ ap (has_function c.args.code.now) c.as_str.ensures in
    all_more (has_function c.args.code.now) c.args.names.now c.loop-name.name-index c.name-item.result c.has_function.result within c.name-item.is says c.loop-name.invariant c.if-not-has_function.false

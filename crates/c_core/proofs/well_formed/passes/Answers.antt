use Rattle.std.proofs.Common.{◌≡◌, ◌<◌, [], ◌∷◌, length, arith, sym, ap, ◌∙◌}
use Rattle.c_core.specs.WellFormed.{Declared, passes}
use Rattle.c_core.proofs.LineLemmas.{lengths_differ, passes_stop, passes_more}
use Rattle.c_core.proofs.well_formed.passes.Goals as goal

pub returns-then-parameters-args : goal.returns-then-parameters-args
returns-then-parameters-args c = lengths_differ c.args.vars.now c.args.parameters.now c.args.args.now c.if-parameters-args.true

pub returns-then-not-is_passed : goal.returns-then-not-is_passed
returns-then-not-is_passed c =
    let within : c.loop-i.i < length c.args.args.now = omega arith in
    let also : c.loop-i.i < length c.args.parameters.now = omega (arith, c.loop-i.invariant.same_length) in
    let here : c.is_passed.result ≡ passes c.args.vars.now (c.index-parameters-i.result.1 ∷ []) (c.index-args-i.result ∷ []) =
    c.is_passed.ensures ∙ ap (λ (p : Declared). passes c.args.vars.now (p.1 ∷ []) (c.index-args-i.result ∷ [])) (sym c.index-parameters-i.is) in
    passes_stop c.args.vars.now c.args.parameters.now c.args.args.now c.loop-i.i c.index-parameters-i.result c.index-args-i.result c.is_passed.result also c.index-parameters-i.is within c.index-args-i.is here c.if-not-is_passed.true c.loop-i.invariant.same

pub loop-i-preserved : goal.loop-i-preserved
loop-i-preserved c =
    let within : c.loop-i.i < length c.args.args.now = omega arith in
    let also : c.loop-i.i < length c.args.parameters.now = omega (arith, c.loop-i.invariant.same_length) in
    let here : c.is_passed.result ≡ passes c.args.vars.now (c.index-parameters-i.result.1 ∷ []) (c.index-args-i.result ∷ []) =
    c.is_passed.ensures ∙ ap (λ (p : Declared). passes c.args.vars.now (p.1 ∷ []) (c.index-args-i.result ∷ [])) (sym c.index-parameters-i.is) in record {
      same_length = c.loop-i.invariant.same_length;
      same = passes_more c.args.vars.now c.args.parameters.now c.args.args.now c.loop-i.i c.index-parameters-i.result c.index-args-i.result c.is_passed.result also c.index-parameters-i.is within c.index-args-i.is here c.if-not-is_passed.false c.loop-i.invariant.same;
    }

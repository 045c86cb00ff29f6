use Rattle.std.proofs.Common.{refl, sym, ap, ◌∙◌, ◌<◌, length, map, arith}
use Rattle.std.proofs.lemmas.List.{take_all}
use Rattle.c_core.specs.WellFormed.{names_differ}
use Rattle.c_core.proofs.NameLemmas.{knows, known_more, not_added, differ_still}
use Rattle.c_core.proofs.checked.names_are_distinct.Goals as goal

pub loop-var-init : goal.loop-var-init
loop-var-init c = record { known = λ name. ap (λ keys. knows keys name) c.new-seen.ensures.empty; differ = refl }

pub returns-then-not-branch : goal.returns-then-not-branch
returns-then-not-branch c =
    let within : c.loop-var.var-index < length c.args.vars.now = omega arith in
    not_added (λ var. var.0) c.args.vars.now c.loop-var.var-index c.var-item.result within c.var-item.is c.loop-var.seen.keys c.as_str.result c.in_ok-insert.field-0 c.as_str.ensures c.in_ok-insert.ensures.added c.loop-var.invariant.known c.loop-var.invariant.differ c.if-not-branch.true

pub loop-var-preserved : goal.loop-var-preserved
loop-var-preserved c =
    let within : c.loop-var.var-index < length c.args.vars.now = omega arith in
    record {
      known = λ name. ap (λ keys. knows keys name) c.in_ok-insert.ensures.keys ∙ known_more (λ var. var.0) c.args.vars.now c.loop-var.var-index c.var-item.result within c.var-item.is c.loop-var.seen.keys c.as_str.result c.as_str.ensures c.loop-var.invariant.known name;
      differ = differ_still (λ var. var.0) c.args.vars.now c.loop-var.var-index c.var-item.result within c.var-item.is c.loop-var.seen.keys c.as_str.result c.in_ok-insert.field-0 c.as_str.ensures c.in_ok-insert.ensures.added c.loop-var.invariant.known c.loop-var.invariant.differ c.if-not-branch.false;
    }

pub returns : goal.returns
returns c =
    let whole = take_all c.loop-var.var-index c.args.vars.now (omega arith) in
    sym (ap (λ vars. names_differ (map (λ var. var.0) vars)) (sym whole) ∙ c.loop-var.invariant.differ)

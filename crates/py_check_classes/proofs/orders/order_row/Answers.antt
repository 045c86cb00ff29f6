use Rattle.std.proofs.Common.{◌∙◌, sym}
use Rattle.py_check_classes.proofs.StepLemmas.{row_further, row_whole}
use Rattle.py_check_classes.proofs.orders.order_row.Goals as goal

pub loop-base-preserved : goal.loop-base-preserved
loop-base-preserved c =
    let facts : _ = row_further c.args.headers.now c.args.orders.now c.requires.kept c.loop-base.at c.in-Some.base c.loop-base.row c.push.new.self _ c.loop-base.invariant.there (sym c.in-Some.is ∙ c.only_base.ensures) c.in_ok-push.ensures.ok c.loop-base.invariant.row in
    record { there = facts.0; row = facts.1 }

pub loop-base-smaller : goal.loop-base-smaller
loop-base-smaller c =
    let facts : _ = row_further c.args.headers.now c.args.orders.now c.requires.kept c.loop-base.at c.in-Some.base c.loop-base.row c.push.new.self _ c.loop-base.invariant.there (sym c.in-Some.is ∙ c.only_base.ensures) c.in_ok-push.ensures.ok c.loop-base.invariant.row in
    facts.2

pub returns : goal.returns
returns c =
    row_whole c.args.headers.now c.args.orders.now c.requires.kept c.loop-base.at c.loop-base.row c.add_kept.new.row _ c.loop-base.invariant.there (sym c.in_default.is ∙ c.only_base.ensures) c.in_ok-add_kept.ensures c.loop-base.invariant.row

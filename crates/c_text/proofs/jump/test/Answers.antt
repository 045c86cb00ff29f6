use Rattle.c_text.proofs.StatementReads.{test_reads, test_unclosed, test_without_labels}
use Rattle.c_text.proofs.jump.test.Goals as goal

pub returns-in_default : goal.returns-in_default
returns-in_default c = test_unclosed c.args.vars.now c.args.text.now c.in_default.ensures

pub returns-in-Some-both_labels : goal.returns-in-Some-both_labels
returns-in-Some-both_labels c =
    test_reads c.args.vars.now c.args.text.now c.in-Some.inside.now c.in-Some.rest.now c.in-Some-both_labels.first c.in-Some-both_labels.second c.both_labels.result c.tested.result c.requires c.in-Some.ensures c.both_labels.ensures.finds c.in-Some-both_labels.is c.tested.ensures

pub returns-in-None : goal.returns-in-None
returns-in-None c =
    test_without_labels c.args.vars.now c.args.text.now c.in-Some.inside.now c.in-Some.rest.now c.both_labels.result c.requires c.in-Some.ensures c.both_labels.ensures.finds c.in-None.is

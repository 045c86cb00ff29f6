use Rattle.std.proofs.Common.{◌<◌, length, arith}
use Rattle.c_core.specs.WellFormed.{class_fits}
use Rattle.c_core.proofs.LineLemmas.{all_stop, all_more}
use Rattle.c_core.proofs.checked.check_classes.Goals as goal

pub returns-then-not-branch : goal.returns-then-not-branch
returns-then-not-branch c =
    let within : c.loop-class.class-index < length c.args.classes.now = omega arith in
    all_stop (class_fits c.args.code.now) c.args.classes.now c.loop-class.class-index c.class-item.result c.in_ok-check_class.field-0 within c.class-item.is c.in_ok-check_class.ensures c.loop-class.invariant c.if-not-branch.true

pub loop-class-preserved : goal.loop-class-preserved
loop-class-preserved c =
    let within : c.loop-class.class-index < length c.args.classes.now = omega arith in
    all_more (class_fits c.args.code.now) c.args.classes.now c.loop-class.class-index c.class-item.result c.in_ok-check_class.field-0 within c.class-item.is c.in_ok-check_class.ensures c.loop-class.invariant c.if-not-branch.false

use Rattle.ir_builder_choices.proofs.Common.{arith, extends_trans, type_kept}
use Rattle.ir_core.specs.declared.code.RType.TheVariants.{Bool}
use Rattle.ir_builder_choices.proofs.BuildLemmas.{meets_by}
use Rattle.ir_builder_choices.proofs.choice.meet.Goals as goal

pub patch-requires-clause-fits : goal.patch-requires-clause-fits
patch-requires-clause-fits c =
    let r = c.requires in
    let first = r.first in
    let end = r.end in
    let second = r.second in
    let here = r.here in
    let pushed = c.in_ok-push.ensures.pushed.blocks in
    let closed = c.in_ok-join.ensures.closed.blocks in
    (((omega arith, omega arith), (omega arith, omega arith)), type_kept _ _ c.args.condition.0 Bool (extends_trans _ _ _ c.in_ok-push.ensures.kept c.in_ok-join.ensures.kept) r.flag)

pub returns-clause-meets : goal.returns-clause-meets
returns-clause-meets c =
    let order = c.requires.first in
    let above = c.requires.end in
    meets_by _ _ _ _ _ _ _ _ _ _ _ _ _ c.in_ok-push.ensures.pushed c.in_ok-join.ensures.closed c.in_ok-join.ensures.number c.patch.ensures.set c.patch-2.ensures.set c.requires.test_open c.requires.end_open (omega arith)

use Rattle.std.proofs.Common.{rules, ◌≡◌, length}
use Rattle.py_check_names.proofs.OutlineLemmas.{said_on, held_on}
use Rattle.py_check_names.proofs.outline.outline_of.Goals as goal

pub loop-s-preserved : goal.loop-s-preserved
loop-s-preserved c =
    let next : c.len.result ≡ length c.loop-s.functions.items = search (rules, c.len.ensures) in (
      said_on c.args.definitions.now c.loop-s.s-index c.s-item.result c.loop-s-test.true c.s-item.is _ _ _ c.loop-s.functions.items c.hold.new.functions.items c.len.result next c.in_ok-say.ensures c.in_ok-hold.ensures c.loop-s.invariant.0,
      held_on c.args.definitions.now c.loop-s.s-index c.s-item.result c.loop-s-test.true c.s-item.is _ c.loop-s.functions.items c.hold.new.functions.items c.in_ok-hold.ensures c.loop-s.invariant.1,
    )

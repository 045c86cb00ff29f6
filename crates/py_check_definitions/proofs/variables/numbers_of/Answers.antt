use Rattle.std.proofs.Common.{rules, ◌<◌, length}
use Rattle.py_check_definitions.proofs.VariableLemmas.{numbers_on}
use Rattle.py_check_definitions.proofs.variables.numbers_of.Goals as goal

pub loop-i-preserved : goal.loop-i-preserved
loop-i-preserved c =
    let h : c.loop-i.i < length c.args.names.now = search (rules, c.loop-i-test.true) in
    numbers_on c.args.names.now c.loop-i.i h _ _ _ c.in_ok-push.ensures.items c.loop-i.invariant

use Rattle.std.proofs.Common.{rules, ◌<◌, length}
use Rattle.py_check_definitions.proofs.VariableLemmas.{variables_on}
use Rattle.py_check_definitions.proofs.variables.typed_variables.Goals as goal

pub loop-i-preserved : goal.loop-i-preserved
loop-i-preserved c =
    let h : c.loop-i.i < length c.args.names.now = search (rules, c.loop-i-test.true) in
    variables_on c.args.names.now c.loop-i.i c.index-names-i.result h c.index-names-i.is c.args.types.now _ c.get.ensures.value _ _ _ _ c.in_ok-push.ensures.ok c.in_ok-made.ensures c.loop-i.invariant

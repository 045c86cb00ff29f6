use Rattle.std.proofs.Common.{refl}
use Rattle.py_check_definitions.proofs.DefinitionLemmas.{given_step}
use Rattle.py_check_definitions.proofs.definitions.add_all.Goals as goal

pub loop-name-preserved : goal.loop-name-preserved
loop-name-preserved c =
    given_step c.args.given.now c.loop-name.name-index c.loop-name-item.result c.loop-name-test.true c.loop-name-item.is _ _ _ _ refl c.in_ok-add_name.ensures c.loop-name.invariant

use Rattle.py_binder.proofs.FaultLemmas.{scopes_step, faults_step}
use Rattle.py_binder.proofs.bodies.add_all_functions.Goals as goal

pub loop-sight-preserved : goal.loop-sight-preserved
loop-sight-preserved c = (
  scopes_step _ _ _ _ c.loop-sight-test.true c.sight-item.is _ _ _ c.in_ok-add_function.ensures.scopes c.loop-sight.invariant.0,
  faults_step _ _ _ c.requires _ _ _ c.loop-sight-test.true c.sight-item.is _ _ _ _ c.in_ok-add_faults_at.ensures c.in_ok-add_function.ensures.faults c.loop-sight.invariant.1,
)

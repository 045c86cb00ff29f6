use Rattle.py_binder.proofs.FaultLemmas.{body_step}
use Rattle.py_binder.proofs.faults.add_body_faults.Goals as goal

pub loop-sight-preserved : goal.loop-sight-preserved
loop-sight-preserved c = body_step _ _ _ _ _ _ _ c.loop-sight-test.true c.sight-item.is _ _ _ c.in_ok-add_faults_at.ensures c.in_ok-refuse.ensures c.loop-sight.invariant

use Rattle.std.proofs.Common.{map}
use Rattle.py_typed.specs.Statements.{typed_target}
use Rattle.py_check_values.specs.Aims.{aim_seen}
use Rattle.py_check_targets.specs.Targets.{targets_of}
use Rattle.py_check_assignments.proofs.AssignmentLemmas.{target_step}
use Rattle.py_check_assignments.proofs.assignments.targets_of.Goals as goal

pub loop-a-preserved : goal.loop-a-preserved
loop-a-preserved c =
    target_step (map typed_target c.loop-a.targets) (map typed_target c.put_target.new.targets) c.loop-a.rest.items c.pop.new.self.items c.in-Some.a (targets_of (map aim_seen c.args.aims)) c.in-Some.ensures.items c.in_ok-put_target.ensures c.loop-a.invariant

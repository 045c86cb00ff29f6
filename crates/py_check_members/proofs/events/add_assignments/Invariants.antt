use Rattle.std.proofs.Common.{◌≡◌, ◌++◌, map, drop}
use Rattle.std.specs.List.{flat_map}
use Rattle.py_syntax.specs.Statements.{param_tree}
use Rattle.py_check_names.specs.Walked.{trees}
use Rattle.py_check_members.specs.Deeds.{stmt_events}
use Rattle.py_check_members.specs.Views.{events_of}
use Rattle.py_check_members.proofs.events.add_assignments.Given as goal

abbrev pub invariant-loop-s : goal.invariant-loop-s
invariant-loop-s l =
    events_of l.found.items ++ flat_map (stmt_events l.object.name.now (map param_tree l.object.params.now)) (trees (drop l.s-index l.body))
    ≡ events_of l.fn.found.items ++ flat_map (stmt_events l.object.name.now (map param_tree l.object.params.now)) (trees l.body)

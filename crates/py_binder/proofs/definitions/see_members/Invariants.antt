use Rattle.std.proofs.Common.{◌≡◌, ◌++◌, drop}
use Rattle.py_syntax.specs.Statements.{body_tree}
use Rattle.py_binder.specs.Sights.{members_sights}
use Rattle.py_binder.specs.Collected.{sights_of}
use Rattle.py_binder.proofs.definitions.see_members.Given as goal

abbrev pub invariant-loop-s : goal.invariant-loop-s
invariant-loop-s l =
    sights_of l.sights.items ++ members_sights (body_tree (drop l.s-index l.body))
    ≡ sights_of l.fn.sights.items ++ members_sights (body_tree l.body)

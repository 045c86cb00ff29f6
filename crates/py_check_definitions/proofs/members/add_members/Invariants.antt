use Rattle.std.proofs.Common.{◌≡◌, ◌++◌, [], drop}
use Rattle.py_syntax.specs.Statements.{body_tree}
use Rattle.py_check_context.specs.Context.{context}
use Rattle.py_check_places.specs.Views.{known_at}
use Rattle.py_check_definitions.specs.Views.{members_along}
use Rattle.py_check_definitions.proofs.members.add_members.Given as goal

abbrev pub invariant-loop-s : goal.invariant-loop-s
invariant-loop-s l =
    l.faults ++ members_along (context l.scope) (known_at l.place) l.owner l.earlier.keys l.rest (body_tree (drop l.s-index l.body))
    ≡ l.fn.faults ++ members_along (context l.scope) (known_at l.place) l.owner [] l.insides (body_tree l.body)

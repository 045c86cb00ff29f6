use Rattle.std.proofs.Common.{◌≡◌, ◌++◌, drop}
use Rattle.py_check_context.specs.Context.{context}
use Rattle.py_check_members.specs.Bodies.{refused_from}
use Rattle.py_check_members.specs.Views.{events_of}
use Rattle.py_check_members.proofs.bodies.add_all_refused.Given as goal

abbrev pub invariant-loop-i : goal.invariant-loop-i
invariant-loop-i l =
    l.faults ++ refused_from (context l.scope).meaning (events_of l.events) l.i (events_of (drop l.i l.events))
    ≡ l.fn.faults ++ refused_from (context l.scope).meaning (events_of l.events) 0 (events_of l.events)

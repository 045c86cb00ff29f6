use Rattle.std.proofs.Common.{◌≡◌, map, drop}
use Rattle.py_check_context.specs.Context.{context}
use Rattle.py_check_members.specs.Members.{with_new, made_from, above_in}
use Rattle.py_check_members.specs.Views.{events_of, entries_of, own_of}
use Rattle.py_check_members.proofs.own.add_members.Given as goal

abbrev pub invariant-loop-i : goal.invariant-loop-i
invariant-loop-i l =
    with_new (entries_of l.own) (made_from (context l.around.outer.now).meaning (context l.around.inner.now).meaning l.around.class (above_in (map own_of l.text.behind.classes.now) l.text.behind.row.now) (events_of l.text.events.now) l.i (events_of (drop l.i l.text.events.now)))
    ≡ with_new (entries_of l.fn.own) (made_from (context l.around.outer.now).meaning (context l.around.inner.now).meaning l.around.class (above_in (map own_of l.text.behind.classes.now) l.text.behind.row.now) (events_of l.text.events.now) 0 (events_of l.text.events.now))

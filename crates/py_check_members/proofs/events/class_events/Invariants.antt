use Rattle.std.proofs.Common.{◌≡◌, ◌+◌, ◌++◌, length, drop}
use Rattle.py_syntax.specs.Statements.{body_tree}
use Rattle.py_check_names.specs.Outline.{methods_in}
use Rattle.py_check_members.specs.Deeds.{body_events}
use Rattle.py_check_members.specs.Views.{events_of}
use Rattle.py_check_members.proofs.events.class_events.Given as goal

abbrev pub invariant-loop-s : goal.invariant-loop-s
invariant-loop-s l =
    record {
      found : events_of l.found.items ++ body_events l.init l.next (body_tree (drop l.s-index l.body)) ≡ body_events l.init l.first (body_tree l.body);
      count : l.next + length (methods_in (body_tree (drop l.s-index l.body))) ≡ l.first + length (methods_in (body_tree l.body));
    }

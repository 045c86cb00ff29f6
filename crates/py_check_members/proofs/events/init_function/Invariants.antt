use Rattle.std.proofs.Common.{◌≡◌, ◌+◌, length, drop}
use Rattle.py_syntax.specs.Statements.{body_tree}
use Rattle.py_check_names.specs.Outline.{methods_in}
use Rattle.py_check_members.specs.Deeds.{init_function}
use Rattle.py_check_members.proofs.events.init_function.Given as goal

abbrev pub invariant-loop-s : goal.invariant-loop-s
invariant-loop-s l =
    record {
      found : init_function l.next (body_tree (drop l.s-index l.body)) ≡ init_function l.first (body_tree l.body);
      count : l.next + length (methods_in (body_tree (drop l.s-index l.body))) ≡ l.first + length (methods_in (body_tree l.body));
    }

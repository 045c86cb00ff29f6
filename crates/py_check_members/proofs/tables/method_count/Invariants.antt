use Rattle.std.proofs.Common.{◌≡◌, ◌+◌, ◌≤◌, length, drop}
use Rattle.py_syntax.specs.Statements.{body_tree}
use Rattle.py_check_names.specs.Outline.{methods_in}
use Rattle.py_check_members.proofs.tables.method_count.Given as goal

abbrev pub invariant-loop-s : goal.invariant-loop-s
invariant-loop-s l =
    record {
      count : l.count + length (methods_in (body_tree (drop l.s-index l.body))) ≡ length (methods_in (body_tree l.body));
      within : l.count ≤ l.s-index;
    }

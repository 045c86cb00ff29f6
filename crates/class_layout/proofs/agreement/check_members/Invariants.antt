use Rattle.std.proofs.Common.{◌≡◌, length}
use Rattle.py_typed.specs.ClassTables.{class_table}
use Rattle.class_layout.specs.Layouts.{AreKnown}
use Rattle.class_layout.proofs.agreement.check_members.Given as goal

abbrev pub invariant-loop-number : goal.invariant-loop-number
invariant-loop-number l =
    record {
      long : length l.known ≡ l.number;
      known : AreKnown (class_table l.classes) l.known;
    }

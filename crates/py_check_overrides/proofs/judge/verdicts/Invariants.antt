use Rattle.std.proofs.Common.{◌≡◌, [], map, drop, length}
use Rattle.py_check_classes.specs.Headers.{entry}
use Rattle.py_check_overrides.specs.Overrides.{verdicts_behind}
use Rattle.py_check_overrides.specs.Lines.{AreLines}
use Rattle.py_check_overrides.specs.Judged.{AllTold}
use Rattle.py_check_overrides.specs.Views.{verdict, owns}
use Rattle.py_check_overrides.proofs.judge.verdicts.Given as goal

abbrev pub invariant-loop-header : goal.invariant-loop-header
invariant-loop-header l = record {
  verdicts : verdicts_behind (map entry l.classes.headers.now) (owns l.classes.members.now) (map verdict l.verdicts) (drop l.header-index l.classes.headers.now) ≡ verdicts_behind (map entry l.classes.headers.now) (owns l.classes.members.now) [] l.classes.headers.now;
  counted : length l.verdicts ≡ l.header-index;
  placed : length l.lines.line_of ≡ length l.verdicts;
  lines : AreLines l.lines;
  told : AllTold (map entry l.classes.headers.now) (owns l.classes.members.now) (map verdict l.verdicts) l.lines;
}

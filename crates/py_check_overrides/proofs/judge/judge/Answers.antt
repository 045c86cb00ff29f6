use Rattle.std.proofs.Common.{map, length}
use Rattle.py_check_classes.specs.Headers.{entry}
use Rattle.py_check_overrides.specs.Views.{owns}
use Rattle.py_check_overrides.proofs.JudgeLemmas.{not_passed}
use Rattle.py_check_overrides.proofs.judge.judge.Goals as goal

pub returns-in-Untyped-clause-judged : goal.returns-in-Untyped-clause-judged
returns-in-Untyped-clause-judged c =
    not_passed (map entry c.args.classes.now.headers.now) (owns c.args.classes.now.members.now) c.args.lines.now (length c.args.before.now) c.silent.result c.silent.ensures.above c.silent.ensures.new c.silent.ensures.verdict

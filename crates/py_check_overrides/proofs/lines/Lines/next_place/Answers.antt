use Rattle.py_check_overrides.proofs.LineLemmas.{ends_go_on}
use Rattle.py_check_overrides.proofs.lines.Lines.next_place.Goals as goal

pub returns-in-Some-clause-goes_on : goal.returns-in-Some-clause-goes_on
returns-in-Some-clause-goes_on c = ends_go_on c.args.self.now c.args.above c.in-Some.place c.requires.lines c.in-Some.ensures

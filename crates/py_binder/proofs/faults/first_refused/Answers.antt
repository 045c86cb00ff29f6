use Rattle.std.proofs.Common.{sym, ◌∙◌}
use Rattle.py_binder.specs.Scope.{contains}
use Rattle.py_binder.proofs.TableLemmas.{find_step, find_here}
use Rattle.py_binder.proofs.faults.first_refused.Goals as goal

pub returns-then-contains : goal.returns-then-contains
returns-then-contains c =
    find_here (contains c.args.refused.now.keys) _ _ _ _ c.loop-name-test.true c.name-item.is (sym c.contains.ensures ∙ c.if-contains.true) c.loop-name.invariant

pub loop-name-preserved : goal.loop-name-preserved
loop-name-preserved c =
    find_step (contains c.args.refused.now.keys) _ _ _ _ c.loop-name-test.true c.name-item.is (sym c.contains.ensures ∙ c.if-contains.false) c.loop-name.invariant

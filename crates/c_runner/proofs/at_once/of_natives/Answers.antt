use Rattle.c_runner.proofs.OwnLemmas.{truth_plain}
use Rattle.c_runner.proofs.at_once.of_natives.Goals as goal

pub returns-in-Eq-clause-plain : goal.returns-in-Eq-clause-plain
returns-in-Eq-clause-plain c = truth_plain _ c.truth.result c.truth.ensures

pub returns-in-Lt-clause-plain : goal.returns-in-Lt-clause-plain
returns-in-Lt-clause-plain c = truth_plain _ c.truth-in-Lt.result c.truth-in-Lt.ensures

pub returns-in-Le-clause-plain : goal.returns-in-Le-clause-plain
returns-in-Le-clause-plain c = truth_plain _ c.truth-in-Le.result c.truth-in-Le.ensures

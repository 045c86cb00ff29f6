use Rattle.py_binder.proofs.TableLemmas.{first_come_first}
use Rattle.py_binder.proofs.laws.first_come_first.Goals as goal

pub returns : goal.returns
returns c = first_come_first

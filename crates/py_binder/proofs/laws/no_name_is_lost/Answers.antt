use Rattle.py_binder.proofs.TableLemmas.{contains_first}
use Rattle.py_binder.proofs.laws.no_name_is_lost.Goals as goal

pub returns : goal.returns
returns c = contains_first

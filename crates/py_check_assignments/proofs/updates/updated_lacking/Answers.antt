use Rattle.std.proofs.Common.{rules}
use Rattle.py_check_coercions.proofs.PartLemmas.{type_at}
use Rattle.py_check_assignments.proofs.updates.updated_lacking.Goals as goal

pub returns : goal.returns
returns c = search (rules, type_at, c.deref.ensures, c.in_ok-no_attribute.ensures)

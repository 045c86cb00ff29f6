use Rattle.py_check_laws.proofs.StatementLayers.{statement_layer}
use Rattle.py_check_laws.proofs.laws.a_statement_has_an_entry_or_its_parts_have.Goals as goal

pub returns : goal.returns
returns c = λ C r around k n. statement_layer C r around k n

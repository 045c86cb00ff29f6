use Rattle.py_check_expressions_laws.proofs.Layers.{node_layer}
use Rattle.py_check_expressions_laws.proofs.laws.an_expression_has_an_entry_or_its_parts_have.Goals as goal

pub returns : goal.returns
returns c = λ C V w known n. node_layer C V w known n

use Rattle.py_parser.proofs.ModuleReading.{tree_of, shallow_of, fault_of}
use Rattle.py_parser.proofs.module.Goals as goal

pub returns-clause-exact : goal.returns-clause-exact
returns-clause-exact c = tree_of _ _ c.as_slice.ensures c.requires _ c.in_ok-body.ensures

pub returns-clause-shallow : goal.returns-clause-shallow
returns-clause-shallow c = shallow_of _ _ c.as_slice.ensures c.requires _ c.in_ok-body.ensures

pub returns-in_err-body-clause-exact : goal.returns-in_err-body-clause-exact
returns-in_err-body-clause-exact c = fault_of _ _ c.as_slice.ensures c.requires _ _ c.from_residual.ensures.1 c.in_err-body.ensures

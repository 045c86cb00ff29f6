use Rattle.class_layout.proofs.WellTypedLemmas.{well_typed_classes_fit}
use Rattle.py_check.specs.Module.{typed}
use Rattle.py_check_laws.proofs.Complete.{quiet_is_well_typed}
use Rattle.py_check_laws.proofs.laws.classes_of_a_quiet_module_have_a_layout.Goals as goal

pub returns : goal.returns
returns c = λ is_identifier m h w ns. well_typed_classes_fit is_identifier (typed m) (quiet_is_well_typed is_identifier m h w ns)

use Rattle.class_layout.proofs.WellTypedLemmas.{well_typed_classes_fit}
use Rattle.class_layout.proofs.laws.well_typed_classes_fit.Goals as goal

pub returns : goal.returns
returns c = well_typed_classes_fit

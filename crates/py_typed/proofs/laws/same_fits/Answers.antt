use Rattle.py_typed.proofs.FitLemmas.{same_fits}
use Rattle.py_typed.proofs.laws.same_fits.Goals as goal

pub returns : goal.returns
returns c = same_fits

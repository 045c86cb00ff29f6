use Rattle.py_typed.proofs.FitLemmas.{fits_itself}
use Rattle.py_typed.proofs.laws.fits_itself.Goals as goal

pub returns : goal.returns
returns c = fits_itself

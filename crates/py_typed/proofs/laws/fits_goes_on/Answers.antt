use Rattle.py_typed.proofs.OnwardLemmas.{fits_on}
use Rattle.py_typed.proofs.laws.fits_goes_on.Goals as goal

pub returns : goal.returns
returns c = fits_on

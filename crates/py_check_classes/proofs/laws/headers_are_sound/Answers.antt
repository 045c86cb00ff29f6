use Rattle.py_check_classes.proofs.HeaderLemmas.{headers_sound}
use Rattle.py_check_classes.proofs.laws.headers_are_sound.Goals as goal

pub returns : goal.returns
returns c = headers_sound

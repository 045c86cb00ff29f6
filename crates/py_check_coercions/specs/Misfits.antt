-- What the program's value that does not fit stands for.
use Rattle.py_typed.specs.Sorts.{sort}
use Rattle.py_check_coercions.specs.declared.rows.Misfit as declared
use Rattle.py_check_coercions.specs.Rows.{Misfit}

abbrev pub misfit_seen : declared.Misfit → Misfit
misfit_seen u = record { place = u.place; found = sort u.found.now; asked = sort u.asked.now }

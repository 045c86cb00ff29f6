-- What the program's entries stand for.
use Rattle.py_typed.specs.Sorts.{Sort, sort}
use Rattle.py_check_displays.specs.declared.dicts.EntryTypes.{EntryTypes}
use Rattle.py_check_displays.specs.declared.dicts.EntryMisfit as declared
use Rattle.py_check_displays.specs.Dicts.{EntryMisfit}

abbrev pub entry_types : EntryTypes → Sort × Sort
entry_types p = (sort p.key.now, sort p.value.now)

abbrev pub entry_misfit_seen : declared.EntryMisfit → EntryMisfit
entry_misfit_seen u = record { place = u.place; key = sort u.key.now; value = sort u.value.now }

use Rattle.std.proofs.Common.{◌≡◌, ◌++◌, drop}
use Rattle.py_binder.specs.Sights.{aliases_sights}
use Rattle.py_binder.specs.Collected.{sights_of}
use Rattle.py_binder.proofs.imports.see_aliases.Given as goal

abbrev pub invariant-loop-name : goal.invariant-loop-name
invariant-loop-name l =
    sights_of l.sights.items ++ aliases_sights (drop l.name-index l.names) l.span
    ≡ sights_of l.fn.sights.items ++ aliases_sights l.names l.span

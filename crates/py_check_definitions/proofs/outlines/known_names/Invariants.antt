use Rattle.std.proofs.Common.{◌≡◌, ◌++◌, drop}
use Rattle.py_check_definitions.specs.Views.{known_from}
use Rattle.py_check_definitions.proofs.outlines.known_names.Given as goal

abbrev pub invariant-loop-name : goal.invariant-loop-name
invariant-loop-name l =
    l.known.items ++ known_from l.headers l.classes (drop l.name-index l.said) ≡ known_from l.headers 0 l.said

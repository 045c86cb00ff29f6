use Rattle.std.proofs.Common.{◌≡◌, ◌++◌, map, drop}
use Rattle.py_check_names.specs.Outline.{imported_as}
use Rattle.py_check_names.proofs.outline.say_imports.Given as goal

abbrev pub invariant-loop-name : goal.invariant-loop-name
invariant-loop-name l =
    l.said.items ++ map (imported_as l.allowed l.source) (drop l.name-index l.names)
    ≡ l.fn.said.items ++ map (imported_as l.allowed l.source) l.names

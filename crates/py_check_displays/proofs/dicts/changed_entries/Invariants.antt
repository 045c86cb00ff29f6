use Rattle.std.proofs.Common.{◌≡◌, ◌++◌, length, map, reverse}
use Rattle.py_typed.specs.Expressions.{typed_entry}
use Rattle.py_check_displays.specs.Dicts as rule_of
use Rattle.py_check_displays.specs.Entries.{entry_types}
use Rattle.py_check_displays.proofs.dicts.changed_entries.Given as goal

abbrev pub invariant-loop-k : goal.invariant-loop-k
invariant-loop-k l =
    map (rule_of.changed_entry (entry_types l.types)) (map typed_entry l.fn.es)
    ≡ map (rule_of.changed_entry (entry_types l.types)) (map typed_entry l.rest) ++ reverse (map typed_entry l.back.items)

abbrev pub decreases-loop-k : goal.decreases-loop-k
decreases-loop-k l = length l.rest

use Rattle.std.proofs.Common.{rules, map, ◌∙◌}
use Rattle.py_typed.specs.Expressions.{typed_entry}
use Rattle.py_check_displays.specs.Dicts as rule_of
use Rattle.py_check_displays.specs.Entries.{entry_types}
use Rattle.py_check_displays.proofs.EntryLemmas.{changed_end}
use Rattle.py_check_displays.proofs.dicts.changed_entries.Goals as goal

pub returns : goal.returns
returns c =
    let f = rule_of.changed_entry (entry_types c.args.types) in
    changed_end f c.loop-k.rest c.loop-k.back.items c.from_vec.result (map f (map typed_entry c.args.es)) (search rules) (c.from_vec.ensures ∙ c.reverse.ensures.items) c.loop-k.invariant

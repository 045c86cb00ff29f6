use Rattle.std.proofs.Common.{map}
use Rattle.py_typed.specs.Classes.{with_sort}
use Rattle.py_check_members.specs.Members.{typed_attribute}
use Rattle.py_check_members.proofs.NewLemmas.{filter_on}
use Rattle.py_check_members.proofs.entries.typed_attributes.Goals as goal

pub loop-i-preserved : goal.loop-i-preserved
loop-i-preserved c =
    filter_on typed_attribute c.args.own.now.entries c.loop-i.i c.get_index.result (map with_sort c.loop-i.attrs) (map with_sort c.add_attribute.new.attrs) c.get_index.ensures.entry c.loop-i.invariant c.in_ok-add_attribute.ensures

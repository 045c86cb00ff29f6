use Rattle.py_check_members.specs.Members.{own_method}
use Rattle.py_check_members.proofs.NewLemmas.{filter_on}
use Rattle.py_check_members.proofs.entries.own_methods.Goals as goal

pub loop-i-preserved : goal.loop-i-preserved
loop-i-preserved c =
    filter_on own_method c.args.own.now.entries c.loop-i.i c.get_index.result c.loop-i.methods c.add_method.new.methods c.get_index.ensures.entry c.loop-i.invariant c.in_ok-add_method.ensures

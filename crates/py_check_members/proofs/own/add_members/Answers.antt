use Rattle.std.proofs.Common.{map}
use Rattle.py_check_context.specs.Context.{context}
use Rattle.py_check_members.specs.Members.{above_in}
use Rattle.py_check_members.specs.Tables.{places_by}
use Rattle.py_check_members.specs.Views.{entries_of, own_of}
use Rattle.py_check_members.proofs.EventLemmas.{made_on}
use Rattle.py_check_members.proofs.own.add_members.Goals as goal

pub loop-i-preserved : goal.loop-i-preserved
loop-i-preserved c =
    made_on (context c.args.around.outer.now).meaning (context c.args.around.inner.now).meaning c.args.around.class (above_in (map own_of c.args.text.behind.classes.now) c.args.text.behind.row.now) c.args.text.events.now c.loop-i.i c.event-item.result (places_by c.args.text.places.now) (entries_of c.loop-i.own) (entries_of c.add_member.new.own) _ c.loop-i-test.true c.event-item.is (c.requires.each c.event-item.result.name.now) c.in_ok-add_member.ensures c.loop-i.invariant

use Rattle.py_check_members.specs.Tables.{places_by}
use Rattle.py_check_members.proofs.PlaceLemmas.{places_more, places_whole}
use Rattle.py_check_members.proofs.places.first_places.Goals as goal

pub loop-i-preserved : goal.loop-i-preserved
loop-i-preserved c =
    places_more c.args.events.now c.loop-i.i c.index-events-i.result (places_by c.loop-i.table) (places_by c.note.new.table) c.loop-i-test.true c.index-events-i.is c.in_ok-note.ensures c.loop-i.invariant

pub returns : goal.returns
returns c = places_whole c.args.events.now c.loop-i.i (places_by c.loop-i.table) c.loop-i-test.false c.loop-i.invariant

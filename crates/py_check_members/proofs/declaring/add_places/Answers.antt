use Rattle.py_check_members.proofs.EventLemmas.{places_on}
use Rattle.std.specs.Str.{bytes_eq}
use Rattle.indexmap.specs.IndexMap.{get}
use Rattle.py_check_members.proofs.declaring.add_places.Goals as goal

pub loop-i-preserved : goal.loop-i-preserved
loop-i-preserved c =
    λ name.
    places_on c.args.events.now c.loop-i.i c.index-events-i.result name (get bytes_eq c.loop-i.places name) (get bytes_eq c.add_place.new.places name) _ c.loop-i-test.true c.index-events-i.is (c.in_ok-add_place.ensures name) (c.loop-i.invariant name)

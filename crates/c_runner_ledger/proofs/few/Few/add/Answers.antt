use Rattle.c_runner_ledger.proofs.FewLemmas.{added_to}
use Rattle.c_runner_ledger.proofs.few.Few.add.Goals as goal

pub invariant_of-self-2 : goal.invariant_of-self-2
invariant_of-self-2 c =
    let placed = rw c.as_slice.ensures.value at c.place_for-place.ensures.place in
    (added_to c.args.c c.place_for-place.result c.self.inside.numbers.items c.insert.new.self.items c.self.invariant placed c.in_ok-insert.ensures.items).0

pub returns : goal.returns
returns c =
    let placed = rw c.as_slice.ensures.value at c.place_for-place.ensures.place in
    rw (← c.self.view_is) (added_to c.args.c c.place_for-place.result c.self.inside.numbers.items c.insert.new.self.items c.self.invariant placed c.in_ok-insert.ensures.items).1

use Rattle.refcount_insert.proofs.PairSteps.{below_pushed}
use Rattle.refcount_insert.proofs.pairs.push_below.Goals as goal

pub loop-i-preserved : goal.loop-i-preserved
loop-i-preserved c = λ r. below_pushed c.loop-i.rest.items c.push.new.self.items c.args.rest.now.items c.args.numbers.now c.args.place c.loop-i.i r c.loop-i-test.true c.in_ok-push.ensures.items (c.loop-i.invariant r)

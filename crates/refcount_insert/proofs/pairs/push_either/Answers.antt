use Rattle.refcount_insert.proofs.PairSteps.{both_pushed, own_pushed}
use Rattle.refcount_insert.proofs.pairs.push_either.Goals as goal

pub returns-in_ok-push-clause-first : goal.returns-in_ok-push-clause-first
returns-in_ok-push-clause-first c = λ r. (both_pushed c.args.common.now.items c.push.new.self.items c.args.first.now.items c.args.second.now c.args.place c.args.number r c.if-place-second.true c.if-second-place.true c.in_ok-push.ensures.items).0

pub returns-in_ok-push-clause-second : goal.returns-in_ok-push-clause-second
returns-in_ok-push-clause-second c = λ r. (both_pushed c.args.common.now.items c.push.new.self.items c.args.first.now.items c.args.second.now c.args.place c.args.number r c.if-place-second.true c.if-second-place.true c.in_ok-push.ensures.items).1

pub returns-in_ok-push-2-clause-first : goal.returns-in_ok-push-2-clause-first
returns-in_ok-push-2-clause-first c = λ r. own_pushed c.args.common.now.items c.args.first.now.items c.push-else-place-second.new.self.items c.args.number r c.in_ok-push-2.ensures.items

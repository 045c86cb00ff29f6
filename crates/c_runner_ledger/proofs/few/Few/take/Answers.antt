use Rattle.c_runner_ledger.proofs.FewLemmas.{taken_at, not_there}
use Rattle.c_runner_ledger.proofs.few.Few.take.Goals as goal

pub invariant_of-self : goal.invariant_of-self
invariant_of-self c =
    let found = rw c.as_slice.ensures.value at c.in-Some.ensures in
    (taken_at c.args.c c.in-Some.place c.self.inside.numbers.items c.remove.new.self.items c.self.invariant found c.remove.ensures.items).0

pub returns-in-Some-clause-owned : goal.returns-in-Some-clause-owned
returns-in-Some-clause-owned c =
    let found = rw c.as_slice.ensures.value at c.in-Some.ensures in
    rw (← c.self.view_is) (taken_at c.args.c c.in-Some.place c.self.inside.numbers.items c.remove.new.self.items c.self.invariant found c.remove.ensures.items).1

pub returns-in-Some-clause-taken : goal.returns-in-Some-clause-taken
returns-in-Some-clause-taken c =
    let found = rw c.as_slice.ensures.value at c.in-Some.ensures in
    rw (← c.self.view_is) (taken_at c.args.c c.in-Some.place c.self.inside.numbers.items c.remove.new.self.items c.self.invariant found c.remove.ensures.items).2

pub returns-in-None-clause-owned : goal.returns-in-None-clause-owned
returns-in-None-clause-owned c =
    let found = rw c.as_slice.ensures.value at c.in-None.ensures in
    rw (← c.self.view_is) (not_there c.args.c c.self.inside.numbers.items found).0

pub returns-in-None-clause-taken : goal.returns-in-None-clause-taken
returns-in-None-clause-taken c =
    let found = rw c.as_slice.ensures.value at c.in-None.ensures in
    rw (← c.self.view_is) (not_there c.args.c c.self.inside.numbers.items found).1

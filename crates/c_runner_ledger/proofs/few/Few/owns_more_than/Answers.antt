use Rattle.std.proofs.Common.{sym, ap, ◌∙◌, nat_lt}
use Rattle.c_runner_ledger.proofs.FewLemmas.{times_counted}
use Rattle.c_runner_ledger.proofs.few.Few.owns_more_than.Goals as goal

pub returns : goal.returns
returns c =
    let counted = rw c.as_slice.ensures.value at c.count_of.ensures in
    rw (← c.self.view_is) (ap (nat_lt c.args.n) (counted ∙ sym (times_counted c.args.c c.self.inside.numbers.items)))

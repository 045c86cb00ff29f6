use Rattle.std.proofs.Common.{rules, ◌≡◌, ◌∙◌, ap, sym, ◌+◌, ◌-◌, Some, nat_lt, arith}
use Rattle.std.specs.Ordering.{nat_cmp}
use Rattle.std.specs.BTreeMap.{is_at}
use Rattle.std.specs.Map.{remove_entry}
use Rattle.c_runner_ledger.specs.Ledgers.{numbers_of}
use Rattle.c_runner_ledger.proofs.LedgerLemmas.{absent, owned, lowered, removed, set_again}
use Rattle.c_runner_ledger.proofs.numbers.Numbers.take.Goals as goal

pub returns-in-None-clause-owned : goal.returns-in-None-clause-owned
returns-in-None-clause-owned c =
    rw (← c.self.view_is) (ap (nat_lt 0) (sym (absent c.args.c c.self.inside.further.entries (sym c.in-None.ensures.value)).0))

pub returns-in-None-clause-taken : goal.returns-in-None-clause-taken
returns-in-None-clause-taken c =
    rw (← c.self.view_is) (ap numbers_of (search rules) ∙ sym (absent c.args.c c.self.inside.further.entries (sym c.in-None.ensures.value)).1)

pub returns-then-further-gt0-clause-owned : goal.returns-then-further-gt0-clause-owned
returns-then-further-gt0-clause-owned c =
    rw (← c.self.view_is) (owned c.args.c c.in-Some.further.now c.self.inside.further.entries (sym c.in-Some.ensures.value))

pub returns-then-further-gt0-clause-taken : goal.returns-then-further-gt0-clause-taken
returns-then-further-gt0-clause-taken c =
    let one_more : c.in-Some.further.now ≡ c.in-Some.further.now - 1 + 1 = omega (arith, c.if-further-gt0.true) in
    rw (← c.self.view_is) (ap numbers_of (c.get_mut.follows.holds (c.in-Some.further.now - 1)).0
    ∙ lowered c.args.c (c.in-Some.further.now - 1) c.self.inside.further.entries (sym c.in-Some.ensures.value ∙ ap Some one_more))

pub returns-clause-owned : goal.returns-clause-owned
returns-clause-owned c =
    rw (← c.self.view_is) (owned c.args.c c.in-Some.further.now c.self.inside.further.entries (sym c.in-Some.ensures.value))

pub returns-clause-taken : goal.returns-clause-taken
returns-clause-taken c =
    let same_value = set_again c.args.c c.in-Some.further.now c.self.inside.further.entries (sym c.in-Some.ensures.value) in
    let last : c.in-Some.further.now ≡ 0 = omega (arith, c.if-further-gt0.false) in
    rw (← c.self.view_is) (ap numbers_of (c.remove.ensures.entries ∙ ap (remove_entry (is_at (nat_cmp c.args.c))) ((c.get_mut.follows.holds c.in-Some.further.now).0 ∙ same_value))
    ∙ removed c.args.c c.self.inside.further.entries (sym c.in-Some.ensures.value ∙ ap Some last))

use Rattle.std.proofs.Common.{◌∙◌, ap, arith}
use Rattle.c_runner_ledger.proofs.LedgerLemmas.{standing, stands, added}
use Rattle.c_runner_ledger.proofs.numbers.Numbers.add.Goals as goal
use Rattle.c_runner_ledger.proofs.numbers.Numbers.add.Goals.{in-None, in-Some}

pub overflow_add-further : goal.overflow_add-further
overflow_add-further c =
    let countable = rw (← c.self.view_is) at c.requires.countable in
    let often = ap standing c.in-Some.ensures.value in
    omega (arith, countable, often, stands c.args.c c.self.inside.further.entries)

pub returns : goal.returns
returns c =
    let more_is = added c.args.c c.match-get.further c.self.inside.further.entries c.match-get.self-inside.further.entries c.insert.new.self.entries c.in_ok-insert.ensures.was_ordered in
    rw (← c.self.view_is) (elim c.match-get.branch [
      | in-None w ↦ more_is (ap (λ i. i.further.entries) w.self-inside-is) (w.further-is ∙ ap standing w.in-None.ensures.value) c.in_ok-insert.ensures.entries
      | in-Some w ↦ more_is (ap (λ i. i.further.entries) w.self-inside-is) (w.further-is ∙ ap standing w.in-Some.ensures.value) c.in_ok-insert.ensures.entries
    ])

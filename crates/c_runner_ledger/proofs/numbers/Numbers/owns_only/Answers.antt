use Rattle.std.proofs.Common.{◌≡◌, sym, ap, ◌∙◌, true, false, length, nat_eq, arith}
use Rattle.std.specs.Prelude.{◌&&◌}
use Rattle.std.proofs.lemmas.Bool.Decides.{nat_tests}
use Rattle.c_runner_ledger.proofs.LedgerLemmas.{only, none_owned}
use Rattle.c_runner_ledger.proofs.numbers.Numbers.owns_only.Goals as goal

pub returns-in-None : goal.returns-in-None
returns-in-None c = rw (← c.self.view_is) (none_owned c.args.c c.self.inside.further.entries (sym c.in-None.ensures.value))

pub returns-then-further-gt0 : goal.returns-then-further-gt0
returns-then-further-gt0 c =
    let often : nat_eq c.in-Some.further.now 0 ≡ false = grind (arith, nat_tests, c.if-further-gt0.true) in
    rw (← c.self.view_is) (ap (λ b. b && nat_eq (length c.self.inside.further.entries) 1) (sym often)
    ∙ only c.args.c c.in-Some.further.now c.self.inside.further.entries (sym c.in-Some.ensures.value))

pub returns-else-further-gt0 : goal.returns-else-further-gt0
returns-else-further-gt0 c =
    let last : nat_eq c.in-Some.further.now 0 ≡ true = grind (arith, nat_tests, c.if-further-gt0.false) in
    rw (← c.self.view_is) (ap (λ n. nat_eq n 1) c.len.ensures.len
    ∙ ap (λ b. b && nat_eq (length c.self.inside.further.entries) 1) (sym last)
    ∙ only c.args.c c.in-Some.further.now c.self.inside.further.entries (sym c.in-Some.ensures.value))
